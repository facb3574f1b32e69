-- `runs::runs_to_words` meets its contract: a refusal is answered and nothing written; else the runs are laid and answered.
-- By the verdict of a conversion's table. Assumes nothing.
use borrow.Author.Rules.{rules}
use Rattle.std.proofs.Common.{ℕ, ◌≡◌, ◌^◌, [], List, length, Ok, Err, refl, sym, ap, ◌∙◌, arith}
use Rattle.rows.specs.Laid.{laid, words_for, written}
use Rattle.rows.proofs.LaidLaws.{below_all}
use Rattle.rows.proofs.WrittenLaws.{laid_written}
use Rattle.rules.specs.declared.Form.TheVariants.{Runs}
use Rattle.rules.specs.declared.Run.{Run}
use Rattle.rules.specs.Answer.{summed, no_route}
use Rattle.rules.specs.Convert.{to_words_verdict, to_words, to_words_out}
use Rattle.rules.specs.Operand.{Operand, lent, rows_of}
use Rattle.rules.specs.Records.{numbers_of}
use Rattle.rules.proofs.AnswerLaws.{by_fine, by_refusal}
use Rattle.rules.proofs.OperandLaws.{accepted_length}
use Rattle.operand.proofs.NumberLaws.{accepted_runs}
use Rattle.mask.proofs.JudgeLaws.{roomy, judged_count, judged_refused, judged_room, own_within, own_summary}
use Rattle.runs.proofs.runs_to_words.Goals as goal

abbrev as_lent : ℕ → List Run → Operand
as_lent len rs = lent (Runs len) [] (numbers_of rs)

pub returns-in_err-count : goal.returns-in_err-count
unfolding to_words to_words_out
returns-in_err-count c =
    let len = c.args.length in
    let o = as_lent len c.args.runs.now in
    let out = c.args.out.now in
    let w : c.check_runs.result ≡ Err c.in_err-count.field-0.0 = c.in_err-count.was in
    let r : c.from_residual.result ≡ Err c.in_err-count.field-0.0 = search rules in
    let bare = judged_refused o (words_for len) (length out) (sym c.check_runs.ensures ∙ w) in
    let p = by_refusal (to_words_verdict o out) (summed (rows_of o) no_route) (written len (rows_of o) out) out _ bare in
    (r ∙ p.0, p.1)

pub returns-in_err-has_room : goal.returns-in_err-has_room
unfolding to_words to_words_out
returns-in_err-has_room c =
    let len = c.args.length in
    let o = as_lent len c.args.runs.now in
    let out = c.args.out.now in
    let own : c.check_runs.result ≡ Ok c.in_ok-count.count = c.in_ok-count.was in
    let w : c.has_room.result ≡ Err c.in_err-has_room.field-0.0 = c.in_err-has_room.was in
    let r : c.from_residual-in_err-has_room.result ≡ Err c.in_err-has_room.field-0.0 = search rules in
    let m = (judged_count o (sym c.check_runs.ensures ∙ own)).0 in
    let bare = judged_room o (words_for len) (length out) m c.words_for.ensures (sym c.has_room.ensures ∙ w) in
    let p = by_refusal (to_words_verdict o out) (summed (rows_of o) no_route) (written len (rows_of o) out) out _ bare in
    (r ∙ p.0, p.1)

pub clear_last-requires : goal.clear_last-requires
clear_last-requires c =
    let w : c.has_room.result ≡ Ok c.in_ok-has_room.field-0 = c.in_ok-has_room.was in
    roomy c.words_for.ensures (sym c.has_room.ensures ∙ w)

pub lay_runs-requires : goal.lay_runs-requires
lay_runs-requires c =
    let len = c.args.length in
    let o = as_lent len c.args.runs.now in
    let own : c.check_runs.result ≡ Ok c.in_ok-count.count = c.in_ok-count.was in
    let w : c.has_room.result ≡ Ok c.in_ok-has_room.field-0 = c.in_ok-has_room.was in
    let m = (judged_count o (sym c.check_runs.ensures ∙ own)).0 in
    let room = roomy c.words_for.ensures (sym c.has_room.ensures ∙ w) in
    (accepted_runs o refl m, (omega (arith, room, c.clear_last.auto.out), omega (arith, m.0)))

pub accepted-requires : goal.accepted-requires
accepted-requires c =
    let o = as_lent c.args.length c.args.runs.now in
    let own : c.check_runs.result ≡ Ok c.in_ok-count.count = c.in_ok-count.was in
    let m = judged_count o (sym c.check_runs.ensures ∙ own) in
    own_within o m.0 m.1

pub returns : goal.returns
unfolding to_words to_words_out
returns c =
    let len = c.args.length in
    let o = as_lent len c.args.runs.now in
    let out = c.args.out.now in
    let own : c.check_runs.result ≡ Ok c.in_ok-count.count = c.in_ok-count.was in
    let w : c.has_room.result ≡ Ok c.in_ok-has_room.field-0 = c.in_ok-has_room.was in
    let m = judged_count o (sym c.check_runs.ensures ∙ own) in
    let room = roomy c.words_for.ensures (sym c.has_room.ensures ∙ w) in
    let fine = judged_room o (words_for len) (length out) m.0 c.words_for.ensures (sym c.has_room.ensures ∙ w) in
    let p = by_fine (to_words_verdict o out) (summed (rows_of o) no_route) (written len (rows_of o) out) out fine in
    let small = below_all (2 ^ 64) out (λ i. search rules) in (
      ap Ok (c.accepted.ensures ∙ own_summary o m.0 m.1) ∙ p.0,
      c.lay_runs.ensures ∙ ap (laid 0 (rows_of o)) c.clear_last.ensures ∙ laid_written len (rows_of o) out small (accepted_length o m.0) room ∙ p.1,
    )
