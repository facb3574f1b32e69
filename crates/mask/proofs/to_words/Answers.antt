-- `mask::to_words` meets its contract: a refusal is answered and nothing written; else the rows are written and answered.
-- By the verdict of its table. Assumes nothing.
use borrow.Author.Rules.{rules}
use mathlib.Core.Path.{◌≡◌, sym, ap, ◌∙◌}
use mathlib.Core.List.{List}
use Prim.Native.Nat.{ℕ}
use lib.ListN.{length}
use Rattle.std.specs.Prelude.{Ok, Err}
use Rattle.rows.specs.Laid.{words_for, written}
use Rattle.rules.specs.Operand.{Operand, lent, rows_of, length_of}
use Rattle.rules.specs.Answer.{summed, no_route}
use Rattle.rules.specs.Convert.{to_words_verdict, to_words, to_words_out}
use Rattle.rules.proofs.AnswerLaws.{by_fine, by_refusal}
use Rattle.mask.proofs.JudgeLaws.{roomy, judged_count, judged_refused, judged_room}
use Rattle.mask.proofs.to_words.Goals as goal

abbrev needed : Operand → ℕ
needed o = words_for (length_of o.form)

-- what an accepted operand leaves
abbrev to : Operand → List ℕ → List ℕ
to o out = written (length_of o.form) (rows_of o) out

pub returns-in_err-count : goal.returns-in_err-count
unfolding to_words to_words_out
returns-in_err-count c =
    let o = lent c.args.form c.args.words.now c.args.rows.now in
    let out = c.args.out.now in
    let w : c.check.result ≡ Err c.in_err-count.field-0.0 = c.in_err-count.was in
    let r : c.from_residual.result ≡ Err c.in_err-count.field-0.0 = search rules in
    let p = by_refusal (to_words_verdict o out) (summed (rows_of o) no_route) (to o out) out _ (judged_refused o (needed o) (length out) (sym c.check.ensures ∙ w)) in
    (r ∙ p.0, p.1)

pub returns-in_err-has_room : goal.returns-in_err-has_room
unfolding to_words to_words_out
returns-in_err-has_room c =
    let o = lent c.args.form c.args.words.now c.args.rows.now in
    let out = c.args.out.now in
    let own : c.check.result ≡ Ok c.in_ok-count.count = c.in_ok-count.was in
    let w : c.has_room.result ≡ Err c.in_err-has_room.field-0.0 = c.in_err-has_room.was in
    let r : c.from_residual-in_err-has_room.result ≡ Err c.in_err-has_room.field-0.0 = search rules in
    let m = (judged_count o (sym c.check.ensures ∙ own)).0 in
    let size = c.words_for.ensures ∙ ap words_for c.length_of.ensures in
    let bare = judged_room o (needed o) (length out) m size (sym c.has_room.ensures ∙ w) in
    let p = by_refusal (to_words_verdict o out) (summed (rows_of o) no_route) (to o out) out _ bare in
    (r ∙ p.0, p.1)

pub convert_to_words-requires : goal.convert_to_words-requires
convert_to_words-requires c =
    let o = lent c.args.form c.args.words.now c.args.rows.now in
    let own : c.check.result ≡ Ok c.in_ok-count.count = c.in_ok-count.was in
    let w : c.has_room.result ≡ Ok c.in_ok-has_room.field-0 = c.in_ok-has_room.was in
    let m = judged_count o (sym c.check.ensures ∙ own) in
    let size = c.words_for.ensures ∙ ap words_for c.length_of.ensures in
    (m.0, m.1, roomy size (sym c.has_room.ensures ∙ w))

pub returns : goal.returns
unfolding to_words to_words_out
returns c =
    let o = lent c.args.form c.args.words.now c.args.rows.now in
    let out = c.args.out.now in
    let own : c.check.result ≡ Ok c.in_ok-count.count = c.in_ok-count.was in
    let w : c.has_room.result ≡ Ok c.in_ok-has_room.field-0 = c.in_ok-has_room.was in
    let m = (judged_count o (sym c.check.ensures ∙ own)).0 in
    let size = c.words_for.ensures ∙ ap words_for c.length_of.ensures in
    let fine = judged_room o (needed o) (length out) m size (sym c.has_room.ensures ∙ w) in
    let p = by_fine (to_words_verdict o out) (summed (rows_of o) no_route) (to o out) out fine in
    (ap Ok c.convert_to_words.ensures.0 ∙ p.0, c.convert_to_words.ensures.1 ∙ p.1)
