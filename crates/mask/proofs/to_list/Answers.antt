-- `mask::to_list` meets its contract: a refusal is answered and nothing written; else the rows are written and answered.
-- By the verdict of its table. Assumes nothing.
use borrow.Author.Rules.{rules}
use mathlib.Core.Path.{◌≡◌, sym, ap, ◌∙◌}
use mathlib.Core.List.{List, ◌++◌}
use Prim.Native.Nat.{ℕ}
use lib.ListN.{length, drop}
use Rattle.std.specs.Prelude.{Ok, Err}
use Rattle.rows.specs.Lists.{set_rows}
use Rattle.rules.specs.Operand.{Operand, lent, rows_of, count_of}
use Rattle.rules.specs.Answer.{summed, no_route}
use Rattle.rules.specs.Convert.{to_list_verdict, to_list, to_list_out}
use Rattle.rules.proofs.AnswerLaws.{by_fine, by_refusal}
use Rattle.mask.proofs.JudgeLaws.{roomy, judged_count, judged_refused, judged_room}
use Rattle.mask.proofs.to_list.Goals as goal

-- what an accepted operand leaves
abbrev to : Operand → List ℕ → List ℕ
to o out = set_rows 0 (rows_of o) ++ drop (count_of o) out

pub returns-in_err-count : goal.returns-in_err-count
unfolding to_list to_list_out
returns-in_err-count c =
    let o = lent c.args.form c.args.words.now c.args.rows.now in
    let out = c.args.out.now in
    let w : c.check.result ≡ Err c.in_err-count.field-0.0 = c.in_err-count.was in
    let r : c.from_residual.result ≡ Err c.in_err-count.field-0.0 = search rules in
    let p = by_refusal (to_list_verdict o out) (summed (rows_of o) no_route) (to o out) out _ (judged_refused o (count_of o) (length out) (sym c.check.ensures ∙ w)) in
    (r ∙ p.0, p.1)

pub returns-in_err-has_room : goal.returns-in_err-has_room
unfolding to_list to_list_out
returns-in_err-has_room c =
    let o = lent c.args.form c.args.words.now c.args.rows.now in
    let out = c.args.out.now in
    let own : c.check.result ≡ Ok c.in_ok-count.count = c.in_ok-count.was in
    let w : c.has_room.result ≡ Err c.in_err-has_room.field-0.0 = c.in_err-has_room.was in
    let r : c.from_residual-in_err-has_room.result ≡ Err c.in_err-has_room.field-0.0 = search rules in
    let m = judged_count o (sym c.check.ensures ∙ own) in
    let bare = judged_room o (count_of o) (length out) m.0 m.1 (sym c.has_room.ensures ∙ w) in
    let p = by_refusal (to_list_verdict o out) (summed (rows_of o) no_route) (to o out) out _ bare in
    (r ∙ p.0, p.1)

pub convert_to_list-requires : goal.convert_to_list-requires
convert_to_list-requires c =
    let o = lent c.args.form c.args.words.now c.args.rows.now in
    let own : c.check.result ≡ Ok c.in_ok-count.count = c.in_ok-count.was in
    let w : c.has_room.result ≡ Ok c.in_ok-has_room.field-0 = c.in_ok-has_room.was in
    let m = judged_count o (sym c.check.ensures ∙ own) in
    (m.0, m.1, roomy m.1 (sym c.has_room.ensures ∙ w))

pub returns : goal.returns
unfolding to_list to_list_out
returns c =
    let o = lent c.args.form c.args.words.now c.args.rows.now in
    let out = c.args.out.now in
    let own : c.check.result ≡ Ok c.in_ok-count.count = c.in_ok-count.was in
    let w : c.has_room.result ≡ Ok c.in_ok-has_room.field-0 = c.in_ok-has_room.was in
    let m = judged_count o (sym c.check.ensures ∙ own) in
    let fine = judged_room o (count_of o) (length out) m.0 m.1 (sym c.has_room.ensures ∙ w) in
    let p = by_fine (to_list_verdict o out) (summed (rows_of o) no_route) (to o out) out fine in
    (ap Ok c.convert_to_list.ensures.0 ∙ p.0, c.convert_to_list.ensures.1 ∙ p.1)
