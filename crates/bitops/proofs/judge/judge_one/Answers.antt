-- `bitops::judge::judge_one` meets its contract: the first part of the table that refuses is told.
-- By the law of parts in order. Assumes nothing.
use borrow.Author.Rules.{rules}
use Prim.Native.Nat.{ℕ}
use native.Mathlib.Decide.{dec_le}
use mathlib.Core.Path.{◌≡◌, sym, ap, ◌∙◌}
use mathlib.Core.List.{[], ◌∷◌}
use Rattle.std.specs.Prelude.{Ok, Err}
use Rattle.rows.specs.declared.Reason.TheVariants.{NoRoom}
use Rattle.rows.specs.Laid.{words_for}
use Rattle.rows.specs.Table.{operand_1, no_operand, need, first}
use Rattle.rows.proofs.TableLaws.{parts_ok, parts_err, parts_last}
use Rattle.rules.specs.Operand.{lent, set_checks}
use Rattle.bitops.proofs.judge.judge_one.Goals as goal

pub returns-in_err-check_set : goal.returns-in_err-check_set
returns-in_err-check_set c =
    let a = c.args in
    let w : c.check_set.result ≡ Err c.in_err-check_set.field-0.0 = c.in_err-check_set.was in
    let r : c.from_residual.result ≡ Err c.in_err-check_set.field-0.0 = search rules in
    r ∙ sym (parts_err (set_checks operand_1 (lent a.a a.awords.now a.arows.now)) _ (sym c.check_set.ensures ∙ w))

pub returns : goal.returns
returns c =
    let a = c.args in
    let w : c.check_set.result ≡ Ok tt = c.in_ok-check_set.was in
    let words = c.words_for.ensures ∙ ap words_for c.length_of.ensures in
    c.has_room.ensures
    ∙ ap (λ (n : ℕ). first (need (dec_le n a.room) NoRoom no_operand ∷ [])) words
    ∙ sym (parts_ok (set_checks operand_1 (lent a.a a.awords.now a.arows.now)) _ (sym c.check_set.ensures ∙ w) ∙ parts_last _)
