-- `bitops::judge::judge_two` meets its contract: the first part of the table that refuses is told.
-- By the law of parts in order. Assumes nothing.
use borrow.Author.Rules.{rules}
use Prim.Native.Nat.{ℕ}
use native.Mathlib.Decide.{ℕ_discrete, dec_le}
use mathlib.Core.Path.{◌≡◌, sym, ap, ap₂, ◌∙◌}
use mathlib.Core.List.{[], ◌∷◌}
use Rattle.std.specs.Prelude.{Ok, Err}
use Rattle.rows.specs.declared.Reason.TheVariants.{LengthsDiffer, NoRoom}
use Rattle.rows.specs.Laid.{words_for}
use Rattle.rows.specs.Table.{operand_1, operand_2, no_operand, need, first}
use Rattle.rows.proofs.TableLaws.{parts_ok, parts_err, parts_last}
use Rattle.rules.specs.Operand.{lent, length_of, set_checks}
use Rattle.bitops.proofs.judge.judge_two.Goals as goal

pub returns-in_err-check_set : goal.returns-in_err-check_set
returns-in_err-check_set c =
    let a = c.args in
    let w : c.check_set.result ≡ Err c.in_err-check_set.field-0.0 = c.in_err-check_set.was in
    let r : c.from_residual.result ≡ Err c.in_err-check_set.field-0.0 = search rules in
    r ∙ sym (parts_err (set_checks operand_1 (lent a.a a.awords.now a.arows.now)) _ (sym c.check_set.ensures ∙ w))

pub returns-in_err-check_set-2 : goal.returns-in_err-check_set-2
returns-in_err-check_set-2 c =
    let a = c.args in
    let one : c.check_set.result ≡ Ok tt = c.in_ok-check_set.was in
    let w : c.check_set-2.result ≡ Err c.in_err-check_set-2.field-0.0 = c.in_err-check_set-2.was in
    let r : c.from_residual-in_err-check_set-2.result ≡ Err c.in_err-check_set-2.field-0.0 = search rules in
    r
    ∙ sym (parts_ok (set_checks operand_1 (lent a.a a.awords.now a.arows.now)) _ (sym c.check_set.ensures ∙ one)
    ∙ parts_err (set_checks operand_2 (lent a.b a.bwords.now a.brows.now)) _ (sym c.check_set-2.ensures ∙ w))

pub returns-in_err-equal : goal.returns-in_err-equal
returns-in_err-equal c =
    let a = c.args in
    let one : c.check_set.result ≡ Ok tt = c.in_ok-check_set.was in
    let two : c.check_set-2.result ≡ Ok tt = c.in_ok-check_set-2.was in
    let w : c.equal.result ≡ Err c.in_err-equal.field-0.0 = c.in_err-equal.was in
    let r : c.from_residual-in_err-equal.result ≡ Err c.in_err-equal.field-0.0 = search rules in
    let lengths = c.equal.ensures ∙ ap₂ (λ (m n : ℕ). first (need (ℕ_discrete m n) LengthsDiffer no_operand ∷ [])) c.length_of.ensures c.length_of-2.ensures in
    r
    ∙ sym (parts_ok (set_checks operand_1 (lent a.a a.awords.now a.arows.now)) _ (sym c.check_set.ensures ∙ one)
    ∙ parts_ok (set_checks operand_2 (lent a.b a.bwords.now a.brows.now)) _ (sym c.check_set-2.ensures ∙ two)
    ∙ parts_err (need (ℕ_discrete (length_of a.a) (length_of a.b)) LengthsDiffer no_operand ∷ []) _ (sym lengths ∙ w))

pub returns : goal.returns
returns c =
    let a = c.args in
    let one : c.check_set.result ≡ Ok tt = c.in_ok-check_set.was in
    let two : c.check_set-2.result ≡ Ok tt = c.in_ok-check_set-2.was in
    let same : c.equal.result ≡ Ok tt = c.in_ok-equal.was in
    let lengths = c.equal.ensures ∙ ap₂ (λ (m n : ℕ). first (need (ℕ_discrete m n) LengthsDiffer no_operand ∷ [])) c.length_of.ensures c.length_of-2.ensures in
    let words = c.words_for.ensures ∙ ap words_for c.length_of-3.ensures in
    c.has_room.ensures
    ∙ ap (λ (n : ℕ). first (need (dec_le n a.room) NoRoom no_operand ∷ [])) words
    ∙ sym (parts_ok (set_checks operand_1 (lent a.a a.awords.now a.arows.now)) _ (sym c.check_set.ensures ∙ one)
    ∙ parts_ok (set_checks operand_2 (lent a.b a.bwords.now a.brows.now)) _ (sym c.check_set-2.ensures ∙ two)
    ∙ parts_ok (need (ℕ_discrete (length_of a.a) (length_of a.b)) LengthsDiffer no_operand ∷ []) _ (sym lengths ∙ same)
    ∙ parts_last _)
