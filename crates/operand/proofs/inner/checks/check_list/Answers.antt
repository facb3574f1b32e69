-- `operand::inner::checks::check_list` meets its contract: each return is one line of the table, the lines before it met.
-- By the table's law; a test on the list is what its function ensures. Assumes nothing.
use mathlib.Core.Path.{refl, sym, ap, ◌∙◌}
use mathlib.Core.Logic.{inl, inr}
use native.Mathlib.Omega.{arith}
use Rattle.std.specs.Prelude.{Ok, Err, Some}
use Rattle.rows.specs.declared.Reason.TheVariants.{LengthOverLimit, NotAscending, EntryPastLength}
use Rattle.rows.specs.Table.{refusal}
use Rattle.rows.proofs.TableLaws.{first_is, is_true, is_false}
use Rattle.rules.specs.Operand.{list_checks}
use Rattle.operand.proofs.inner.checks.check_list.Goals as goal

pub returns-then-length-gt1048576 : goal.returns-then-length-gt1048576
returns-then-length-gt1048576 c =
    let a = c.args in
    ap Err c.refusal_of.ensures ∙ sym (first_is (list_checks (Some a.operand) a.length a.rows.now) (Err (refusal LengthOverLimit (Some a.operand))) (inr (λ h. omega arith, refl)))

pub returns-then-not-ascends : goal.returns-then-not-ascends
returns-then-not-ascends c =
    let a = c.args in
    let falls = is_false (sym c.ascends.ensures ∙ c.if-not-ascends.true) in
    ap Err c.refusal_of-then-not-ascends.ensures ∙ sym (first_is (list_checks (Some a.operand) a.length a.rows.now) (Err (refusal NotAscending (Some a.operand))) (inl (omega arith, inr (falls, refl))))

pub returns-then-not-last_below : goal.returns-then-not-last_below
returns-then-not-last_below c =
    let a = c.args in
    let climbing = is_true (sym c.ascends.ensures ∙ c.if-not-ascends.false) in
    let passing = is_false (sym c.last_below.ensures ∙ c.if-not-last_below.true) in
    ap Err c.refusal_of-then-not-last_below.ensures ∙ sym (first_is (list_checks (Some a.operand) a.length a.rows.now) (Err (refusal EntryPastLength (Some a.operand))) (inl (omega arith, inl (climbing, inr (passing, refl)))))

pub returns : goal.returns
returns c =
    let a = c.args in
    let climbing = is_true (sym c.ascends.ensures ∙ c.if-not-ascends.false) in
    let below = is_true (sym c.last_below.ensures ∙ c.if-not-last_below.false) in
    sym (first_is (list_checks (Some a.operand) a.length a.rows.now) (Ok tt) (inl (omega arith, inl (climbing, inl (below, refl)))))
