-- `operand::inner::checks::check_length` meets its contract: each return is one line of the table.
-- By the table's law. Assumes nothing.
use Rattle.std.proofs.Common.{arith, refl, sym, ap, ◌∙◌, inl, inr, Ok, Err, Some}
use Rattle.rows.specs.declared.Reason.TheVariants.{LengthOverLimit}
use Rattle.rows.specs.Table.{refusal}
use Rattle.rows.proofs.TableLaws.{first_is}
use Rattle.rules.specs.Operand.{length_checks}
use Rattle.operand.proofs.inner.checks.check_length.Goals as goal

pub returns-then-length-gt1048576 : goal.returns-then-length-gt1048576
returns-then-length-gt1048576 c =
    let a = c.args in
    ap Err c.refusal_of.ensures ∙ sym (first_is (length_checks (Some a.operand) a.length) (Err (refusal LengthOverLimit (Some a.operand))) (inr (λ h. omega arith, refl)))

pub returns : goal.returns
returns c = let a = c.args in sym (first_is (length_checks (Some a.operand) a.length) (Ok tt) (inl (omega arith, refl)))
