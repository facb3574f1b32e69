-- `rows::inner::verdicts::equal` meets its contract: each return is one line of the table.
-- By the table's law. Assumes nothing.
use Rattle.std.proofs.Common.{arith, sym, ap, ◌∙◌, Err}
use Rattle.std.proofs.Math.Decide.{ℕ_discrete}
use Rattle.rows.specs.declared.Reason.TheVariants.{LengthsDiffer}
use Rattle.rows.specs.Table.{no_operand}
use Rattle.rows.proofs.TableLaws.{alone_fine, alone_refused}
use Rattle.rows.proofs.inner.verdicts.equal.Goals as goal

pub returns-then-a-b : goal.returns-then-a-b
returns-then-a-b c =
    let a = c.args in
    ap Err c.refusal.ensures ∙ sym (alone_refused (ℕ_discrete a.a a.b) LengthsDiffer no_operand (λ h. omega arith))

pub returns : goal.returns
returns c = let a = c.args in sym (alone_fine (ℕ_discrete a.a a.b) LengthsDiffer no_operand (omega arith))
