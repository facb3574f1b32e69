-- `rows::inner::verdicts::at_most` meets its contract: each return is one line of the table.
-- By the table's law. Assumes nothing.
use Rattle.std.proofs.Common.{arith, sym, ap, ◌∙◌, Err}
use Rattle.std.proofs.Math.Decide.{dec_le}
use Rattle.rows.specs.Table.{no_operand}
use Rattle.rows.proofs.TableLaws.{alone_fine, alone_refused}
use Rattle.rows.proofs.inner.verdicts.at_most.Goals as goal

pub returns-then-most-a : goal.returns-then-most-a
returns-then-most-a c =
    let a = c.args in
    ap Err c.refusal.ensures ∙ sym (alone_refused (dec_le a.a a.most) a.reason no_operand (λ h. omega arith))

pub returns : goal.returns
returns c = let a = c.args in sym (alone_fine (dec_le a.a a.most) a.reason no_operand (omega arith))
