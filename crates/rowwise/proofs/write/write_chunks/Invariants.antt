-- `rowwise::write::write_chunks` meets its contract.
-- The invariant: the rows before `row` are laid, and `sum` is their count. Assumes nothing.
use Rattle.std.proofs.Common.{◌≤◌, []}
use Rattle.rules.specs.Operand.{lent}
use Rattle.rules.specs.SetOps.{combination}
use Rattle.rowwise.proofs.WriteLaws.{Made}
use Rattle.rowwise.proofs.write.write_chunks.Given as goal

abbrev pub invariant-loop-row : goal.invariant-loop-row
invariant-loop-row g l = (l.row ≤ l.len) × Made (combination g.O.RowOperation.on_rows (lent l.a l.awords []) (lent l.b l.bwords [])) l.fn.out l.row l.sum l.out
