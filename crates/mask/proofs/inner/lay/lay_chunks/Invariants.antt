-- `mask::inner::lay::lay_chunks` meets its contract.
-- The invariant: the rows before `row` are laid. Assumes nothing.
use Rattle.std.proofs.Common.{[], ◌≡◌, ◌≤◌, take}
use Rattle.rows.specs.Laid.{laid}
use Rattle.rules.specs.Operand.{lent, rows_of}
use Rattle.mask.proofs.inner.lay.lay_chunks.Given as goal

abbrev pub invariant-loop-row : goal.invariant-loop-row
invariant-loop-row l = record {
  within : l.row ≤ l.len;
  laid : l.out ≡ laid l.at (take l.row (rows_of (lent l.form l.words []))) l.fn.out;
}
