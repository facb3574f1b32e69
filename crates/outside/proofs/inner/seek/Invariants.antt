-- `outside::inner::seek` meets its contract.
-- The invariant: from the row on, to where the loop has come, no row is as sought. Assumes nothing.
use Rattle.std.proofs.Common.{◌≤◌}
use Rattle.rows.specs.Words.{view}
use Rattle.outside.specs.First.{has, sought, Clear}
use Rattle.outside.proofs.inner.seek.Given as goal

abbrev pub invariant-loop-at : goal.invariant-loop-at
invariant-loop-at l = record {
  within : l.at ≤ l.len;
  clear : Clear (λ i. sought l.fn.which (has (view l.start l.len l.words) i)) l.row l.at;
}
