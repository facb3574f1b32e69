-- `mask::inner::lay::mark` meets its contract.
-- The invariant: the entries that were passed are marked. Assumes nothing.
use Rattle.std.proofs.Common.{◌≡◌, take}
use Rattle.rows.specs.Laid.{marked}
use Rattle.mask.proofs.inner.lay.mark.Given as goal

abbrev pub invariant-loop-row : goal.invariant-loop-row
invariant-loop-row l = l.out ≡ marked l.at (take l.row-index l.rows) l.fn.out
