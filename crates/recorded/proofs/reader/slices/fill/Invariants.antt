-- `recorded::reader::slices::fill` lays nothing past the slice.
-- The invariant: the place that is reached lies within it.
use Rattle.std.proofs.Common.{◌≤◌, length}
use Rattle.recorded.proofs.reader.slices.fill.Given as goal

abbrev pub invariant-loop : goal.invariant-loop
invariant-loop g l = l.at ≤ length l.into
