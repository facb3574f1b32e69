-- `density::compare_lengths` counts no more than a number holds.
-- The invariant: each length so far added at most 65,537 to either number.
use Rattle.std.proofs.Common.{◌*◌, ◌≤◌}
use Rattle.density.proofs.compare_lengths.Given as goal

abbrev pub invariant-loop-length : goal.invariant-loop-length
invariant-loop-length l = (l.compared ≤ 65537 * l.length) × (l.differing ≤ 65537 * l.length)
