-- `density::compare_counts` counts no more pairs than there are counts.
-- The invariant: both numbers are at most the count reached.
use Rattle.std.proofs.Common.{◌≤◌}
use Rattle.density.proofs.compare_counts.Given as goal

abbrev pub invariant-loop-count : goal.invariant-loop-count
invariant-loop-count l = (l.compared ≤ l.count) × (l.differing ≤ l.count)
