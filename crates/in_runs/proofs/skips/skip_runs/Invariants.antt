-- `in_runs::skips::skip_runs`: the rows of the runs before number i are summed, and those from it on are left.
use Rattle.std.proofs.Common.{◌-◌}
use Rattle.in_runs.proofs.SumLaws.{Summing}
use Rattle.in_runs.proofs.skips.skip_runs.Given as goal

abbrev pub invariant-loop-i : goal.invariant-loop-i
invariant-loop-i l = Summing l.runs l.row.0 l.n l.i l.set

abbrev pub decreases-loop-i : goal.decreases-loop-i
decreases-loop-i l = l.i-end - l.i
