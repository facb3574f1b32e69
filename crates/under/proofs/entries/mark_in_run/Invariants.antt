-- `under::entries::mark_in_run`: the ranks passed are below the run's end, and marked; those that are left are none that was passed.
use Rattle.std.proofs.Common.{◌+◌, ◌-◌}
use Rattle.under.specs.Taken.{Taken}
use Rattle.under.proofs.entries.mark_in_run.Given as goal

abbrev pub invariant-loop-i : goal.invariant-loop-i
invariant-loop-i l = Taken l.ranks (λ k. l.first.0 + (k - l.passed.0)) l.at l.next l.i l.end.0 l.passed.0 l.fn.out l.out
