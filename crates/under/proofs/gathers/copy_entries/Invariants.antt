-- `under::gathers::copy_entries`: the rank bits before `done` are laid, and the list is parted at the rank behind them.
use Rattle.std.proofs.Common.{◌+◌, ◌-◌}
use Rattle.under.proofs.GatheredLaws.{Copied}
use Rattle.under.proofs.gathers.copy_entries.Given as goal

abbrev pub invariant-loop-done : goal.invariant-loop-done
invariant-loop-done l = Copied l.ranks l.rank.0 l.n (l.at + l.row.0) l.done l.j l.fn.out l.out

abbrev pub decreases-loop-done : goal.decreases-loop-done
decreases-loop-done l = l.n - l.done
