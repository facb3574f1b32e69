-- `under::windows::mark_window`: the runs from number i on are left, and what those before it have in the window is marked and counted.
use Rattle.std.proofs.Common.{◌-◌, length}
use Rattle.under.proofs.WindowLaws.{Windowing}
use Rattle.under.proofs.windows.mark_window.Given as goal

abbrev pub invariant-loop-i : goal.invariant-loop-i
invariant-loop-i l = Windowing l.ranks l.from.0 l.n l.row.0 l.at l.i l.set l.fn.out l.out

abbrev pub decreases-loop-i : goal.decreases-loop-i
decreases-loop-i l = length l.ranks - l.i
