-- `under::windows::mark_runs`: under the runs passed the rows are marked and counted, and the walk over the runs of ranks has come to the rank
-- behind them.
use Rattle.under.proofs.RunsInRunsLaws.{Composing}
use Rattle.under.proofs.windows.mark_runs.Given as goal

abbrev pub invariant-loop-first : goal.invariant-loop-first
invariant-loop-first l = Composing l.runs l.ranks l.len l.at l.first-index l.rank l.next l.sum l.fn.out l.out
