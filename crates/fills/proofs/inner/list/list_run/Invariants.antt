-- `fills::inner::list::list_run` meets its contract.
-- The run's rows before `row` are entries from k on.
use Rattle.fills.proofs.ListLaws.{InRun}
use Rattle.fills.proofs.inner.list.list_run.Given as goal

abbrev pub invariant-loop-row : goal.invariant-loop-row
invariant-loop-row l = InRun l.first l.k l.row l.next l.initial.out l.out
