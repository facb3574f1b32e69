-- `fills::inner::list::list_runs` meets its contract.
-- The rows of the runs before number i are listed, and `next` is past them.
use Rattle.fills.proofs.ListLaws.{Listing}
use Rattle.fills.proofs.inner.list.list_runs.Given as goal

abbrev pub invariant-loop-i : goal.invariant-loop-i
invariant-loop-i l = Listing l.runs l.len l.next l.i l.initial.out l.out
