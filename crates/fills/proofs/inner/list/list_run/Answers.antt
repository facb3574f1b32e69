-- `fills::inner::list::list_run` meets its contract.
-- A turn lists one row more, by the laws of a run's rows listed.
use Rattle.fills.proofs.ListLaws.{in_run_none, in_run_row}
use Rattle.fills.proofs.inner.list.list_run.Goals as goal

pub loop-row-init : goal.loop-row-init
loop-row-init c = in_run_none c.args.first c.args.k c.args.out.now

pub loop-row-preserved : goal.loop-row-preserved
loop-row-preserved c = in_run_row c.args.first c.args.k c.loop-row.row c.loop-row.next c.args.out.now c.loop-row.out c.loop-row.invariant
