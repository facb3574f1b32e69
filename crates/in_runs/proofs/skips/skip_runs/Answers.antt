-- `in_runs::skips::skip_runs`: the walk goes on behind a run, ends in one, or has none left.
-- By the laws of rows summed run by run.
use Rattle.std.proofs.Common.{arith}
use Rattle.in_runs.proofs.SumLaws.{summing_none, summing_next, summing_few, summing_run, summing_stop, summing_end}
use Rattle.in_runs.proofs.skips.skip_runs.Goals as goal

pub loop-i-init : goal.loop-i-init
loop-i-init c = summing_none _ _ _ _ c.requires.0

pub overflow_sub-set : goal.overflow_sub-set
overflow_sub-set c =
    let r = summing_next _ _ _ _ _ c.loop-i.invariant (omega arith) in
    omega (arith, r.some, c.into_window-begin.ensures, c.into_window-stop.ensures)

pub overflow_add-set : goal.overflow_add-set
overflow_add-set c = omega (arith, summing_few _ _ _ _ _ c.loop-i.invariant (omega arith), c.into_window-begin.ensures, c.into_window-stop.ensures)

pub returns-then-end-past : goal.returns-then-end-past
returns-then-end-past c = summing_stop _ _ _ _ _ c.loop-i.invariant (omega arith) _ _ c.into_window-begin.ensures c.into_window-stop.ensures c.if-end-past.true

pub loop-i-preserved : goal.loop-i-preserved
loop-i-preserved c = summing_run _ _ _ _ _ c.loop-i.invariant (omega arith) _ _ c.into_window-begin.ensures c.into_window-stop.ensures (omega arith)

pub returns : goal.returns
returns c = summing_end _ _ _ _ _ c.loop-i.invariant (omega arith)

pub returns-else-end-past : goal.returns-else-end-past
returns-else-end-past c = summing_end _ _ _ _ _ (summing_run _ _ _ _ _ c.loop-i.invariant (omega arith) _ _ c.into_window-begin.ensures c.into_window-stop.ensures (omega arith)) (omega arith)
