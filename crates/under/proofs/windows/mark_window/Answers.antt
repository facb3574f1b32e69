-- `under::windows::mark_window`: the walk goes on behind a run, ends in one, or has none left.
-- By the laws of a window marked run by run.
use Rattle.std.proofs.Common.{arith}
use Rattle.under.proofs.WindowLaws.{windowing_none, windowing_few, windowing_run, windowing_stop, windowing_end}
use Rattle.under.proofs.windows.mark_window.Goals as goal

pub loop-i-init : goal.loop-i-init
loop-i-init c = windowing_none _ _ _ _ _ _ _ c.requires.0

pub overflow_add-set : goal.overflow_add-set
overflow_add-set c = omega (arith, windowing_few _ _ _ _ _ _ _ _ _ c.loop-i.invariant (omega arith) c.loop-i.out, c.mark_part-some.ensures.0)

pub returns-then-end-past : goal.returns-then-end-past
returns-then-end-past c =
    windowing_stop _ _ _ _ _ _ _ _ _ c.loop-i.invariant (omega arith) _ _ c.mark_part-some.ensures.0 c.mark_part-some.ensures.1 c.if-end-past.true

pub loop-i-preserved : goal.loop-i-preserved
loop-i-preserved c =
    windowing_run _ _ _ _ _ _ _ _ _ c.loop-i.invariant (omega arith) _ _ c.mark_part-some.ensures.0 c.mark_part-some.ensures.1 (omega arith)

pub returns : goal.returns
returns c = windowing_end _ _ _ _ _ _ _ _ _ c.loop-i.invariant (omega arith)
