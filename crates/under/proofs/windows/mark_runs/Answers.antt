-- `under::windows::mark_runs`: each turn marks the window under one run.
-- By the laws of the next run and of the ranks under it.
use Rattle.std.proofs.Common.{arith}
use Rattle.rows.proofs.PairLaws.{next_pair}
use Rattle.under.proofs.RunsInRunsLaws.{composing_none, composing_few, composing_sum, composing_run, composing_all}
use Rattle.under.proofs.windows.mark_runs.Goals as goal

pub loop-first-init : goal.loop-first-init
loop-first-init c = composing_none _ _ _ _ _ c.requires.0 c.requires.1 c.requires.2

pub overflow_sub-held : goal.overflow_sub-held
overflow_sub-held c =
    let r = next_pair _ _ _ _ _ c.as_chunks.ensures.front c.as_chunks.ensures.front_len (omega arith) c.loop-first.invariant.ahead in
    omega (arith, r.some)

pub mark_window-marked-requires : goal.mark_window-marked-requires
mark_window-marked-requires c =
    let r = next_pair _ _ _ _ _ c.as_chunks.ensures.front c.as_chunks.ensures.front_len (omega arith) c.loop-first.invariant.ahead in (
      c.loop-first.invariant.reached,
      omega (arith, composing_few _ _ _ _ _ _ _ _ _ _ c.loop-first.invariant _ _ r c.requires.0),
      (omega (arith, r.some, r.within), omega (arith, r.some, r.within)),
    )

pub overflow_add-sum : goal.overflow_add-sum
overflow_add-sum c =
    let r = next_pair _ _ _ _ _ c.as_chunks.ensures.front c.as_chunks.ensures.front_len (omega arith) c.loop-first.invariant.ahead in
    omega (arith, composing_sum _ _ _ _ _ _ _ _ _ _ c.loop-first.invariant _ _ r, c.mark_window-marked.ensures.1)

pub overflow_add-rank : goal.overflow_add-rank
overflow_add-rank c =
    let r = next_pair _ _ _ _ _ c.as_chunks.ensures.front c.as_chunks.ensures.front_len (omega arith) c.loop-first.invariant.ahead in
    omega (arith, composing_few _ _ _ _ _ _ _ _ _ _ c.loop-first.invariant _ _ r c.requires.0)

pub loop-first-preserved : goal.loop-first-preserved
loop-first-preserved c =
    let r = next_pair _ _ _ _ _ c.as_chunks.ensures.front c.as_chunks.ensures.front_len (omega arith) c.loop-first.invariant.ahead in
    let e = c.mark_window-marked.ensures in
    composing_run _ _ _ _ _ _ _ _ _ _ c.loop-first.invariant _ _ r _ _ _ e.0 e.1 e.2

pub returns : goal.returns
returns c = composing_all _ _ _ _ _ _ _ _ _ _ c.loop-first.invariant (omega (arith, c.as_chunks.ensures.front_len))
