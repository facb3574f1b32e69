-- `turns::inner::sum_runs` meets its contract: a block more is summed, and past the blocks comes a run or nothing.
-- By the laws of runs in two parts. Assumes nothing.
use Rattle.std.proofs.Common.{◌∙◌, ap, arith}
use Rattle.std.specs.Slice.Iter.{chunks_rest, chunks_size}
use Rattle.rows.proofs.RunLaws.{runs_few}
use Rattle.turns.proofs.SumLaws.{summing_none, block_runs, summing_next, summing_few, summing_all, no_more, last_run, summing_last}
use Rattle.turns.proofs.inner.sum_runs.Goals as goal

pub loop-block-init : goal.loop-block-init
loop-block-init c =
    let it = c.into_iter-block-iterator.ensures.into_iter_gives in
    let chunks = c.chunks-block-items.ensures in (
      ap chunks_size it ∙ chunks.size,
      summing_none _ _ _ c.requires (ap chunks_rest it ∙ chunks.rest ∙ c.split_at.ensures.front) c.split_at.ensures.back,
    )

pub sum_block-sum-requires : goal.sum_block-sum-requires
sum_block-sum-requires c =
    let s = c.in-Some.ensures in
    block_runs _ _ _ _ c.loop-block.invariant.1 _ _ s.steps.1.0 (omega (arith, s.steps, c.loop-block.invariant.0))

pub overflow_add-sum : goal.overflow_add-sum
overflow_add-sum c =
    let s = c.in-Some.ensures in
    omega (
      arith,
      summing_few _ _ _ _
          (summing_next _ _ _ _ c.loop-block.invariant.1 _ _ s.steps.1.0 (omega (arith, s.steps, c.loop-block.invariant.0)) _ c.sum_block-sum.ensures) c.requires,
    )

pub loop-block-preserved : goal.loop-block-preserved
loop-block-preserved c =
    let s = c.in-Some.ensures in (
      s.steps.0 ∙ c.loop-block.invariant.0,
      summing_next _ _ _ _ c.loop-block.invariant.1 _ _ s.steps.1.0 (omega (arith, s.steps, c.loop-block.invariant.0)) _ c.sum_block-sum.ensures,
    )

pub returns-in_default : goal.returns-in_default
returns-in_default c = summing_all _ _ _ _ c.loop-block.invariant.1 c.in-None.ensures.steps.1.0 c.in_default.len_below

pub returns-in_default-2 : goal.returns-in_default-2
returns-in_default-2 c = absurd (no_more _ _ _ _ c.loop-block.invariant.1 c.in-None.ensures.steps.1.0 c.in_default.len_at_least)

pub overflow_sub-result : goal.overflow_sub-result
overflow_sub-result c = omega (arith, (last_run _ _ _ _ c.loop-block.invariant.1 c.in-None.ensures.steps.1.0 c.in-len2.len_at_least).some)

pub returns : goal.returns
returns c = summing_last _ _ _ _ c.loop-block.invariant.1 c.in-None.ensures.steps.1.0 c.in-len2.len_at_least c.in-len2.len_below

pub overflow_add-result : goal.overflow_add-result
overflow_add-result c =
    omega (
      arith,
      summing_last _ _ _ _ c.loop-block.invariant.1 c.in-None.ensures.steps.1.0 c.in-len2.len_at_least c.in-len2.len_below,
      runs_few 0 1048576 c.args.runs.now c.requires (omega arith),
    )
