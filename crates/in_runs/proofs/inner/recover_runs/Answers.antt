-- `in_runs::inner::recover_runs`: each turn passes a gap and fills the ranks of one run.
-- By the laws of the next run, of the rows that self has before it, and of the walk over self's numbers.
use Rattle.std.proofs.Common.{◌^◌, sym, ◌∙◌, arith}
use Rattle.rows.proofs.LaidLaws.{below_all}
use Rattle.rows.proofs.PairLaws.{next_pair}
use Rattle.rules.specs.Operand.{lent}
use Rattle.rules.proofs.OperandLaws.{accepted_length, accepted_count}
use Rattle.extracts.proofs.WalkLaws.{came_first}
use Rattle.in_runs.proofs.SkipLaws.{came_over, steps_fit}
use Rattle.in_runs.proofs.FillLaws.{filling_none, filling_few, filling_room, filling_run, filling_end, run_full}
use Rattle.in_runs.proofs.inner.recover_runs.Goals as goal

pub loop-first-init : goal.loop-first-init
loop-first-init c = record {
  came = came_first (lent c.args.s c.args.swords.now c.args.srows.now) c.requires.0;
  filling = filling_none _ _ _ _ _ c.requires.2 (below_all (2 ^ 64) c.args.out.now (λ i. (c.type_inv.out i).fits));
}

pub overflow_sub-gap : goal.overflow_sub-gap
overflow_sub-gap c =
    let r = next_pair _ _ _ _ _ c.as_chunks.ensures.front c.as_chunks.ensures.front_len (omega arith) c.loop-first.invariant.filling.passed.ahead in
    r.from

pub overflow_sub-held : goal.overflow_sub-held
overflow_sub-held c =
    let r = next_pair _ _ _ _ _ c.as_chunks.ensures.front c.as_chunks.ensures.front_len (omega arith) c.loop-first.invariant.filling.passed.ahead in
    omega (arith, r.some)

pub skip_rows-skipped-requires : goal.skip_rows-skipped-requires
skip_rows-skipped-requires c =
    let r = next_pair _ _ _ _ _ c.as_chunks.ensures.front c.as_chunks.ensures.front_len (omega arith) c.loop-first.invariant.filling.passed.ahead in
    (c.requires.0, omega (arith, r.from, r.some, r.within), c.loop-first.invariant.came)

pub lay_ranks-rank-requires : goal.lay_ranks-rank-requires
lay_ranks-rank-requires c =
    let r = next_pair _ _ _ _ _ c.as_chunks.ensures.front c.as_chunks.ensures.front_len (omega arith) c.loop-first.invariant.filling.passed.ahead in
    let counted = accepted_count (lent c.args.s c.args.swords.now c.args.srows.now) c.requires.0 in
    let room = filling_room _ _ _ _ (accepted_length (lent c.args.s c.args.swords.now c.args.srows.now) c.requires.0) _ _ _ _ _ c.loop-first.invariant.filling c.requires.3 _ _ r _ c.skip_rows-skipped.ensures.0 in
    (omega (arith, room, counted), omega (arith, room, counted))

pub skip_set-own-requires : goal.skip_set-own-requires
skip_set-own-requires c = λ e.
    (let r = next_pair _ _ _ _ _ c.as_chunks.ensures.front c.as_chunks.ensures.front_len (omega arith) c.loop-first.invariant.filling.passed.ahead in
    steps_fit (lent c.args.s c.args.swords.now c.args.srows.now) _ _ _ _ r.from r.some r.within c.requires.0 c.skip_rows-skipped.ensures.1 e)

pub loop-first-preserved : goal.loop-first-preserved
loop-first-preserved c =
    let r = next_pair _ _ _ _ _ c.as_chunks.ensures.front c.as_chunks.ensures.front_len (omega arith) c.loop-first.invariant.filling.passed.ahead in
    let full = run_full _ _ _ _ (accepted_length (lent c.args.s c.args.swords.now c.args.srows.now) c.requires.0) _ _ _ _ _ c.loop-first.invariant.filling c.requires.3 _ _ r in record {
      came =
          came_over (lent c.args.s c.args.swords.now c.args.srows.now) _ _ _ _ r.from r.some r.within c.requires.0
          c.skip_rows-skipped.ensures.1 _ full c.skip_set-own.ensures;
      filling = filling_run _ _ _ _ (accepted_length (lent c.args.s c.args.swords.now c.args.srows.now) c.requires.0) _ _ _ _ _ c.loop-first.invariant.filling c.requires.3 _ _ r _ _ _ c.skip_rows-skipped.ensures.0 c.lay_ranks-rank.ensures.0 c.lay_ranks-rank.ensures.1;
    }

pub overflow_sub-left : goal.overflow_sub-left
overflow_sub-left c =
    omega (arith, filling_few _ _ _ _ (accepted_length (lent c.args.s c.args.swords.now c.args.srows.now) c.requires.0) _ _ _ _ _ c.loop-first.invariant.filling, accepted_count (lent c.args.s c.args.swords.now c.args.srows.now) c.requires.0)

pub clear_ranks-requires : goal.clear_ranks-requires
clear_ranks-requires c =
    let few = filling_few _ _ _ _ (accepted_length (lent c.args.s c.args.swords.now c.args.srows.now) c.requires.0) _ _ _ _ _ c.loop-first.invariant.filling in
    let counted = accepted_count (lent c.args.s c.args.swords.now c.args.srows.now) c.requires.0 in
    (omega (arith, few, counted), omega (arith, few, counted))

pub returns : goal.returns
returns c =
    filling_end _ _ _ _ (accepted_length (lent c.args.s c.args.swords.now c.args.srows.now) c.requires.0) _ _ _ _ _ c.loop-first.invariant.filling _ _ (omega (arith, c.as_chunks.ensures.front_len))
    (c.requires.1 ∙ sym (accepted_count (lent c.args.s c.args.swords.now c.args.srows.now) c.requires.0)) c.clear_ranks.ensures
