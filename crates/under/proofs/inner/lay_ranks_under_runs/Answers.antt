-- `under::inner::lay_ranks_under_runs`: each turn clears a gap and copies the rank bits of one run.
-- By the laws of the next run and of its rank bits.
use Rattle.std.proofs.Common.{◌^◌, arith}
use Rattle.rows.proofs.LaidLaws.{below_all}
use Rattle.rows.proofs.PairLaws.{next_pair}
use Rattle.under.proofs.UnderLaws.{under_none, sums_none, read_room, read_few, read_sum, under_read, sums_read, under_last, sums_last}
use Rattle.under.proofs.inner.lay_ranks_under_runs.Goals as goal

pub loop-first-init : goal.loop-first-init
loop-first-init c = record {
  under = under_none _ _ _ _ _ c.requires.0 (below_all (2 ^ 64) c.args.out.now (λ i. (c.type_inv.out i).fits));
  sums = sums_none _ _ _ c.args.at c.requires.0;
}

pub overflow_sub-gap : goal.overflow_sub-gap
overflow_sub-gap c =
    let r = next_pair _ _ _ _ _ c.as_chunks.ensures.front c.as_chunks.ensures.front_len (omega arith) c.loop-first.invariant.under.ahead in
    r.from

pub overflow_sub-held : goal.overflow_sub-held
overflow_sub-held c =
    let r = next_pair _ _ _ _ _ c.as_chunks.ensures.front c.as_chunks.ensures.front_len (omega arith) c.loop-first.invariant.under.ahead in
    omega (arith, r.some)

pub clear_rows-requires : goal.clear_rows-requires
clear_rows-requires c =
    let r = next_pair _ _ _ _ _ c.as_chunks.ensures.front c.as_chunks.ensures.front_len (omega arith) c.loop-first.invariant.under.ahead in
    (omega (arith, r.from, r.some, r.within), omega (arith, r.from, r.some, r.within))

pub copy_ranks-set-requires : goal.copy_ranks-set-requires
copy_ranks-set-requires c =
    let r = next_pair _ _ _ _ _ c.as_chunks.ensures.front c.as_chunks.ensures.front_len (omega arith) c.loop-first.invariant.under.ahead in (
      omega arith,
      omega (arith, read_few _ _ _ _ _ _ _ _ _ _ c.loop-first.invariant.under _ _ r c.requires.3 c.requires.0),
      read_room _ _ _ _ _ _ _ _ _ _ c.loop-first.invariant.under _ _ r c.requires.3,
      (omega (arith, r.some, r.within), omega (arith, r.some, r.within)),
    )

pub overflow_add-sum : goal.overflow_add-sum
overflow_add-sum c =
    let r = next_pair _ _ _ _ _ c.as_chunks.ensures.front c.as_chunks.ensures.front_len (omega arith) c.loop-first.invariant.under.ahead in
    omega (arith, read_sum _ _ _ _ _ _ _ _ _ _ c.loop-first.invariant.under _ _ r c.requires.3 _ c.loop-first.invariant.sums, c.copy_ranks-set.ensures.0)

pub overflow_add-rank : goal.overflow_add-rank
overflow_add-rank c =
    let r = next_pair _ _ _ _ _ c.as_chunks.ensures.front c.as_chunks.ensures.front_len (omega arith) c.loop-first.invariant.under.ahead in
    omega (arith, read_few _ _ _ _ _ _ _ _ _ _ c.loop-first.invariant.under _ _ r c.requires.3 c.requires.0)

pub loop-first-preserved : goal.loop-first-preserved
loop-first-preserved c =
    let r = next_pair _ _ _ _ _ c.as_chunks.ensures.front c.as_chunks.ensures.front_len (omega arith) c.loop-first.invariant.under.ahead in record {
      under = under_read _ _ _ _ _ _ _ _ _ _ c.loop-first.invariant.under _ _ r c.requires.3 _ _ c.clear_rows.ensures c.copy_ranks-set.ensures.1;
      sums = sums_read _ _ _ _ _ _ _ _ _ _ c.loop-first.invariant.under _ _ r c.requires.3 _ _ c.copy_ranks-set.ensures.0 c.loop-first.invariant.sums;
    }

pub returns : goal.returns
returns c =
    let all = c.as_chunks.ensures.front_len in (
      sums_last _ _ _ _ _ _ _ _ _ c.loop-first.invariant.under _ (omega arith) c.loop-first.invariant.sums,
      under_last _ _ _ _ _ _ _ _ _ c.loop-first.invariant.under _ (omega arith) c.clear_rows-2.ensures,
    )
