-- `under::gathers::gather_under_runs`: each turn clears a gap and gathers the rank bits of one run.
-- By the laws of the next run and of its rank bits.
use Rattle.std.proofs.Common.{◌^◌, arith}
use Rattle.rows.proofs.LaidLaws.{below_all}
use Rattle.rows.proofs.PairLaws.{next_pair}
use Rattle.books.proofs.GatherLaws.{ascending_climbs}
use Rattle.under.proofs.UnderLaws.{under_none, under_few, under_listed, under_last, listed_long}
use Rattle.under.proofs.gathers.gather_under_runs.Goals as goal

pub loop-first-init : goal.loop-first-init
loop-first-init c = record {
  under = under_none _ _ _ _ _ c.requires.0 (below_all (2 ^ 64) c.args.out.now (λ i. (c.type_inv.out i).fits));
  parted = record { within = omega arith; before = tt; after = ascending_climbs 0 _ _ c.requires.1 };
}

pub overflow_sub-gap : goal.overflow_sub-gap
overflow_sub-gap c =
    let r = next_pair _ _ _ _ _ c.as_chunks.ensures.front c.as_chunks.ensures.front_len (omega arith) c.loop-first.invariant.under.ahead in
    r.from

pub overflow_sub-held : goal.overflow_sub-held
overflow_sub-held c =
    let r = next_pair _ _ _ _ _ c.as_chunks.ensures.front c.as_chunks.ensures.front_len (omega arith) c.loop-first.invariant.under.ahead in
    omega (arith, r.some)

pub clear_rows-requires : goal.clear_rows-requires
clear_rows-requires c =
    let r = next_pair _ _ _ _ _ c.as_chunks.ensures.front c.as_chunks.ensures.front_len (omega arith) c.loop-first.invariant.under.ahead in
    (omega (arith, r.from, r.some, r.within), omega (arith, r.from, r.some, r.within))

pub copy_entries-next-requires : goal.copy_entries-next-requires
copy_entries-next-requires c =
    let r = next_pair _ _ _ _ _ c.as_chunks.ensures.front c.as_chunks.ensures.front_len (omega arith) c.loop-first.invariant.under.ahead in
    let few = under_few _ _ _ _ _ _ _ _ _ c.loop-first.invariant.under _ _ r (listed_long _ _) c.requires.0 in (
      omega (arith, few),
      c.loop-first.invariant.parted,
      (omega (arith, r.some, r.within), omega (arith, r.some, r.within)),
    )

pub overflow_add-rank : goal.overflow_add-rank
overflow_add-rank c =
    let r = next_pair _ _ _ _ _ c.as_chunks.ensures.front c.as_chunks.ensures.front_len (omega arith) c.loop-first.invariant.under.ahead in
    omega (arith, under_few _ _ _ _ _ _ _ _ _ c.loop-first.invariant.under _ _ r (listed_long _ _) c.requires.0)

pub loop-first-preserved : goal.loop-first-preserved
loop-first-preserved c =
    let r = next_pair _ _ _ _ _ c.as_chunks.ensures.front c.as_chunks.ensures.front_len (omega arith) c.loop-first.invariant.under.ahead in record {
      under = under_listed _ _ _ _ _ _ _ _ _ c.loop-first.invariant.under _ _ r _ _ c.clear_rows.ensures c.copy_entries-next.ensures.1;
      parted = c.copy_entries-next.ensures.0;
    }

pub returns : goal.returns
returns c =
    under_last _ _ _ _ _ _ _ _ _ c.loop-first.invariant.under _ (omega (arith, c.as_chunks.ensures.front_len)) c.clear_rows-2.ensures
