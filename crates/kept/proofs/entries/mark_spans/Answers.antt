-- `kept::entries::mark_spans`: each turn marks the entries of one run.
-- By the laws of the next run and of a list's part.
use Rattle.std.proofs.Common.{arith}
use Rattle.rows.proofs.MarkLaws.{ascending_below}
use Rattle.rows.proofs.PairLaws.{next_pair}
use Rattle.marks.proofs.EntryLaws.{entries_few}
use Rattle.kept.proofs.EntrySpanLaws.{spanning_none, spanning_few, spanning_run, spanning_all, spanning_count}
use Rattle.kept.proofs.entries.mark_spans.Goals as goal

pub loop-first-init : goal.loop-first-init
loop-first-init c = spanning_none _ _ _ _ _ c.requires.0 c.requires.1

pub mark_span-requires : goal.mark_span-requires
mark_span-requires c =
    let r = next_pair _ _ _ _ _ c.as_chunks.ensures.front c.as_chunks.ensures.front_len (omega arith) c.loop-first.invariant.ahead in (
      ascending_below _ _ _ c.requires.0,
      omega (arith, r.some),
      r.within,
      (omega arith, omega arith),
    )

pub overflow_sub-sum : goal.overflow_sub-sum
overflow_sub-sum c =
    let r = next_pair _ _ _ _ _ c.as_chunks.ensures.front c.as_chunks.ensures.front_len (omega arith) c.loop-first.invariant.ahead in
    omega (arith, r.some)

pub overflow_add-sum : goal.overflow_add-sum
overflow_add-sum c =
    let r = next_pair _ _ _ _ _ c.as_chunks.ensures.front c.as_chunks.ensures.front_len (omega arith) c.loop-first.invariant.ahead in
    omega (arith, spanning_few _ _ _ _ _ _ _ c.loop-first.invariant _ _ r c.requires.1, entries_few c.args.numbers c.args.rows.now)

pub loop-first-preserved : goal.loop-first-preserved
loop-first-preserved c =
    let r = next_pair _ _ _ _ _ c.as_chunks.ensures.front c.as_chunks.ensures.front_len (omega arith) c.loop-first.invariant.ahead in
    spanning_run _ _ _ _ _ _ _ c.loop-first.invariant _ _ r _ c.mark_span.ensures

pub returns : goal.returns
returns c =
    let all = c.as_chunks.ensures.front_len in
    (spanning_count _ _ _ _ _ _ _ c.loop-first.invariant _ (omega arith) c.requires.0 c.requires.1, spanning_all _ _ _ _ _ _ _ c.loop-first.invariant (omega arith))
