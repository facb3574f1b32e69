-- `in_runs::inner::recover_under_runs`: each turn copies the rows under one run.
-- By the laws of the next run and of the rows under it.
use Rattle.std.proofs.Common.{◌^◌, arith}
use Rattle.rows.proofs.LaidLaws.{below_all}
use Rattle.rows.proofs.PairLaws.{next_pair}
use Rattle.in_runs.proofs.UnderRunLaws.{taking_none, read_room, taking_read, read_end}
use Rattle.in_runs.proofs.inner.recover_under_runs.Goals as goal

pub loop-first-init : goal.loop-first-init
loop-first-init c = taking_none _ _ _ _ _ c.requires.0 (below_all (2 ^ 64) c.args.out.now (λ i. (c.type_inv.out i).fits))

pub overflow_sub-held : goal.overflow_sub-held
overflow_sub-held c =
    let r = next_pair _ _ _ _ _ c.as_chunks.ensures.front c.as_chunks.ensures.front_len (omega arith) c.loop-first.invariant.passed.ahead in
    omega (arith, r.some)

pub copy_rows-requires : goal.copy_rows-requires
copy_rows-requires c =
    let r = next_pair _ _ _ _ _ c.as_chunks.ensures.front c.as_chunks.ensures.front_len (omega arith) c.loop-first.invariant.passed.ahead in
    let room = read_room _ _ _ _ _ _ _ _ _ c.requires.1.2 c.loop-first.invariant _ _ r c.requires.0 in (
      omega arith,
      omega (arith, r.some, r.within),
      omega (arith, r.some, r.within),
      (omega (arith, room), omega (arith, room)),
    )

pub overflow_add-rank : goal.overflow_add-rank
overflow_add-rank c =
    let r = next_pair _ _ _ _ _ c.as_chunks.ensures.front c.as_chunks.ensures.front_len (omega arith) c.loop-first.invariant.passed.ahead in
    omega (arith, read_room _ _ _ _ _ _ _ _ _ c.requires.1.2 c.loop-first.invariant _ _ r c.requires.0)

pub loop-first-preserved : goal.loop-first-preserved
loop-first-preserved c =
    let r = next_pair _ _ _ _ _ c.as_chunks.ensures.front c.as_chunks.ensures.front_len (omega arith) c.loop-first.invariant.passed.ahead in
    taking_read _ _ _ _ _ _ _ _ _ c.requires.1.2 c.loop-first.invariant _ _ r _ c.copy_rows.ensures

pub returns : goal.returns
returns c = read_end _ _ _ _ _ _ _ _ _ c.requires.1.2 c.loop-first.invariant (omega (arith, c.as_chunks.ensures.front_len))
