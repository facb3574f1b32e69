-- `kept::chunks::keep_chunks`: each turn lays what is kept of one chunk.
-- By the laws of rows kept chunk by chunk.
use Rattle.std.proofs.Common.{◌+◌, ◌^◌, arith}
use Rattle.std.specs.Int.Count.{ones}
use Rattle.rows.proofs.LaidLaws.{below_all}
use Rattle.kept.proofs.AlikeLaws.{held_few}
use Rattle.kept.proofs.KeepLaws.{keeping_none, keeping_few, keeping_held, keeping_chunk, keeping_all}
use Rattle.kept.proofs.chunks.keep_chunks.Goals as goal

pub loop-row-init : goal.loop-row-init
loop-row-init c = keeping_none _ _ _ _ _ _ _ _ _ (below_all (2 ^ 64) c.args.out.now (λ i. (c.type_inv.out i).fits)) c.requires.4 c.requires.5

pub keep_bits-kept-requires : goal.keep_bits-kept-requires
keep_bits-kept-requires c =
    (omega (arith, keeping_few _ _ _ _ _ _ _ _ _ _ _ _ _ _ c.loop-row.invariant c.requires.1 c.loop-row-test.true c.chunk_len-n.ensures c.self_bits-mask.ensures, c.requires.0, c.requires.3), c.loop-row.invariant.reached)

pub overflow_add-held : goal.overflow_add-held
overflow_add-held c =
    let few = keeping_few _ _ _ _ _ _ _ _ _ _ _ _ _ _ c.loop-row.invariant c.requires.1 c.loop-row-test.true c.chunk_len-n.ensures c.self_bits-mask.ensures in
    omega (arith, few, keeping_held _ _ _ _ _ _ _ _ _ _ _ _ _ _ c.loop-row.invariant c.requires.1 c.loop-row-test.true c.chunk_len-n.ensures c.self_bits-mask.ensures _ c.keep_bits-kept.ensures.2, held_few (c.loop-row.rank.0 + ones c.self_bits-mask.result) c.args.ranks.now, c.requires.0, c.requires.3)

pub overflow_add-past : goal.overflow_add-past
overflow_add-past c = omega (arith, keeping_few _ _ _ _ _ _ _ _ _ _ _ _ _ _ c.loop-row.invariant c.requires.1 c.loop-row-test.true c.chunk_len-n.ensures c.self_bits-mask.ensures, c.keep_bits-kept.ensures.0, c.requires.0, c.requires.3)

pub loop-row-preserved : goal.loop-row-preserved
loop-row-preserved c =
    let e = c.keep_bits-kept.ensures in
    keeping_chunk _ _ _ _ _ _ _ _ _ _ _ _ _ _ c.loop-row.invariant c.requires.1 c.loop-row-test.true c.chunk_len-n.ensures c.self_bits-mask.ensures _ _ _ _ _ _ (omega arith) e.0 e.1 e.2 e.3 c.put_rows.ensures

pub returns : goal.returns
returns c = keeping_all _ _ _ _ _ _ _ _ _ _ _ _ c.loop-row.invariant (omega arith)

pub returns-2 : goal.returns-2
returns-2 c =
    let e = c.keep_bits-kept.ensures in
    let all = keeping_chunk _ _ _ _ _ _ _ _ _ _ _ _ _ _ c.loop-row.invariant c.requires.1 c.loop-row-test.true c.chunk_len-n.ensures c.self_bits-mask.ensures c.args.len _ _ _ _ _ (omega arith) e.0 e.1 e.2 e.3 c.put_rows.ensures in
    keeping_all _ _ _ _ _ _ _ _ _ _ _ _ all (omega arith)
