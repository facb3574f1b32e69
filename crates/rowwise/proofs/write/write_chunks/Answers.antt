-- `rowwise::write::write_chunks` meets its contract: a chunk more is laid and counted, and the end of the last one is the result's.
-- By the law of one chunk. Assumes nothing.
use Rattle.std.proofs.Common.{◌^◌, [], arith}
use Rattle.rules.specs.Operand.{lent}
use Rattle.rules.specs.SetOps.{combination}
use Rattle.rows.proofs.LaidLaws.{below_all}
use Rattle.operand.proofs.FlatLaws.{flat_limit}
use Rattle.rowwise.proofs.WriteLaws.{result_length, turn_few, made_none, made_next, made_all}
use Rattle.rowwise.proofs.write.write_chunks.Goals as goal

pub loop-row-init : goal.loop-row-init
loop-row-init g c = (omega arith, made_none _ _ (below_all (2 ^ 64) c.args.out.now (λ i. (c.type_inv.out i).fits)))

pub overflow_add-sum : goal.overflow_add-sum
overflow_add-sum g c =
    let rows = combination g.O.RowOperation.on_rows (lent c.args.a c.args.awords.now []) (lent c.args.b c.args.bwords.now []) in
    let few = turn_few c.loop-row.row c.chunk_len-n.result rows c.chunk-bits.result c.chunk-bits.ensures in
    let limited = flat_limit (lent c.args.a c.args.awords.now []) c.requires.0.0 in
    omega (arith, few, limited, c.loop-row.invariant.1.few, c.length_of-len.ensures)

pub loop-row-preserved : goal.loop-row-preserved
loop-row-preserved g c =
    let long = result_length g.O.RowOperation.on_rows (lent c.args.a c.args.awords.now []) (lent c.args.b c.args.bwords.now []) c.requires.0 in
    (omega arith, made_next _ _ _ _ _ _ _ _ _ c.loop-row.invariant.1 c.chunk-bits.ensures (omega (arith, long, c.length_of-len.ensures)) c.put.ensures (omega arith))

pub returns : goal.returns
returns g c =
    let long = result_length g.O.RowOperation.on_rows (lent c.args.a c.args.awords.now []) (lent c.args.b c.args.bwords.now []) c.requires.0 in
    made_all _ _ _ _ _ c.loop-row.invariant.1 (omega (arith, long, c.length_of-len.ensures))

pub returns-2 : goal.returns-2
returns-2 g c =
    let long = result_length g.O.RowOperation.on_rows (lent c.args.a c.args.awords.now []) (lent c.args.b c.args.bwords.now []) c.requires.0 in
    made_all _ _ c.length_of-len.result _ _
    (made_next _ _ _ _ _ _ c.length_of-len.result _ _ c.loop-row.invariant.1 c.chunk-bits.ensures (omega (arith, long, c.length_of-len.ensures)) c.put.ensures
    (omega arith))
    (omega (arith, long, c.length_of-len.ensures))
