-- `rowwise::write::write_rows` meets its contract: the whole words of two operands in words, and then the chunk that is left.
-- By the laws of a loop over the result's rows, which has come to the last whole word. What the matches tell of the forms is put into each. Assumes nothing.
use Rattle.std.proofs.Common.{[], ◌%◌, arith}
use Rattle.rules.specs.declared.Form.TheVariants.{Words}
use Rattle.rules.specs.Operand.{lent}
use Rattle.rowwise.proofs.WriteLaws.{result_length, made_next, made_all, whole_made}
use Rattle.rowwise.proofs.write.write_rows.Goals as goal

pub overflow_add-result : goal.overflow_add-result
overflow_add-result g c =
    let a = c.args in
    let on = g.O.RowOperation.on_rows in
    let v = c.in-Words in
    let w = c.in-Words-b in
    let h = rw w.is at (rw v.is at c.requires) in
    let long = result_length on (lent (Words v.astart v.len v.claimed) a.awords.now []) (lent (Words w.bstart w.length w.claimed) a.bwords.now []) h.0 in
    let m = whole_made on v.len w.length v.astart w.bstart _ a.awords.now a.bwords.now a.out.now _ h.0.2 c.write_whole-sum.ensures.0 c.write_whole-sum.ensures.1 in
    omega (arith, (made_next _ _ _ _ (v.len % 64) _ v.len _ _ m c.chunk-bits.ensures (omega (arith, long)) c.put.ensures (omega arith)).few, h.0.0.0)

pub returns : goal.returns
returns g c =
    let a = c.args in
    let on = g.O.RowOperation.on_rows in
    let v = c.in-Words in
    let w = c.in-Words-b in
    let h = rw w.is at (rw v.is at c.requires) in
    let long = result_length on (lent (Words v.astart v.len v.claimed) a.awords.now []) (lent (Words w.bstart w.length w.claimed) a.bwords.now []) h.0 in
    let m = whole_made on v.len w.length v.astart w.bstart _ a.awords.now a.bwords.now a.out.now _ h.0.2 c.write_whole-sum.ensures.0 c.write_whole-sum.ensures.1 in
    rw v.is (rw w.is (made_all _ _ _ _ _ (made_next _ _ _ _ (v.len % 64) _ v.len _ _ m c.chunk-bits.ensures (omega (arith, long)) c.put.ensures (omega arith)) (omega (arith, long))))
