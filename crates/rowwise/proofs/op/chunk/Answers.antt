-- `rowwise::op::chunk` meets its contract: the operation on a chunk of each operand, cut to n bits, is a chunk of the result.
-- By the law of what is cut off, and that a part of the result is the result of the parts. Assumes nothing.
use Rattle.std.proofs.Common.{sym, ap, ap₂, ◌∙◌, [], bit_and, arith}
use Rattle.rows.specs.Word.{bits_of, word_of, both}
use Rattle.rows.proofs.BothLaws.{both_part}
use Rattle.rows.proofs.ChunkLaws.{chunk_bits}
use Rattle.rules.specs.Operand.{lent, rows_of}
use Rattle.operand.proofs.FlatLaws.{flat_length}
use Rattle.rowwise.proofs.OpLaws.{cut_word}
use Rattle.rowwise.proofs.op.chunk.Goals as goal

pub returns : goal.returns
returns g c =
    let a = c.args in
    let on = g.O.RowOperation.on_rows in
    let one = lent a.a a.awords.now [] in
    let two = lent a.b a.bwords.now [] in
    let xs = ap (bits_of a.n) c.chunk_of-x.ensures ∙ chunk_bits a.row a.n (rows_of one) (omega (arith, flat_length one c.requires.0.0, c.requires.2)) in
    let ys = ap (bits_of a.n) c.chunk_of-y.ensures ∙ chunk_bits a.row a.n (rows_of two) (omega (arith, flat_length two c.requires.0.1, c.requires.0.2, c.requires.2)) in
    ap₂ bit_and c.on_words.ensures c.ones.ensures
    ∙ cut_word on 64 a.n c.chunk_of-x.result c.chunk_of-y.result c.requires.1.1
    ∙ ap word_of (ap₂ (both on) xs ys ∙ sym (both_part on a.row a.n (rows_of one) (rows_of two)))
