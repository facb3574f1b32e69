-- `operand::inner::chunks::chunk_of` meets its contract: each form's chunk is a part of its rows.
-- By the chunk law of the form that the match tells. Assumes nothing.
use mathlib.Core.Path.{◌∙◌}
use Rattle.rows.proofs.PartLaws.{view_chunk}
use Rattle.rows.proofs.ChunkLaws.{all_chunk, none_chunk}
use Rattle.operand.proofs.inner.chunks.chunk_of.Goals as goal

pub returns-in-All : goal.returns-in-All
returns-in-All c =
    let e = c.in-All.is in
    rw e (c.ones.ensures ∙ all_chunk c.args.row c.args.n c.in-All.length (rw e at c.requires.2))

pub returns-in-None : goal.returns-in-None
returns-in-None c =
    let e = c.in-None.is in
    rw e (none_chunk c.args.row c.args.n c.in-None.length (rw e at c.requires.2))

pub returns-in-Words : goal.returns-in-Words
returns-in-Words c =
    let e = c.in-Words.is in
    let f = rw e at c.requires.0 in
    rw e (c.chunk.ensures ∙ view_chunk _ c.args.row c.args.n _ c.args.words.now (rw e at c.requires.2) f.2)
