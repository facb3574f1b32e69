-- `turns::inner::write_turns` meets its contract: a chunk more is written, and the end of the last one is the view's.
-- By the law of one chunk, and of all of them. Assumes nothing.
use Rattle.std.proofs.Common.{◌∙◌, refl, arith}
use Rattle.rows.specs.Words.{view}
use Rattle.rows.proofs.WordsLaws.{view_length}
use Rattle.turns.proofs.TurnedLaws.{carry_small}
use Rattle.turns.proofs.WrittenLaws.{Written, written_none, written_as, written_kept, written_chunk, chunk_room, end_room, written_all}
use Rattle.turns.proofs.inner.write_turns.Goals as goal
use Rattle.turns.proofs.inner.write_turns.Goals.{Left-loop-row, else-loop-row-test, then-loop-row-test+else-len-row-gt64}

pub loop-row-init : goal.loop-row-init
loop-row-init c = (omega arith, written_none _ _)

pub edge_word-found-requires : goal.edge_word-found-requires
edge_word-found-requires c = ((omega arith, omega arith), carry_small _ _ _ _ c.loop-row.invariant.1.counted)

pub list_chunk-k-requires : goal.list_chunk-k-requires
list_chunk-k-requires c = (
  omega (arith, c.requires.0.0),
  chunk_room _ _ _ _ _ _ _ _ _ _ _ c.requires.0 c.loop-row.invariant.1 c.loop-row-test.true c.chunk_len-n.ensures c.chunk-here.ensures
      c.edge_word-found.ensures c.requires.1,
)

pub loop-row-preserved : goal.loop-row-preserved
loop-row-preserved c = (
  omega arith,
  written_chunk _ _ _ _ _ _ _ _ _ _ _ c.requires.0 c.loop-row.invariant.1 c.loop-row-test.true c.chunk_len-n.ensures c.chunk-here.ensures
      c.edge_word-found.ensures _ _ _ _ (omega arith) c.list_chunk-k.ensures.0 refl c.list_chunk-k.ensures.1,
)

-- all rows are passed
ended : (c : Left-loop-row)
    → Written (view c.args.start c.args.len c.args.words.now) c.args.out.now c.args.len c.loop-row-test.k c.loop-row-test.carry c.loop-row-test.out
ended c =
    elim c.loop-row-test.branch [
      | else-loop-row-test w ↦ written_as _ _ _ _ _ _ c.loop-row.invariant.1 _ _ _ _ (omega arith) w.k-is w.carry-is w.out-is
      | then-loop-row-test+else-len-row-gt64 w ↦
          written_chunk _ _ _ _ _ _ _ _ _ _ _ c.requires.0 c.loop-row.invariant.1 w.loop-row-test.true w.chunk_len-n.ensures w.chunk-here.ensures
          w.edge_word-found.ensures _ _ _ _ (omega arith) (w.k-is ∙ w.list_chunk-k.ensures.0) w.carry-is (w.out-is ∙ w.list_chunk-k.ensures.1)
    ]

pub write_end-requires : goal.write_end-requires
write_end-requires c =
    let so = ended (goal.at.write_end-requires c).Left-loop-row in
    omega (arith, end_room _ _ _ _ _ _ so (view_length _ _ _ c.requires.0.2), written_kept _ _ _ _ _ _ so, c.requires.1)

pub returns : goal.returns
returns c = c.write_end.ensures ∙ written_all _ _ _ _ _ _ (ended (goal.at.returns c).Left-loop-row) (view_length _ _ _ c.requires.0.2)
