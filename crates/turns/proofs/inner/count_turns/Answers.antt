-- `turns::inner::count_turns` meets its contract: a chunk more is counted, and the end of the last one is the view's.
-- By the law of one chunk, and of all of them. Assumes nothing.
use Rattle.std.proofs.Common.{◌≡◌, ◌+◌, length, false, refl, arith}
use Rattle.rows.specs.Words.{view}
use Rattle.rows.specs.Runs.{runs_of}
use Rattle.rows.specs.Edges.{edges}
use Rattle.rows.proofs.RowLaws.{count_take_le}
use Rattle.rows.proofs.WordsLaws.{view_length}
use Rattle.turns.proofs.TurnedLaws.{Counted, counted_none, counted_as, carry_small, counted_chunk, chunk_few, counted_all}
use Rattle.turns.proofs.inner.count_turns.Goals as goal
use Rattle.turns.proofs.inner.count_turns.Goals.{else-loop-row-test, then-loop-row-test+else-len-row-gt64}

pub loop-row-init : goal.loop-row-init
loop-row-init c = (omega arith, counted_none _)

pub edge_word-requires : goal.edge_word-requires
edge_word-requires c = ((omega arith, omega arith), carry_small _ _ _ _ c.loop-row.invariant.1)

pub overflow_add-sum : goal.overflow_add-sum
overflow_add-sum c =
    omega
    (arith, chunk_few _ _ _ _ _ _ _ _ _ c.requires c.loop-row.invariant.1 c.loop-row-test.true c.chunk_len-n.ensures c.chunk-here.ensures c.edge_word.ensures)

pub loop-row-preserved : goal.loop-row-preserved
loop-row-preserved c = (
  omega arith,
  counted_chunk _ _ _ _ _ _ _ _ _ c.requires c.loop-row.invariant.1 c.loop-row-test.true c.chunk_len-n.ensures c.chunk-here.ensures c.edge_word.ensures
      _ _ _ (omega arith) (omega arith) refl,
)

-- all rows are passed
ended : (c : goal.After-row_known-2-1)
    → Counted (view c.args.start c.args.len c.args.words.now) c.args.len c.loop-row-test.sum c.loop-row-test.carry
ended c =
    elim c.loop-row-test.branch [
      | else-loop-row-test w ↦ counted_as _ _ _ _ c.loop-row.invariant.1 _ _ _ (omega arith) w.sum-is w.carry-is
      | then-loop-row-test+else-len-row-gt64 w ↦
          counted_chunk _ _ _ _ _ _ _ _ _ c.requires c.loop-row.invariant.1 w.loop-row-test.true w.chunk_len-n.ensures w.chunk-here.ensures w.edge_word.ensures
          _ _ _ (omega arith) (omega arith) w.carry-is
    ]

all : (c : goal.After-row_known-2-1) → c.loop-row-test.sum + c.loop-row-test.carry ≡ length (runs_of (view c.args.start c.args.len c.args.words.now))
all c = counted_all _ _ _ _ (ended c) (view_length _ _ _ c.requires.2)

pub overflow_add-result : goal.overflow_add-result
overflow_add-result c =
    let e = ended c in
    omega (arith, e.passed, count_take_le c.args.len (edges false (view c.args.start c.args.len c.args.words.now)), carry_small _ _ _ _ e)

pub returns : goal.returns
returns c = all c
