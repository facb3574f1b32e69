-- `turns::inner::write_turns` meets its contract.
-- The invariant: what the runs turn at before `row` is written, and the row before it carried on. Assumes nothing.
use Rattle.std.proofs.Common.{◌≤◌}
use Rattle.rows.specs.Words.{view}
use Rattle.turns.proofs.WrittenLaws.{Written}
use Rattle.turns.proofs.inner.write_turns.Given as goal

abbrev pub invariant-loop-row : goal.invariant-loop-row
invariant-loop-row l = (l.row ≤ l.len) × Written (view l.start l.len l.words) l.fn.out l.row l.k l.carry l.out
