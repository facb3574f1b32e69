-- `turns::inner::count_turns` meets its contract.
-- The invariant: what the runs turn at before `row` is counted, and the row before it carried on. Assumes nothing.
use Rattle.std.proofs.Common.{◌≤◌}
use Rattle.rows.specs.Words.{view}
use Rattle.turns.proofs.TurnedLaws.{Counted}
use Rattle.turns.proofs.inner.count_turns.Given as goal

abbrev pub invariant-loop-row : goal.invariant-loop-row
invariant-loop-row l = (l.row ≤ l.len) × Counted (view l.start l.len l.words) l.row l.sum l.carry
