-- `turns::inner::count_list_turns` meets its contract.
-- The invariant: what is counted and what is left, from the row past the last entry that was passed, are all. Assumes nothing.
use Rattle.std.proofs.Common.{◌≡◌, ◌+◌, length, drop}
use Rattle.turns.proofs.ListTurnLaws.{gaps, list_turns}
use Rattle.turns.proofs.inner.count_list_turns.Given as goal

abbrev pub invariant-loop-row : goal.invariant-loop-row
invariant-loop-row l = l.sum + length (gaps l.past (drop l.row-index l.rest)) ≡ length (list_turns l.rows)
