-- `turns::inner::write_list_turns` meets its contract.
-- The invariant: what is left, over the entries from k on, is the whole over those that were there. Assumes nothing.
use Rattle.std.proofs.Common.{◌≡◌, ◌+◌, length, drop}
use Rattle.rows.specs.Rows.{splice}
use Rattle.turns.proofs.ListTurnLaws.{gaps, list_turns}
use Rattle.turns.proofs.inner.write_list_turns.Given as goal

abbrev pub invariant-loop-row : goal.invariant-loop-row
invariant-loop-row l = record {
  counted : l.k + length (gaps l.past (drop l.row-index l.rest)) ≡ length (list_turns l.rows);
  written : splice l.k l.out (gaps l.past (drop l.row-index l.rest)) ≡ splice 0 l.fn.out (list_turns l.rows);
}
