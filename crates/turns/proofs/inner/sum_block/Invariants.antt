-- `turns::inner::sum_block` meets its contract.
-- The invariant: of each half the runs before its number i are added, packed. Assumes nothing.
use Rattle.std.proofs.Common.{◌≡◌, ◌%◌, ◌≤◌}
use Rattle.turns.proofs.SumLaws.{Adding}
use Rattle.turns.proofs.inner.sum_block.Given as goal

abbrev pub invariant-loop-i : goal.invariant-loop-i
invariant-loop-i l = record {
  within : l.i ≤ l.half;
  even : l.i % 2 ≡ 0;
  first_half : Adding l.runs 0 l.i l.one;
  other_half : Adding l.runs l.half l.i l.other;
}
