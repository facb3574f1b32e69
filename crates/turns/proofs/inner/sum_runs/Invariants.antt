-- `turns::inner::sum_runs` meets its contract.
-- The invariant: the lengths of the runs in the blocks before the iterator's rest are summed. Assumes nothing.
use Rattle.std.proofs.Common.{◌≡◌}
use Rattle.turns.proofs.SumLaws.{Summing}
use Rattle.turns.proofs.inner.sum_runs.Given as goal

abbrev pub invariant-loop-block : goal.invariant-loop-block
invariant-loop-block l = (l.block-iterator.size ≡ 8192) × Summing l.runs l.last l.block-iterator.rest.now l.sum
