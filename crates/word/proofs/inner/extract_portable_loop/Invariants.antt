-- `word::inner::extract_portable_loop` meets its contract.
-- What is collected, with what is left of the mask above it, is the whole; and the set digits that are left are as many as the turns.
use Rattle.std.proofs.Common.{◌≡◌, ◌+◌}
use lib.Count.{ones}
use Rattle.word.proofs.CollectingLaws.{Collecting}
use Rattle.word.proofs.inner.extract_portable_loop.Given as goal

abbrev pub invariant-loop-k : goal.invariant-loop-k
invariant-loop-k l = Collecting 64 l.source l.mask l.k l.m l.result × (l.k + ones l.m ≡ l.count)
