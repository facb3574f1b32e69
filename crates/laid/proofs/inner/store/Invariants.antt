-- `laid::inner::store` meets its contract.
-- The words before the index are the word.
use Rattle.std.proofs.Common.{◌≡◌, take, replicate}
use Rattle.laid.proofs.inner.store.Given as goal

abbrev pub invariant-loop-stored : goal.invariant-loop-stored
invariant-loop-stored l = take l.stored-index l.words ≡ replicate l.stored-index l.word
