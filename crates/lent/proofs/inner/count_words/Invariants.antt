-- `lent::inner::count_words` meets its contract.
-- The sum is the count of the words passed.
use Rattle.std.proofs.Common.{◌≡◌, take, ◌*◌}
use Rattle.rows.specs.Rows.{count}
use Rattle.rows.specs.Words.{bits_of_all}
use Rattle.lent.proofs.inner.count_words.Given as goal

abbrev pub invariant-loop-word : goal.invariant-loop-word
invariant-loop-word l = l.sum ≡ count (take (l.word-index * 64) (bits_of_all 64 l.words))
