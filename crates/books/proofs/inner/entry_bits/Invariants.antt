-- `books::inner::entry_bits` meets its contract.
-- The entries passed are in the word, and those left climb from the chunk's first number on.
use Rattle.std.proofs.Common.{◌≡◌, ◌+◌, take, drop}
use Rattle.rows.specs.Word.{word_of}
use Rattle.rows.specs.Words.{Below}
use Rattle.rows.specs.Lists.{tab, member}
use Rattle.books.specs.Gathers.{Climbs}
use Rattle.books.proofs.inner.entry_bits.Given as goal

abbrev pub invariant-loop-j : goal.invariant-loop-j
invariant-loop-j l =
    (l.bits ≡ word_of (tab l.base l.n (λ i. member i (take l.j l.entries)))) × Below (l.base + l.n) (take l.j l.entries) × Climbs l.base (drop l.j l.entries)
