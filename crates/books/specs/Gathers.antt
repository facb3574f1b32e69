-- What gathering the rank bits of one chunk from a list of ranks gives: the bits as a word, and where the list is parted by the next rank.
-- Assumes nothing.
use Rattle.std.specs.Prelude.{ℕ, suc, ◌+◌, ◌≤◌, ◌≡◌, List, [], ◌∷◌, length, take, drop}
use Rattle.rows.specs.Word.{word_of}
use Rattle.rows.specs.Words.{Below}
use Rattle.rows.specs.Lists.{tab, member}

-- strictly ascending, from b on
abbrev pub Climbs : ℕ → List ℕ → Type 0
Climbs b [] = Unit {0}
Climbs b (r ∷ rs) = (b ≤ r) × Climbs (suc r) rs

-- entries before next are below the rank; those from next on climb from it
pub record Parted (rank next : ℕ) (ranks : List ℕ) : Type 0 where
  pub within : next ≤ length ranks
  pub before : Below rank (take next ranks)
  pub after : Climbs rank (drop next ranks)

pub record Gathers (rank set : ℕ) (ranks : List ℕ) (bits next : ℕ) : Type 0 where
  pub is : bits ≡ word_of (tab rank set (λ i. member i ranks))
  pub parted : Parted (rank + set) next ranks
