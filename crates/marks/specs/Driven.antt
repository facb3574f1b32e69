-- A walk over self's rows, a chunk of 64 at a time: its place, and the chunk that holds a rank.
-- Assumes nothing.
use Rattle.std.specs.Prelude.{◌+◌, ◌≤◌, ◌<◌, ◌≡◌, Bool, List}
use Rattle.rows.specs.Rows.{count, rank_at}
use Rattle.rows.specs.declared.Rank.{Rank}
use Rattle.books.specs.Chunks.{chunk_at}
use Rattle.marks.specs.declared.driven.Place.{Place}

-- the place tells the rank of the first row that is not passed
abbrev pub Walked : List Bool → Place → Type 0
Walked s place = place.passed.0 ≡ rank_at s place.done.0

-- and the chunk there holds the rank
pub record Holds (s : List Bool) (place : Place) (rank : Rank) : Type 0 where
  pub walked : Walked s place
  pub reached : place.passed.0 ≤ rank.0
  pub held : rank.0 < place.passed.0 + count (chunk_at s place.done.0)
