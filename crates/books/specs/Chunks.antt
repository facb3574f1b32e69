-- The rows of a chunk. Assumes nothing.
use Rattle.std.specs.Prelude.{ℕ, Bool, List, take, drop}

-- the rows from row i on that one chunk has: 64, and fewer at the end
abbrev pub chunk_at : List Bool → ℕ → List Bool
chunk_at s i = take 64 (drop i s)
