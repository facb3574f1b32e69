-- What the code that reads or lays rows in lent words asks of them. No promise to a user rests on it.
-- Assumes nothing.
use Rattle.std.specs.Prelude.{ℕ, ◌+◌, ◌*◌, ◌^◌, ◌≤◌, ◌<◌, List, length}

-- the words have room for len bits from bit at on
abbrev pub Room : ℕ → ℕ → List ℕ → Type 0
Room at len out = (at + len ≤ length out * 64) × (at + len < 2 ^ 64)

-- the words have len rows from bit start on
abbrev pub InView : ℕ → ℕ → List ℕ → Type 0
InView start len ws = (len ≤ 1048576) × (start ≤ 63) × (start + len ≤ length ws * 64)

-- a chunk of n rows
abbrev pub Chunk : ℕ → Type 0
Chunk n = (0 < n) × (n ≤ 64)
