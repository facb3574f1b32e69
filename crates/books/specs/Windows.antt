-- A window over the rows that runs say: so many from a row on, wherever the runs begin and end. What a walk over runs knows that has come to a row.
-- Assumes nothing.
use Rattle.std.specs.Prelude.{ℕ, ◌+◌, ◌-◌, ◌≤◌, min, ◌≡◌, Bool, true, false, List, [], ◌∷◌, leb, drop}
use Rattle.rows.specs.Lists.{tab}
use Rattle.rows.specs.Runs.{held, Apart}

-- the n rows from row b on
abbrev pub window : ℕ → ℕ → List ℕ → List Bool
window b n runs = tab b n (λ i. held i runs)

-- how far into it a row lies: not at all where it is before row b, and n at most
abbrev pub into : ℕ → ℕ → ℕ → ℕ
into b n row = min (row - b) n

-- from row b on the runs before number i hold nothing, and those from number i on are runs of a mask
pub record Reached (runs : List ℕ) (i b : ℕ) : Type 0 where
  pub ahead : Apart 0 1048576 (drop i runs)
  pub behind : (row : ℕ) → b ≤ row → held row runs ≡ held row (drop i runs)

-- a run's two numbers and n more, or none where the test holds
abbrev pub two_unless : Bool → ℕ → ℕ
two_unless true n = 0
two_unless false n = 2 + n

-- how many numbers the runs are that end before row e, up to the first that does not
abbrev pub ended_before : ℕ → List ℕ → ℕ
ended_before e [] = 0
ended_before e (first ∷ []) = 0
ended_before e (first ∷ past ∷ ns) = two_unless (leb e past) (ended_before e ns)
