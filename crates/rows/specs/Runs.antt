-- Runs of rows, lent as numbers in pairs: a run's first row, and the row past its last. The rows that they say, and the runs of a mask.
-- Hold it against document 02, P1: "a lent list of runs, each a record of first row and row past the last, in ascending order, not empty,
-- with at least one unset row between neighbours"; and "a writer produces the only run list a mask has" (`runs_of`).
-- Assumes nothing.
use Rattle.std.specs.Prelude.{ℕ, suc, ◌+◌, ◌-◌, ◌/◌, ◌≤◌, ◌<◌, Bool, true, false, ◌&&◌, ◌||◌, List, [], ◌∷◌, leb, ltb, length}
use Rattle.rows.specs.Lists.{tab}

-- some run holds row i: it is not before the run's first row, and before the row past its last
abbrev pub held : ℕ → List ℕ → Bool
held i [] = false
held i (first ∷ []) = false
held i (first ∷ past ∷ ns) = (leb first i && ltb i past) || held i ns

-- `len` rows, of which those that some run holds are set
abbrev pub in_runs : ℕ → List ℕ → List Bool
in_runs len ns = tab 0 len (λ i. held i ns)

-- the lengths of the runs, summed
abbrev pub run_lengths : List ℕ → ℕ
run_lengths [] = 0
run_lengths (first ∷ []) = 0
run_lengths (first ∷ past ∷ ns) = (past - first) + run_lengths ns

-- no run is empty or past row e, each begins at b or above, above the row past the last of the one before it, and each number has its pair
abbrev pub Apart : ℕ → ℕ → List ℕ → Type 0
Apart b e [] = Unit {0}
Apart b e (first ∷ []) = ⊥
Apart b e (first ∷ past ∷ ns) = (b ≤ first) × (first < past) × (past ≤ e) × Apart (suc past) e ns

-- the rows at which a run begins, and those past a run's last, from row b on: the first argument tells whether the row before b is set
abbrev pub turns : Bool → ℕ → List Bool → List ℕ
turns false b [] = []
turns true b [] = b ∷ []
turns false b (false ∷ s) = turns false (suc b) s
turns false b (true ∷ s) = b ∷ turns true (suc b) s
turns true b (true ∷ s) = turns true (suc b) s
turns true b (false ∷ s) = b ∷ turns false (suc b) s

-- the runs of a mask, and how many they are
abbrev pub runs_of : List Bool → List ℕ
runs_of s = turns false 0 s

abbrev pub runs_in : List Bool → ℕ
runs_in s = length (runs_of s) / 2
