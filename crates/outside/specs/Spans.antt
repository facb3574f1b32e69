-- Row numbers as spans, in pairs like runs: an entry of a list is a span of one row. Neighbours may touch. What a walk over spans knows that has come
-- to a row, and of the span that it stands at. No promise to a user rests on it.
-- Assumes nothing.
use Rattle.std.specs.Prelude.{ℕ, suc, ◌*◌, ◌≤◌, ◌<◌, ◌≡◌, true, false, List, [], ◌∷◌, drop}
use Rattle.rows.specs.Runs.{held}
use Rattle.outside.specs.declared.spans.Numbers.{Numbers}
use Rattle.outside.specs.declared.spans.Numbers.TheVariants.{List as Listed, Runs}

-- each entry, and the row after it
abbrev pub doubled : List ℕ → List ℕ
doubled [] = []
doubled (r ∷ rs) = r ∷ suc r ∷ doubled rs

-- a list's numbers are entries
abbrev pub spans : Numbers → List ℕ
spans (Listed rows) = doubled rows.now
spans (Runs rows) = rows.now

-- no span is empty or past row e, each begins at b or above and not before the end of the one before it, and each number has its pair
abbrev pub Rising : ℕ → ℕ → List ℕ → Type 0
Rising b e [] = Unit {0}
Rising b e (first ∷ []) = ⊥
Rising b e (first ∷ past ∷ ns) = (b ≤ first) × (first < past) × (past ≤ e) × Rising past e ns

-- from row b on the spans before number i hold nothing, and those from number i on rise
pub record Come (ns : List ℕ) (e i b : ℕ) : Type 0 where
  pub ahead : Rising 0 e (drop (i * 2) ns)
  pub behind : (row : ℕ) → b ≤ row → held row ns ≡ held row (drop (i * 2) ns)

-- the span that holds row b, or else the first after it; where there is none it is e to e
pub record Stands (ns : List ℕ) (e b first past : ℕ) : Type 0 where
  pub low : first ≤ e
  pub high : past ≤ e
  pub before : (row : ℕ) → b ≤ row → row < first → held row ns ≡ false
  pub in_it : (row : ℕ) → b ≤ row → first ≤ row → row < past → held row ns ≡ true
  pub some : first < e → (first < past) × (b < past)
