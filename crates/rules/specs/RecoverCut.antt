-- The cut rule of recovery, stated as demand 3 is, of runs of the function that the contract of its feed cites.
-- Hold it against document 02, P6: "a stream version whose cut rule is like demand 3's"; demand 3's two sentences stand above `Forward` and
-- `Converse` of Demand3, with both masks cut at the same rows here.
-- Assumes nothing.
use Rattle.std.specs.Prelude.{ℕ, ◌≡◌, List, [], ◌∷◌, take, drop}
use Rattle.rows.specs.Rows.{count}
use Rattle.rows.specs.Words.{bits_of_all}
use Rattle.rules.specs.Answer.{Answer}
use Rattle.rules.specs.Operand.{length_of, rows_of, in_words, Accepted}
use Rattle.rules.specs.Recover.{recovered, recovered_out}
use Rattle.rules.specs.RecoverStream.{Masks, masks_of, long, set, state_of, fresh, Run, run}
use Rattle.rules.specs.Demand3.{joined, AllAccepted, taken, summed}
use Rattle.rows.specs.Table.{number_told}
use Rattle.rules.specs.Answer.{summary_told}

-- the whole recovered at once: its answer, and the output as it is left
abbrev pub once : Masks → List ℕ → Answer
once m out = recovered m.self m.kept out

abbrev pub once_out : Masks → List ℕ → List ℕ
once_out m out = recovered_out m.self m.kept out

-- pieces, each well formed, the second mask's as long as self's: cut at the same rows
abbrev pub Pieces : List Masks → Type 0
Pieces [] = Unit {0}
Pieces (m ∷ ms) = Accepted m.self × Accepted m.kept × (length_of m.kept.form ≡ length_of m.self.form) × Pieces ms

-- masks whose rows are the pieces' joined, in whatever form
pub record Joins (whole : Masks) (ms : List Masks) : Type 0 where
  pub selves : rows_of whole.self ≡ joined (λ m. m.self) ms
  pub kepts : rows_of whole.kept ≡ joined (λ m. m.kept) ms

-- a run did what is right of the whole: it is accepted; its ranks stand in the output, and no other bit changed; the counts sum to its count; and
-- the end state is its length, self's set rows and its count
pub record Whole (whole : Masks) (out : List ℕ) (t : Run) : Type 0 where
  pub accepted : (number_told (once whole out)) ≡ 0
  pub ranks : take (set whole) (bits_of_all 64 t.out) ≡ take (set whole) (bits_of_all 64 (once_out whole out))
  pub others : drop (set whole) (bits_of_all 64 t.out) ≡ drop (set whole) (bits_of_all 64 out)
  pub counts : summed t.answers ≡ (summary_told (once whole out)).count
  pub state : t.state ≡ state_of (long whole) (count (rows_of whole.self)) (summary_told (once whole out)).count

-- any cut of two masks that are accepted, from the fresh state: every feed is accepted, and ranks, summed counts and end state are the whole's
abbrev pub Forward : Type 0
Forward =
    (whole : Masks) (out : List ℕ) (ms : List Masks) → (number_told (once whole out)) ≡ 0 → Pieces ms → Joins whole ms
    → AllAccepted (run fresh out ms).answers × Whole whole out (run fresh out ms)

-- conversely any accepted feeds so run, with refused ones between: in any well formed operands that have their rows, and there are such, in words
abbrev pub Converse : Type 0
Converse =
    (whole : Masks) (out : List ℕ) (ms : List Masks) → Accepted whole.self → Accepted whole.kept → Joins whole (taken ms (run fresh out ms).answers)
    → Whole whole out (run fresh out ms)

abbrev pub ConverseInWords : Type 0
ConverseInWords =
    (out : List ℕ) (ms : List Masks)
    → let qs = taken ms (run fresh out ms).answers in
    Whole (masks_of (in_words (joined (λ m. m.self) qs)) (in_words (joined (λ m. m.kept) qs))) out (run fresh out ms)
