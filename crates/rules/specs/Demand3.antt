-- Demand 3, said of runs of the function that the contract of `feed` cites.
-- Hold it against demand 3: its two sentences stand above `Forward` and `Converse`.
-- Assumes nothing.
use Rattle.std.specs.Prelude.{ℕ, ◌+◌, Ok, Err, ◌≡◌, Bool, List, [], ◌∷◌, ◌++◌, take, drop}
use Rattle.rows.specs.Rows.{count}
use Rattle.rows.specs.Words.{bits_of_all}
use Rattle.rules.specs.Answer.{Answer}
use Rattle.rules.specs.Operand.{Operand, length_of, rows_of, in_words, Accepted}
use Rattle.rules.specs.Route.{published}
use Rattle.rules.specs.Compose.{composed, composed_out}
use Rattle.rules.specs.Stream.{Pair, pair_of, long, state_of, fresh, Run, run}
use Rattle.rows.specs.Table.{number_told}
use Rattle.rules.specs.Answer.{summary_told}

-- the whole composed at once, as demand 2 has it: its answer, and the output as it is left
abbrev pub once : Pair → List ℕ → Answer
once p out = composed published p.self p.rank out

abbrev pub once_out : Pair → List ℕ → List ℕ
once_out p out = composed_out p.self p.rank out

-- pieces, each well formed, the rank mask's as long as self's has set rows: cut at the matching ranks
abbrev pub Pieces : List Pair → Type 0
Pieces [] = Unit {0}
Pieces (p ∷ ps) = Accepted p.self × Accepted p.rank × (length_of p.rank.form ≡ count (rows_of p.self)) × Pieces ps

-- the rows of one side of the pieces, joined; and a pair whose rows are the pieces' joined, in whatever form
abbrev pub joined : {A : Type 0} → (A → Operand) → List A → List Bool
joined side [] = []
joined side (p ∷ ps) = rows_of (side p) ++ joined side ps

pub record Joins (whole : Pair) (ps : List Pair) : Type 0 where
  pub selves : rows_of whole.self ≡ joined (λ p. p.self) ps
  pub ranks : rows_of whole.rank ≡ joined (λ p. p.rank) ps

-- every feed is accepted; and of any feeds with their answers, the accepted ones, and the counts summed
abbrev pub AllAccepted : List Answer → Type 0
AllAccepted [] = Unit {0}
AllAccepted (a ∷ xs) = ((number_told a) ≡ 0) × AllAccepted xs

abbrev pub keep_if : {A : Type 0} → Answer → A → List A → List A
keep_if (Ok s) p ps = p ∷ ps
keep_if (Err r) p ps = ps

abbrev pub taken : {A : Type 0} → List A → List Answer → List A
taken [] xs = []
taken (p ∷ ps) [] = []
taken (p ∷ ps) (a ∷ xs) = keep_if a p (taken ps xs)

abbrev pub summed : List Answer → ℕ
summed [] = 0
summed (a ∷ xs) = (summary_told a).count + summed xs

-- a run did what demand 2 says of the whole: it is accepted; its rows stand in the output, and no other bit changed; the counts sum to
-- its count; and the end state is its length, its set rows and its count
pub record Whole (whole : Pair) (out : List ℕ) (t : Run) : Type 0 where
  pub accepted : (number_told (once whole out)) ≡ 0
  pub rows : take (long whole) (bits_of_all 64 t.out) ≡ take (long whole) (bits_of_all 64 (once_out whole out))
  pub others : drop (long whole) (bits_of_all 64 t.out) ≡ drop (long whole) (bits_of_all 64 out)
  pub counts : summed t.answers ≡ (summary_told (once whole out)).count
  pub state : t.state ≡ state_of (long whole) (count (rows_of whole.self)) (summary_told (once whole out)).count

-- "Take a pair that demand 2 accepts. Cut self at any rows and the rank mask at the matching ranks, each piece well formed, in any
-- form. From the fresh state .. every feed is accepted, and rows, summed counts and end state are demand 2's for the whole."
abbrev pub Forward : Type 0
Forward =
    (whole : Pair) (out : List ℕ) (ps : List Pair) → (number_told (once whole out)) ≡ 0 → Pieces ps → Joins whole ps
    → AllAccepted (run fresh out ps).answers × Whole whole out (run fresh out ps)

-- "Conversely any accepted feeds so run, with refused ones between, give demand 2's rows, summed counts and end state for the joined
-- pieces": in any well formed operands that have their rows, and there are such, in words.
abbrev pub Converse : Type 0
Converse =
    (whole : Pair) (out : List ℕ) (ps : List Pair) → Accepted whole.self → Accepted whole.rank → Joins whole (taken ps (run fresh out ps).answers)
    → Whole whole out (run fresh out ps)

abbrev pub ConverseInWords : Type 0
ConverseInWords =
    (out : List ℕ) (ps : List Pair)
    → let qs = taken ps (run fresh out ps).answers in
    Whole (pair_of (in_words (joined (λ p. p.self) qs)) (in_words (joined (λ p. p.rank) qs))) out (run fresh out ps)
