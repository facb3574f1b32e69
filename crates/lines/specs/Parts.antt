-- What the contracts of the code's parts cite: a key at the front of a text, what is found of an input, what words tell.
-- Assumes nothing.
use Rattle.std.specs.Prelude.{ℕ, Bool, true, false, ◌&&◌, List, [], ◌∷◌, length, eqb, Option, Some, None}
use Rattle.rows.specs.Rows.{count, compose}
use Rattle.rows.specs.Words.{view}
use Rattle.rows.specs.Table.{choose}
use Rattle.rules.specs.Answer.{Answer}
use Rattle.rules.specs.declared.Form.TheVariants.{Words}
use Rattle.rules.specs.Operand.{Operand, lent}
use Rattle.rules.specs.Route.{published}
use Rattle.rules.specs.Compose.{composed}
use Rattle.lines.specs.declared.Masks.{Masks}
use Rattle.lines.specs.Text.{self_in, rank_in, dec_well, lines_of}

-- the text begins with the key
abbrev pub begins : List ℕ → List ℕ → Bool
begins [] text = true
begins (k ∷ key) [] = false
begins (k ∷ key) (t ∷ text) = eqb t k && begins key text

-- how many rows each mask of a well formed input has
abbrev pub counted : ℕ → ℕ → Masks
counted s r = record { s = s; r = r }

unfoldable pub found_in : List ℕ → Option Masks
found_in input = choose (dec_well input (self_in input) (rank_in input)) (Some (counted (length (self_in input)) (length (rank_in input)))) None

-- the first n bits of words as an operand
abbrev pub first_bits : List ℕ → ℕ → Operand
first_bits ws n = lent (Words 0 n (count (view 0 n ws))) ws []

-- the answer to s rows in words and r rows in words, for an output of these words, and the text of its lines
unfoldable pub answer_words : List ℕ → ℕ → List ℕ → ℕ → List ℕ → Answer
answer_words sws s rws r out = composed published (first_bits sws s) (first_bits rws r) out

unfoldable pub told_words : List ℕ → ℕ → List ℕ → ℕ → List ℕ → List ℕ
told_words sws s rws r out = lines_of (answer_words sws s rws r out) (compose (view 0 s sws) (view 0 r rws))
