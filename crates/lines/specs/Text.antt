-- Document 01's text: the two lines that are read, the four that are written, and what is written for any input whatever.
-- Assumes nothing.
use Rattle.std.specs.Prelude.{ℕ, zero, suc, ◌+◌, ◌/◌, ◌%◌, ◌≤◌, ◌≡◌, refl, Bool, true, false, cond, ◌||◌, List, [], ◌∷◌, ◌++◌, length, drop, replicate, eqb, ltb, Err}
use Prim.Native.Char.{code}
use Prim.Native.String.{String, [] as end, ◌∷◌ as ◌then◌}
use Rattle.std.proofs.Math.Decide.{ℕ_discrete, dec_le}
use Rattle.std.proofs.Common.{ap₂, arith}
use Rattle.std.proofs.Math.Option.{Option, none, some}
use Rattle.rows.specs.Rows.{count, compose}
use Rattle.rows.specs.Laid.{words_for}
use Rattle.rows.specs.Table.{choose, refusal, no_operand, number_told}
use Rattle.rows.specs.declared.Reason.TheVariants.{NoRoom, Malformed}
use Rattle.rules.specs.Answer.{Answer, summary_told}
use Rattle.rules.specs.Operand.{in_words}
use Rattle.rules.specs.Route.{published, route_number}
use Rattle.rules.specs.Compose.{composed}
use Rattle.lines.specs.declared.Written.{Written}

-- ---- the grammar

-- the bytes of a text, in ASCII
abbrev pub ascii : String → List ℕ
ascii end = []
ascii (character then text) = code character ∷ ascii text

-- a row is a digit
abbrev pub digit_of : Bool → ℕ
digit_of false = code "0"
digit_of true = code "1"

-- row 0 first
abbrev pub digits : List Bool → List ℕ
digits [] = []
digits (row ∷ rows) = digit_of row ∷ digits rows

-- a key, what it has, one newline
abbrev pub line : List ℕ → List ℕ → List ℕ
line key value = key ++ value ++ ascii "\n"

abbrev pub self_key : List ℕ
self_key = ascii "self="

abbrev pub rank_key : List ℕ
rank_key = ascii "rank="

abbrev pub refusal_key : List ℕ
refusal_key = ascii "refusal="

abbrev pub route_key : List ℕ
route_key = ascii "route="

abbrev pub count_key : List ℕ
count_key = ascii "count="

abbrev pub bits_key : List ℕ
bits_key = ascii "bits="

-- the two lines that say these two masks, in that order
abbrev pub says : List Bool → List Bool → List ℕ
says self rank = line self_key (digits self) ++ line rank_key (digits rank)

-- the longest mask of an input
abbrev pub most_rows : ℕ
most_rows = 8192

-- well formed: two masks of at most 8,192 rows, said, and nothing after
pub record WellFormed (input : List ℕ) (self rank : List Bool) : Type 0 where
  pub said : input ≡ says self rank
  pub self_short : length self ≤ most_rows
  pub rank_short : length rank ≤ most_rows

-- ---- the masks of an input: a guess, and a check of it by saying it again

abbrev pub is_digit : ℕ → Bool
is_digit byte = eqb byte (code "0") || eqb byte (code "1")

-- the rows that the digits at the front say, up to the first byte that is none
unfoldable pub rows_in : List ℕ → List Bool
rows_in [] = []
rows_in (byte ∷ bytes) = cond (is_digit byte) (eqb byte (code "1") ∷ rows_in bytes) []

-- the digits past the first key, of 5 bytes; and past these, a newline and the second key, of 5 bytes too
abbrev pub self_in : List ℕ → List Bool
self_in input = rows_in (drop 5 input)

abbrev pub rank_in : List ℕ → List Bool
rank_in input = rows_in (drop (11 + length (self_in input)) input)

-- whether two texts are the same
unfoldable pub dec_same : (xs ys : List ℕ) → Dec (xs ≡ ys)
dec_same [] [] = yes refl
dec_same [] (y ∷ ys) = no (λ e. let z : ◌≡◌ {A = ℕ} 0 1 = cc in omega arith)
dec_same (x ∷ xs) [] = no (λ e. let z : ◌≡◌ {A = ℕ} 0 1 = cc in omega arith)
dec_same (x ∷ xs) (y ∷ ys) = both (ℕ_discrete x y) (dec_same xs ys)
  where
    both : Dec (x ≡ y) → Dec (xs ≡ ys) → Dec (◌≡◌ {A = List ℕ} (x ∷ xs) (y ∷ ys))
    both (yes a) (yes b) = yes (ap₂ (λ (z : ℕ) (zs : List ℕ). z ∷ zs) a b)
    both (no h) b = no (λ e. h (cc))
    both (yes a) (no h) = no (λ e. h (cc))

-- whether the input says these two masks, and both are short
abbrev pub dec_well : (input : List ℕ) (self rank : List Bool) → Dec (WellFormed input self rank)
dec_well input self rank = all (dec_same input (says self rank)) (dec_le (length self) most_rows) (dec_le (length rank) most_rows)
  where
    all : Dec (input ≡ says self rank) → Dec (length self ≤ most_rows) → Dec (length rank ≤ most_rows) → Dec (WellFormed input self rank)
    all (yes a) (yes b) (yes c) = yes (record { said = a; self_short = b; rank_short = c })
    all (no h) b c = no (λ w. h w.said)
    all (yes a) (no h) c = no (λ w. h w.self_short)
    all (yes a) (yes b) (no h) = no (λ w. h w.rank_short)

-- the masks that the input says, where it is well formed (`parsed_exactly`)
unfoldable pub parsed : List ℕ → Option (List Bool × List Bool)
parsed input = choose (dec_well input (self_in input) (rank_in input)) (some (self_in input, rank_in input)) none

-- ---- what is written

-- a number in decimal, in the fewest digits (`decimal_is`). The first argument bounds the recursion, and n digits are enough for n
unfoldable pub decimal_in : ℕ → ℕ → List ℕ
decimal_in zero n = (code "0" + n) ∷ []
decimal_in (suc most) n = cond (ltb n 10) ((code "0" + n) ∷ []) (decimal_in most (n / 10) ++ (code "0" + n % 10) ∷ [])

unfoldable pub decimal : ℕ → List ℕ
decimal n = decimal_in n n

-- the four lines
unfoldable pub lines : ℕ → ℕ → ℕ → List Bool → List ℕ
lines refusal route count rows = line refusal_key (decimal refusal) ++ line route_key (decimal route) ++ line count_key (decimal count) ++ line bits_key (digits rows)

-- of an answer with these rows: a refusal shows none
unfoldable pub lines_of : Answer → List Bool → List ℕ
lines_of a rows = lines (number_told a) (route_number (summary_told a).route) (summary_told a).count (choose (ℕ_discrete (number_told a) 0) rows [])

-- the composition's answer: both go in as words, and the output is as long as the result
abbrev pub answer_to : List Bool → List Bool → Answer
answer_to self rank = composed published (in_words self) (in_words rank) (replicate (words_for (length self)) 0)

-- anything that is not well formed is 13
abbrev pub answer_of : Option (List Bool × List Bool) → Answer
answer_of none = Err (refusal Malformed no_operand)
answer_of (some (self, rank)) = answer_to self rank

abbrev pub result_of : Option (List Bool × List Bool) → List Bool
result_of none = []
result_of (some (self, rank)) = compose self rank

-- the answer to an input, and the text of its lines
unfoldable pub answer_for : List ℕ → Answer
answer_for input = answer_of (parsed input)

unfoldable pub text_of : List ℕ → List ℕ
text_of input = lines_of (answer_for input) (result_of (parsed input))

-- ---- where it is written: 8 where the output is shorter than the text, and then nothing is written

abbrev pub with_text : Answer → List ℕ → Written
with_text a text = record { answer = a; len = length text }

abbrev pub shorter : Written
shorter = with_text (Err (refusal NoRoom no_operand)) []

unfoldable pub written_for : List ℕ → ℕ → Written
written_for input room = choose (dec_le (length (text_of input)) room) (with_text (answer_for input) (text_of input)) shorter

-- the text from the start on, later bytes as they were
unfoldable pub text_out : List ℕ → List ℕ → List ℕ
text_out input out = choose (dec_le (length (text_of input)) (length out)) (text_of input ++ drop (length (text_of input)) out) out
