-- An operand: a form with what is lent beside it; its rows, and its checks in document 01's order.
-- Hold it against document 01: "An operand comes in one of four forms", to "Limits"; the lines 1 to 6 and 12 of its refusals; and "each
-- through 12, 1, 2, 3, 4 (words) or 12, 1, 5, 6 (list), as they apply". The fifth form is document 02's, P1: "14, naming its operand, for an
-- empty run (its row past the last isn't above its first row), one whose first row isn't above its predecessor's row past the last, or one
-- past the length, told after 1; set operations give 12."
-- Assumes nothing.
use Rattle.std.specs.Prelude.{ℕ, suc, ◌+◌, Bool, true, false, not, ◌&&◌, List, [], ◌∷◌, length, replicate, leb, ltb, eqb}
use Rattle.std.proofs.Math.Decide.{ℕ_discrete, dec_le}
use Rattle.rows.specs.Rows.{count}
use Rattle.rows.specs.Words.{view, words_of}
use Rattle.rows.specs.Lists.{listed}
use Rattle.rows.specs.Runs.{in_runs, run_lengths}
use Rattle.rows.specs.Laid.{words_for}
use Rattle.rows.specs.Table.{Line, need, Met, dec_t}
use Rattle.rules.specs.declared.Form.{Form}
use Rattle.rules.specs.declared.Form.TheVariants.{All, None, Words, List as Listed, Runs}
use Rattle.rows.specs.declared.Reason.TheVariants.{LengthOverLimit, StartOver63, TooFewWords, CountDiffers, NotAscending, EntryPastLength, ListGiven, RunsUnfit}
use Rattle.rows.specs.Table.{Named, no_operand}

-- ---- what it is. What depends on the form alone is a function of the form

-- an operand: its form, and the words and the row numbers that are lent beside it. A form ignores what it does not use
pub record Operand : Type 0 where
  pub form : Form
  pub words : List ℕ
  pub numbers : List ℕ

abbrev pub lent : Form → List ℕ → List ℕ → Operand
lent f ws es = record { form = f; words = ws; numbers = es }

-- rows as an operand: in words from bit 0 on, with their own length and count
abbrev pub in_words : List Bool → Operand
in_words rows = lent (Words 0 (length rows) (count rows)) (words_of 64 (words_for (length rows)) rows) []

abbrev pub length_of : Form → ℕ
length_of (All n) = n
length_of (None n) = n
length_of (Words start len claimed) = len
length_of (Listed len) = len
length_of (Runs len) = len

-- it counts as a list: for the route, and a set operation takes none
abbrev pub counts_as_list : Form → Bool
counts_as_list (All n) = false
counts_as_list (None n) = false
counts_as_list (Words start len claimed) = false
counts_as_list (Listed len) = true
counts_as_list (Runs len) = true

-- its rows
abbrev pub rows_by : Form → Operand → List Bool
rows_by (All n) o = replicate n true
rows_by (None n) o = replicate n false
rows_by (Words start len claimed) o = view start len o.words
rows_by (Listed len) o = listed len o.numbers
rows_by (Runs len) o = in_runs len o.numbers

abbrev pub rows_of : Operand → List Bool
rows_of o = rows_by o.form o

-- the count that it has: where it is accepted, the number of its set rows (`accepted_count`)
abbrev pub count_by : Form → List ℕ → ℕ
count_by (All n) es = n
count_by (None n) es = 0
count_by (Words start len claimed) es = claimed
count_by (Listed len) es = length es
count_by (Runs len) es = run_lengths es

abbrev pub count_of : Operand → ℕ
count_of o = count_by o.form o.numbers

-- empty if its count is 0; full if its length is above 0 and its count equals it
abbrev pub empty_by : ℕ → Bool
empty_by n = eqb n 0

abbrev pub full_by : Form → ℕ → Bool
full_by f n = ltb 0 (length_of f) && eqb n (length_of f)

abbrev pub empty : Operand → Bool
empty o = empty_by (count_of o)

abbrev pub full : Operand → Bool
full o = full_by o.form (count_of o)

-- ---- its checks, as operand k

abbrev pub limit : ℕ
limit = 1048576

-- each entry is above the one before it
abbrev pub climbs : List ℕ → Bool
climbs [] = true
climbs (e ∷ []) = true
climbs (e ∷ f ∷ es) = ltb e f && climbs (f ∷ es)

-- the last entry, if there is one, is below the length
abbrev pub last_below : ℕ → List ℕ → Bool
last_below len [] = true
last_below len (e ∷ []) = ltb e len
last_below len (e ∷ f ∷ es) = last_below len (f ∷ es)

-- each run is not empty, begins at `least` or above, above the row past the last of the one before it, and is not past the length; and the
-- last number has its pair
abbrev pub runs_fit : ℕ → ℕ → List ℕ → Bool
runs_fit least len [] = true
runs_fit least len (first ∷ []) = false
runs_fit least len (first ∷ past ∷ ns) = leb least first && (ltb first past && (leb past len && runs_fit (suc past) len ns))

abbrev pub length_checks : Named → ℕ → List Line
length_checks k len = need (dec_le len limit) LengthOverLimit k ∷ []

abbrev pub words_checks : Named → ℕ → ℕ → ℕ → List ℕ → List Line
words_checks k start len claimed ws =
    need (dec_le len limit) LengthOverLimit k
    ∷ need (dec_le start 63) StartOver63 k
    ∷ need (dec_le (words_for (start + len)) (length ws)) TooFewWords k
    ∷ need (ℕ_discrete claimed (count (view start len ws))) CountDiffers k
    ∷ []

abbrev pub list_checks : Named → ℕ → List ℕ → List Line
list_checks k len es =
    need (dec_le len limit) LengthOverLimit k
    ∷ need (dec_t (climbs es)) NotAscending k
    ∷ need (dec_t (last_below len es)) EntryPastLength k
    ∷ []

abbrev pub runs_checks : Named → ℕ → List ℕ → List Line
runs_checks k len ns =
    need (dec_le len limit) LengthOverLimit k
    ∷ need (dec_t (runs_fit 0 len ns)) RunsUnfit k
    ∷ []

abbrev pub checks_by : Form → Named → Operand → List Line
checks_by (All n) k o = length_checks k n
checks_by (None n) k o = length_checks k n
checks_by (Words start len claimed) k o = words_checks k start len claimed o.words
checks_by (Listed len) k o = list_checks k len o.numbers
checks_by (Runs len) k o = runs_checks k len o.numbers

abbrev pub operand_checks : Named → Operand → List Line
operand_checks k o = checks_by o.form k o

-- a set operation takes no list and no runs: 12, before all others
abbrev pub set_checks : Named → Operand → List Line
set_checks k o = need (dec_t (not (counts_as_list o.form))) ListGiven k ∷ operand_checks k o

-- every need is met
abbrev pub Accepted : Operand → Type 0
Accepted o = Met (operand_checks no_operand o)
