-- What the code that reads an operand's words, or its row numbers, asks of it. No promise to a user rests on it.
-- Assumes nothing.
use Rattle.std.specs.Prelude.{ℕ, ◌≤◌, ◌≡◌, Bool, true, false, List, []}
use Rattle.rows.specs.Asks.{InView}
use Rattle.rules.specs.declared.Form.{Form}
use Rattle.rules.specs.declared.Form.TheVariants.{All, None, Words, List as Listed, Runs}
use Rattle.rules.specs.Operand.{Operand, lent, length_of, limit}

-- the bit of the lent words that has row 0
abbrev pub start_of : Form → ℕ
start_of (All n) = 0
start_of (None n) = 0
start_of (Words start len claimed) = start
start_of (Listed len) = 0
start_of (Runs len) = 0

-- the numbers lent are its set rows: they can be marked, and copied
abbrev pub has_row_numbers : Form → Bool
has_row_numbers (All n) = false
has_row_numbers (None n) = false
has_row_numbers (Words start len claimed) = false
has_row_numbers (Listed len) = true
has_row_numbers (Runs len) = false

-- they are its runs, in pairs
abbrev pub has_runs : Form → Bool
has_runs (All n) = false
has_runs (None n) = false
has_runs (Words start len claimed) = false
has_runs (Listed len) = false
has_runs (Runs len) = true

-- its rows are bits of the words lent
abbrev pub has_words : Form → Bool
has_words (All n) = false
has_words (None n) = false
has_words (Words start len claimed) = true
has_words (Listed len) = false
has_words (Runs len) = false

-- what reading its rows chunk by chunk needs: no row numbers, no runs, and its words reach
abbrev pub FlatBy : Form → List ℕ → Type 0
FlatBy (All n) ws = n ≤ limit
FlatBy (None n) ws = n ≤ limit
FlatBy (Words start len claimed) ws = InView start len ws
FlatBy (Listed len) ws = ⊥
FlatBy (Runs len) ws = ⊥

abbrev pub Flat : Operand → Type 0
Flat o = FlatBy o.form o.words

-- the operand with its words and no more lent: what is read of a flat one
abbrev pub flat : Operand → Operand
flat o = lent o.form o.words []

-- two such, of one length
abbrev pub Abreast : Operand → Operand → Type 0
Abreast a b = Flat a × Flat b × (length_of a.form ≡ length_of b.form)
