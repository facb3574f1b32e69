-- A walk over the rows of an operand: what it knows that has come to a row, form by form. Only numbers are walked by a cursor.
-- No promise to a user rests on it.
-- Assumes nothing.
use Rattle.std.specs.Prelude.{ℕ, List}
use Rattle.rows.specs.Asks.{InView}
use Rattle.rules.specs.declared.Form.{Form}
use Rattle.rules.specs.declared.Form.TheVariants.{All, None, Words, List as Listed, Runs}
use Rattle.outside.specs.Spans.{doubled, Come}

-- the cursor i has come to row b
abbrev pub Walks : Form → List ℕ → List ℕ → ℕ → ℕ → Type 0
Walks (All n) ws es i b = Unit {0}
Walks (None n) ws es i b = Unit {0}
Walks (Words start len claimed) ws es i b = InView start len ws
Walks (Listed len) ws es i b = Come (doubled es) len i b
Walks (Runs len) ws es i b = Come es len i b
