-- Where a walk over an operand's numbers has come to, at a row: an entry of a list, or a run. Other forms have no walk.
-- Assumes nothing.
use Rattle.std.specs.Prelude.{ℕ, List}
use Rattle.rules.specs.declared.Form.{Form}
use Rattle.rules.specs.declared.Form.TheVariants.{All, None, Words, List as Listed, Runs}
use Rattle.rules.specs.Operand.{Operand}
use Rattle.books.specs.Gathers.{Parted}
use Rattle.books.specs.Windows.{Reached}

abbrev pub CameBy : Form → List ℕ → ℕ → ℕ → Type 0
CameBy (All n) es next row = Unit {0}
CameBy (None n) es next row = Unit {0}
CameBy (Words start len claimed) es next row = Unit {0}
CameBy (Listed len) es next row = Parted row next es
CameBy (Runs len) es next row = Reached es next row

abbrev pub Came : Operand → ℕ → ℕ → Type 0
Came o next row = CameBy o.form o.numbers next row
