-- What the line of a route says of the two operands, whatever the factors are. Each kernel's call rests on it; no promise to a user does.
-- Assumes nothing.
use Rattle.std.specs.Prelude.{ℕ, ◌/◌, ◌≡◌, Bool, true, false, not, ◌&&◌, List, eqb, length, ◌⊎◌}
use Rattle.rules.specs.declared.Form.{Form}
use Rattle.rules.specs.declared.Route.{Route}
use Rattle.rules.specs.declared.Route.TheVariants.{RankMask, SelfMask, NoRows, EntryAtRank, EntryIfSet, MaskDriven, Gathered, Read}
use Rattle.rules.specs.Operand.{Operand, empty, full, counts_as_list}
use Rattle.operand.specs.Flat.{has_runs}
use Rattle.marks.specs.declared.inner.Numbers.{Numbers}
use Rattle.marks.specs.declared.inner.Numbers.TheVariants.{List as Listed, Runs}

-- a list, or runs, for the route
abbrev pub AsList : Operand → Type 0
AsList o = counts_as_list o.form ≡ true

-- words: an all or a none is full or empty
abbrev pub InWords : Operand → Type 0
InWords o = (counts_as_list o.form ≡ false) × (full o ≡ false) × (empty o ≡ false)

abbrev pub Fits : Route → Operand → Operand → Type 0
Fits RankMask s r = full s ≡ true
Fits SelfMask s r = full r ≡ true
Fits NoRows s r = (empty s ≡ true) ⊎ (empty r ≡ true)
Fits EntryAtRank s r = AsList s × AsList r
Fits EntryIfSet s r = AsList s × InWords r
Fits MaskDriven s r = InWords s × (AsList r ⊎ InWords r)
Fits (Gathered way) s r = InWords s × AsList r
Fits (Read way) s r = InWords s × InWords r

-- the rank mask is runs that are to be kept: on routes 1 to 3 self or the rank mask is full or empty
abbrev pub keeps_runs : Route → Form → Bool
keeps_runs RankMask r = false
keeps_runs SelfMask r = false
keeps_runs NoRows r = false
keeps_runs EntryAtRank r = has_runs r
keeps_runs EntryIfSet r = has_runs r
keeps_runs MaskDriven r = has_runs r
keeps_runs (Gathered way) r = has_runs r
keeps_runs (Read way) r = has_runs r

-- runs, of which one at least is longer than a row: they have more rows than they are
abbrev pub has_long_runs : Form → ℕ → List ℕ → Bool
has_long_runs s count ns = has_runs s && not (eqb count (length ns / 2))

-- what its numbers are where no run is longer than a row: those of runs, or of a list
abbrev pub numbers_by : Bool → Numbers
numbers_by true = Runs
numbers_by false = Listed

abbrev pub numbers_of : Form → Numbers
numbers_of s = numbers_by (has_runs s)
