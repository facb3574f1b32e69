-- Where a walk over an operand's numbers has come to behind rows that are all set: past an entry for each where the numbers are its set rows, and else
-- where it was. Assumes nothing.
use Rattle.std.specs.Prelude.{ℕ, ◌+◌, Bool, true, false}

abbrev pub behind : Bool → ℕ → ℕ → ℕ
behind true next n = next + n
behind false next n = next
