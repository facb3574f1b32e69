-- A number that is taken whole or not at all. Assumes nothing.
use Rattle.std.specs.Prelude.{ℕ, Bool, true, false}

abbrev pub all_or_none : Bool → ℕ → ℕ
all_or_none true n = n
all_or_none false n = 0
