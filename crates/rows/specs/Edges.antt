-- Where rows differ from the row before them. No promise to a user rests on it: it is what the code that finds runs computes in words.
-- Assumes nothing.
use Rattle.std.specs.Prelude.{Bool, true, false, not, List, [], ◌∷◌}

abbrev pub differs : Bool → Bool → Bool
differs false y = y
differs true y = not y

-- each row against the row before it; the first argument is the row before the first
abbrev pub edges : Bool → List Bool → List Bool
edges p [] = []
edges p (x ∷ s) = differs x p ∷ edges x s

-- the last row, and p where there is none
abbrev pub last_of : Bool → List Bool → Bool
last_of p [] = p
last_of p (x ∷ s) = last_of x s
