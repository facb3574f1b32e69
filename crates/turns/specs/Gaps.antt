-- What a list of row numbers turns at between an entry and the next. No promise to a user rests on it.
-- Assumes nothing.
use Rattle.std.specs.Prelude.{ℕ, Bool, true, false, List, [], ◌∷◌, eqb}

abbrev pub unless : Bool → List ℕ → List ℕ
unless true ns = []
unless false ns = ns

-- a run ends at the row past an entry and the next begins at a row, where these are not the same row
abbrev pub between : ℕ → ℕ → List ℕ
between past row = unless (eqb row past) (past ∷ row ∷ [])
