-- Where the rows of a list lie among lent numbers: each number is one; or the numbers are runs of one row each, and the first of each pair is one.
-- No promise to a user rests on it.
-- Assumes nothing.
use Rattle.std.specs.Prelude.{ℕ, List, [], ◌∷◌}
use Rattle.marks.specs.declared.inner.Numbers.{Numbers}
use Rattle.marks.specs.declared.inner.Numbers.TheVariants.{List as Listed, Runs}

-- the first rows of runs
abbrev pub firsts : List ℕ → List ℕ
firsts [] = []
firsts (first ∷ []) = []
firsts (first ∷ past ∷ ns) = first ∷ firsts ns

-- the entries of a list, or those that runs of one row each stand for
abbrev pub entries : Numbers → List ℕ → List ℕ
entries Listed ns = ns
entries Runs ns = firsts ns
