-- What the checks of an operand tell, and an operand's form with its count. No promise to a user rests on it.
-- Assumes nothing.
use Rattle.std.specs.Prelude.{ℕ, ◌≡◌, List, Result}
use Rattle.rows.specs.declared.Refusal.{Refusal}
use Rattle.rows.specs.Table.{Named, first, granted}
use Rattle.rules.specs.Operand.{Operand, lent, count_of, operand_checks}
use Rattle.operand.specs.declared.inner.counts.Counted.{Counted}

-- the count, or the refusal of the first need that is not met
abbrev pub checked_of : Named → Operand → Result ℕ Refusal
checked_of k o = granted (first (operand_checks k o)) (count_of o)

-- the count is the operand's own
abbrev pub Counts : Counted → List ℕ → List ℕ → Type 0
Counts c ws es = c.count ≡ count_of (lent c.form ws es)
