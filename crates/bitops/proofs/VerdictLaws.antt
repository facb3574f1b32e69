-- What a set operation answers and writes of the words of its operands, which are no lists. By the table's law and by the rows of an
-- operand's words alone.
-- Assumes nothing.
use mathlib.Core.Path.{◌≡◌, refl, sym, ap, ap₂, ◌∙◌}
use mathlib.Core.Bool.{Bool, not}
use mathlib.Core.List.{map}
use Rattle.rows.specs.Word.{both}
use Rattle.rows.proofs.BothLaws.{both_not}
use Rattle.rules.specs.Operand.{Operand, rows_of}
use Rattle.rules.specs.SetOps.{combination}
use Rattle.rules.proofs.SetOperations.{Taken}
use Rattle.operand.specs.Flat.{Flat, flat}
use Rattle.operand.proofs.NumberLaws.{no_numbers, no_runs_lem}
use Rattle.operand.proofs.FlatLaws.{accepted_flat, flat_rows}

pub taken_flat : (o : Operand) → Taken o → Flat o
taken_flat o t = accepted_flat o (no_numbers o.form t.0) (no_runs_lem o.form t.0) t.1

-- their words alone are read
pub flat_combination : (g : Bool → Bool → Bool) (a b : Operand) → Taken a → Taken b → combination g (flat a) (flat b) ≡ combination g a b
flat_combination g a b s t = sym (ap₂ (both g) (flat_rows a (taken_flat a s)) (flat_rows b (taken_flat b t)))

-- not, of an operand that is lent twice
pub flat_not : (a : Operand) → Taken a → combination (λ x y. not x) (flat a) (flat a) ≡ map not (rows_of a)
flat_not a t = both_not (rows_of (flat a)) (rows_of (flat a)) refl ∙ sym (ap (map not) (flat_rows a (taken_flat a t)))
