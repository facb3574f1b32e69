-- What an answer tells, by its verdict: of a refusal nothing but that; and what the functions are held to, which answer an accepted input and a
-- refused one apart. By the cases of a verdict.
-- Assumes nothing.
use Prim.Native.Nat.{ℕ}
use mathlib.Core.List.{List}
use mathlib.Core.Bool.{Bool}
use mathlib.Core.Path.{◌≡◌, refl, sym, ap₂}
use mathlib.Core.Logic.{◌≢◌}
use Rattle.rows.specs.declared.Refusal.{Refusal}
use Rattle.std.specs.Prelude.{Ok, Err}
use Rattle.rows.specs.Table.{Verdict, if_fine}
use Rattle.rules.specs.declared.Summary.{Summary}
use Rattle.rules.specs.Answer.{Answer}
use Rattle.rules.specs.Operand.{Operand, rows_of, length_of, count_of, Accepted}
use Rattle.rules.specs.Answer.{no_density, accepted, summed, answered}
use Rattle.rules.proofs.OperandLaws.{accepted_length, accepted_count}
use Rattle.rows.specs.Table.{number_told, operand_told, row_told, granted}
use Rattle.rules.specs.Answer.{summary_told}
use Rattle.std.specs.Prelude.{None, Option}
use Rattle.rules.specs.declared.Route.{Route}

-- a refusal's other numbers
abbrev pub Bare : Answer → Type 0
Bare a = ((summary_told a).count ≡ 0) × ((summary_told a).route ≡ None) × ((summary_told a).density ≡ no_density)

-- an answer tells its verdict's number, operand and row, and so the refusal whole (`same_told`)
pub answered_told : (v : Verdict) (rows : List Bool) (route : Option Route)
    → (number_told (answered v rows route) ≡ number_told v) × (operand_told (answered v rows route) ≡ operand_told v)
    × (row_told (answered v rows route) ≡ row_told v)
answered_told (Ok u) rows route = (refl, refl, refl)
answered_told (Err r) rows route = (refl, refl, refl)

-- a refusal changes nothing, and reports nothing
pub nothing_done : {X : Type 0} (v : Verdict) (s : Summary) (to from : X) → number_told (granted v s) ≢ 0 → (if_fine v to from ≡ from) × Bare (granted v s)
nothing_done (Ok u) s to from h = absurd (h refl)
nothing_done (Err r) s to from h = (refl, (refl, refl, refl))

-- ---- what a function answers and leaves, where it went by its verdict

module _ {X Y : Type 0} (v : Verdict) (y : Y) (to from : X) where
  pub by_fine : v ≡ Ok tt → (Ok y ≡ granted v y) × (to ≡ if_fine v to from)
  by_fine e = rw e (refl, refl)

  pub by_refusal : (x : Refusal) → v ≡ Err x → (Err x ≡ granted v y) × (from ≡ if_fine v to from)
  by_refusal x e = rw e (refl, refl)

-- ---- an operand that is its own result: its count and its length are its rows'

pub own_answer : (o : Operand) (route : Option Route) → Accepted o → accepted (count_of o) route (length_of o.form) ≡ summed (rows_of o) route
own_answer o route m = ap₂ (λ (n len : ℕ). accepted n route len) (sym (accepted_count o m)) (sym (accepted_length o m))
