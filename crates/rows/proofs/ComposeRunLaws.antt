-- A composition where self begins with a run: unset rows stay unset, and set ones take the rank bits as they are. By recursion over the run.
-- Assumes nothing.
use Prim.Native.Nat.{ℕ, zero, suc, ◌≤◌}
use native.Mathlib.Nat.{le_of_suc-le-suc}
use mathlib.Core.Path.{◌≡◌, refl, ap}
use mathlib.Core.Bool.{Bool, true, false}
use mathlib.Core.List.{List, [], ◌∷◌, ◌++◌}
use native.Mathlib.Omega.{arith}
use lib.ListN.{length, take, drop, replicate}
use Rattle.rows.specs.Rows.{compose}

pub compose_unset : (n : ℕ) (s r : List Bool) → compose (replicate n false ++ s) r ≡ replicate n false ++ compose s r
compose_unset zero s r = refl
compose_unset (suc n) s r = ap (λ (l : List Bool). false ∷ l) (compose_unset n s r)

pub compose_set : (n : ℕ) (s r : List Bool) → n ≤ length r → compose (replicate n true ++ s) r ≡ take n r ++ compose s (drop n r)
compose_set zero s r h = refl
compose_set (suc n) s [] h = absurd (omega arith)
compose_set (suc n) s (x ∷ r) h = ap (λ (l : List Bool). x ∷ l) (compose_set n s r (le_of_suc-le-suc h))
