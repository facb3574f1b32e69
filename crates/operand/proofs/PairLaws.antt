-- What the checks of two operands tell together: self's refusal, or else the other's, or else both counts. By the law of parts in order.
-- Assumes nothing.
use Prim.Native.Nat.{ℕ}
use mathlib.Core.Path.{◌≡◌, sym, ap, ◌∙◌}
use mathlib.Core.List.{[], ◌∷◌}
use Rattle.std.specs.Prelude.{Ok, Err}
use Rattle.rows.specs.declared.Refusal.{Refusal}
use Rattle.rows.specs.Table.{Verdict, operand_1, operand_2, first, if_fine}
use Rattle.rows.specs.WordAnswer.{value_told}
use Rattle.rows.proofs.TableLaws.{granted_ok, granted_err, passes_ok, then_fine, parts_first, parts_ok, parts_err, parts_last}
use Rattle.rules.specs.Operand.{Operand, count_of, operand_checks}
use Rattle.rules.specs.Compose.{both_checks}
use Rattle.operand.specs.Counts.{checked_of}

module _ (s r : Operand) where
  pub both_err_own : {x : Refusal} → checked_of operand_1 s ≡ Err x → first (both_checks s r) ≡ Err x
  both_err_own e = parts_err (operand_checks operand_1 s) (operand_checks operand_2 r ∷ []) (granted_err (first (operand_checks operand_1 s)) (count_of s) e)

  pub both_own : {n : ℕ} → checked_of operand_1 s ≡ Ok n → first (both_checks s r) ≡ first (operand_checks operand_2 r)
  both_own e =
      parts_ok (operand_checks operand_1 s) (operand_checks operand_2 r ∷ []) (granted_ok (first (operand_checks operand_1 s)) e).0
      ∙ parts_last (operand_checks operand_2 r)

  pub both_err_other : {n : ℕ} {x : Refusal} → checked_of operand_1 s ≡ Ok n → checked_of operand_2 r ≡ Err x → first (both_checks s r) ≡ Err x
  both_err_other e f = both_own e ∙ granted_err (first (operand_checks operand_2 r)) (count_of r) f

  -- where both are accepted, the counts told are their own
  pub both_ok : {n m : ℕ} → checked_of operand_1 s ≡ Ok n → checked_of operand_2 r ≡ Ok m → (first (both_checks s r) ≡ Ok tt) × (count_of s ≡ n) × (count_of r ≡ m)
  both_ok e f =
      let own = granted_ok (first (operand_checks operand_1 s)) e in
      let other = granted_ok (first (operand_checks operand_2 r)) f in
      (both_own e ∙ other.0, own.1, other.1)

  -- and the counts that their checks tell are their own wherever both are accepted
  pub both_counts : first (both_checks s r) ≡ Ok tt → (value_told (checked_of operand_1 s) ≡ count_of s) × (value_told (checked_of operand_2 r) ≡ count_of r)
  both_counts e =
      let f = then_fine (first (operand_checks operand_1 s)) (first (operand_checks operand_2 r)) (sym both_verdict ∙ e) in
      (ap value_told (passes_ok (first (operand_checks operand_1 s)) (count_of s) f.0), ap value_told (passes_ok (first (operand_checks operand_2 r)) (count_of r) f.1))
    where
      both_verdict : first (both_checks s r) ≡ if_fine (first (operand_checks operand_1 s)) (first (operand_checks operand_2 r)) (first (operand_checks operand_1 s))
      both_verdict =
          parts_first (operand_checks operand_1 s) (operand_checks operand_2 r) []
          ∙ ap (λ (v : Verdict). if_fine (first (operand_checks operand_1 s)) v (first (operand_checks operand_1 s))) (parts_last (operand_checks operand_2 r))
