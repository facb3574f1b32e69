-- The table of a composition, part by part: each part's refusal is the table's where the parts before it are met. By the law of parts in order.
-- Assumes nothing.
use Prim.Native.Nat.{ℕ}
use native.Mathlib.Decide.{ℕ_discrete, dec_le}
use mathlib.Core.Path.{◌≡◌, refl, sym, ap, ◌∙◌}
use mathlib.Core.List.{List, [], ◌∷◌}
use Rattle.std.specs.Prelude.{Ok, Err}
use Rattle.rows.specs.declared.Refusal.{Refusal}
use Rattle.rows.specs.declared.Reason.TheVariants.{LengthsDiffer, NoRoom}
use Rattle.rows.specs.Laid.{words_for}
use Rattle.rows.specs.Table.{Verdict, Line, operand_1, no_operand, need, first, if_fine}
use Rattle.rows.specs.WordAnswer.{value_told}
use Rattle.rows.proofs.TableLaws.{parts_first, parts_ok, parts_err, parts_last}
use Rattle.rules.specs.Operand.{Operand, length_of, count_of}
use Rattle.rules.specs.Compose.{both_checks, compose_checks}
use Rattle.operand.specs.Counts.{checked_of}
use Rattle.operand.proofs.PairLaws.{both_counts}

-- a verdict after another matters only where that one is fine
pub same_after : (v x y : Verdict) → (v ≡ Ok tt → x ≡ y) → if_fine v x v ≡ if_fine v y v
same_after (Ok u) x y h = h refl
same_after (Err z) x y h = refl

module _ (s r : Operand) (room : ℕ) where
  abbrev seven : List Line
  seven = need (ℕ_discrete (length_of r.form) (count_of s)) LengthsDiffer no_operand ∷ []

  abbrev eight : List Line
  eight = need (dec_le (words_for (length_of s.form)) room) NoRoom no_operand ∷ []

  pub all_err_both : {x : Refusal} → first (both_checks s r) ≡ Err x → first (compose_checks s r room) ≡ Err x
  all_err_both e = parts_err (both_checks s r) (seven ∷ eight ∷ []) e

  module _ (both : first (both_checks s r) ≡ Ok tt) where
    pub all_err_lengths : {x : Refusal} → first seven ≡ Err x → first (compose_checks s r room) ≡ Err x
    all_err_lengths e = parts_ok (both_checks s r) (seven ∷ eight ∷ []) both ∙ parts_err seven (eight ∷ []) e

    -- where the lengths match, the room decides
    pub all_by_room : first seven ≡ Ok tt → first (compose_checks s r room) ≡ first eight
    all_by_room e = parts_ok (both_checks s r) (seven ∷ eight ∷ []) both ∙ parts_ok seven (eight ∷ []) e ∙ parts_last eight

  -- the count that self's checks told serves as its own: it is asked for only where they refused nothing
  pub told_verdict : if_fine (first (both_checks s r))
      (if_fine (first (need (ℕ_discrete (length_of r.form) (value_told (checked_of operand_1 s))) LengthsDiffer no_operand ∷ []))
      (first (need (dec_le (words_for (length_of s.form)) room) NoRoom no_operand ∷ []))
      (first (need (ℕ_discrete (length_of r.form) (value_told (checked_of operand_1 s))) LengthsDiffer no_operand ∷ [])))
      (first (both_checks s r)) ≡ first (compose_checks s r room)
  told_verdict =
      same_after (first (both_checks s r)) (lines (value_told (checked_of operand_1 s))) (lines (count_of s)) (λ e. ap lines (both_counts s r e).0)
      ∙ sym (parts_first (both_checks s r) seven (eight ∷ []) ∙ ap (λ (v : Verdict). if_fine (first (both_checks s r)) v (first (both_checks s r)))
      (parts_first seven eight [] ∙ ap (λ (v : Verdict). if_fine (first seven) v (first seven)) (parts_last eight)))
    where
      lines : ℕ → Verdict
      lines n = if_fine (first (need (ℕ_discrete (length_of r.form) n) LengthsDiffer no_operand ∷ [])) (first eight) (first (need (ℕ_discrete (length_of r.form) n) LengthsDiffer no_operand ∷ []))
