-- The table of a recovery, part by part: the operands' with 7, then 17 with the first row outside self, and 8. By the law of parts in order, and by
-- what the first row outside is. Assumes nothing.
use Prim.Native.Nat.{ℕ, zero, suc}
use native.Mathlib.Decide.{ℕ_discrete}
use native.Mathlib.Omega.{arith}
use mathlib.Core.Path.{◌≡◌, refl, sym, ap, ◌∙◌}
use mathlib.Core.Logic.{◌≢◌}
use mathlib.Core.List.{[], ◌∷◌}
use Rattle.std.specs.Prelude.{Ok, Err}
use Rattle.rows.specs.declared.Refusal.{Refusal}
use Rattle.rows.specs.declared.Row.{Row}
use Rattle.rows.specs.declared.Reason.TheVariants.{RowOutside}
use Rattle.rows.specs.Rows.{count}
use Rattle.rows.specs.Lists.{select}
use Rattle.rows.specs.Table.{Verdict, no_operand, refusal, first, if_fine}
use Rattle.rows.proofs.TableLaws.{fine_exactly, parts_first, parts_ok, parts_err, parts_last, then_then, then_fine, alone_refused, alone_fine}
use Rattle.rows.proofs.SelectLaws.{selects, select_none}
use Rattle.rows.proofs.RecoverLaws.{outside_length}
use Rattle.rules.specs.Operand.{Operand, rows_of, length_of, count_of, Accepted}
use Rattle.rules.specs.Compose.{both_checks}
use Rattle.rules.specs.Recover.{strays, first_stray, lengths_checks, inside_checks, room_checks, recover_checks}
use Rattle.rules.proofs.OperandLaws.{accepted_length}
use Rattle.rules.proofs.ComposeLaws.{both_met}
use Rattle.recover.specs.Judged.{match_checks, last_checks}

module _ (s k : Operand) where
  -- ---- the operands, then 7

  pub match_err_both : {x : Refusal} → first (both_checks s k) ≡ Err x → first (match_checks s k) ≡ Err x
  match_err_both e = parts_err (both_checks s k) (lengths_checks s k ∷ []) e

  pub match_by_lengths : first (both_checks s k) ≡ Ok tt → first (match_checks s k) ≡ first (lengths_checks s k)
  match_by_lengths e = parts_ok (both_checks s k) (lengths_checks s k ∷ []) e ∙ parts_last (lengths_checks s k)

  pub matched_parts : first (match_checks s k) ≡ if_fine (first (both_checks s k)) (first (lengths_checks s k)) (first (both_checks s k))
  matched_parts = parts_first (both_checks s k) (lengths_checks s k) [] ∙ ap (λ (v : Verdict). if_fine (first (both_checks s k)) v (first (both_checks s k))) (parts_last (lengths_checks s k))

  -- both are accepted and of one length
  pub match_fine : first (match_checks s k) ≡ Ok tt → Accepted s × Accepted k × (length_of k.form ≡ length_of s.form)
  match_fine e =
      let f = then_fine (first (both_checks s k)) (first (lengths_checks s k)) (sym matched_parts ∙ e) in
      let well = (both_met s k).0 ((fine_exactly (both_checks s k)).0 f.0) in
      (well.0, well.1, ((fine_exactly (lengths_checks s k)).0 f.1).0)

  -- ---- and then 17 and 8

  pub all_verdict : (room : ℕ) → first (recover_checks s k room) ≡ if_fine (first (match_checks s k)) (first (last_checks s k (count_of s) room)) (first (match_checks s k))
  all_verdict room =
      let b = first (both_checks s k) in
      let l = first (lengths_checks s k) in
      let e = first (last_checks s k (count_of s) room) in
      parts_first (both_checks s k) (lengths_checks s k) (inside_checks s k ∷ room_checks (count_of s) room ∷ [])
      ∙ ap (λ (v : Verdict). if_fine b v b) (parts_first (lengths_checks s k) (inside_checks s k) (room_checks (count_of s) room ∷ []))
      ∙ then_then b l e ∙ ap (λ (v : Verdict). if_fine v e v) (sym matched_parts)

  module _ (same : length_of k.form ≡ length_of s.form) (own : Accepted s) (other : Accepted k) (bits room : ℕ) where
    -- a row lies outside where the first that does is below the length: it is told with 17
    pub stray_told : (row : Row) → row.0 ≡ select (strays s k) 0 → row.0 ≢ length_of s.form → first (last_checks s k bits room) ≡ Err (refusal (RowOutside row) no_operand)
    stray_told row here h =
        let out : count (strays s k) ≢ 0 = λ e. h (here ∙ select_none (strays s k) 0 (omega arith) ∙ outside_length (rows_of s) (rows_of k) ∙ accepted_length k other ∙ same) in
        let row_is : first_stray s k ≡ row = λ i. record { 0 = sym here i } in
        parts_err (inside_checks s k) (room_checks bits room ∷ []) (alone_refused (ℕ_discrete (count (strays s k)) 0) (RowOutside (first_stray s k)) no_operand out)
        ∙ ap (λ (r : Row). Err (refusal (RowOutside r) no_operand)) row_is

    -- and where none does the room decides
    pub room_told : (row : Row) → row.0 ≡ select (strays s k) 0 → row.0 ≡ length_of s.form → first (last_checks s k bits room) ≡ first (room_checks bits room)
    room_told row here e =
        let none : count (strays s k) ≡ 0 = inside (count (strays s k)) refl in
        parts_ok (inside_checks s k) (room_checks bits room ∷ []) (alone_fine (ℕ_discrete (count (strays s k)) 0) (RowOutside (first_stray s k)) no_operand none)
        ∙ parts_last (room_checks bits room)
      where
        inside : (n : ℕ) → n ≡ count (strays s k) → count (strays s k) ≡ 0
        inside zero q = sym q
        inside (suc n) q =
            let found = selects (strays s k) 0 (omega arith) in
            absurd (omega (arith, found.within, outside_length (rows_of s) (rows_of k), accepted_length k other, same, here, e))

  -- ---- the whole table, by its parts

  module _ (room : ℕ) where
    pub all_refused : {x : Refusal} → first (match_checks s k) ≡ Err x → first (recover_checks s k room) ≡ Err x
    all_refused e = all_verdict room ∙ ap (λ (v : Verdict). if_fine v (first (last_checks s k (count_of s) room)) v) e

    pub all_passed : first (match_checks s k) ≡ Ok tt → first (recover_checks s k room) ≡ first (last_checks s k (count_of s) room)
    all_passed e = all_verdict room ∙ ap (λ (v : Verdict). if_fine v (first (last_checks s k (count_of s) room)) v) e
