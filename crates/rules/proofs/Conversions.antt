-- Demand 1 for the conversions, as statements that can be held against document 01: which refusal is told exactly when, and that a
-- refusal changes nothing. By the law of tables.
-- Assumes nothing.
use Prim.Native.Nat.{ℕ, ◌*◌, ◌≤◌, ◌<◌}
use mathlib.Core.Path.{◌≡◌, refl}
use mathlib.Core.Logic.{◌↔◌, ◌≢◌, ◌⊎◌, inl, inr}
use mathlib.Core.List.{List, ◌++◌}
use native.Mathlib.Decide.{dec_le}
use native.Mathlib.Omega.{arith}
use lib.ListN.{length, drop}
use Rattle.rows.specs.declared.Refusal.{Refusal}
use Rattle.std.specs.Prelude.{Ok, Err}
use Rattle.rows.specs.Runs.{runs_of, runs_in}
use Rattle.rows.specs.Laid.{words_for}
use Rattle.rows.specs.Table.{Verdict, First, Met, first, refusal, granted, if_fine, numbered}
use Rattle.rows.proofs.TableLaws.{fine_exactly, parts_met, none_met, then_refuses, granted_refuses, granted_number}
use Rattle.rules.specs.Operand.{Operand, rows_of, length_of, count_of, operand_checks, Accepted}
use Rattle.rules.specs.Convert.{convert_checks, to_words_verdict, to_words, to_words_out, to_list_verdict, to_list, to_list_out, to_runs_verdict, written_of, to_runs, to_runs_out, answer_of, runs_told}
use Rattle.rules.proofs.OperandLaws.{accepted_as}
use Rattle.rules.proofs.AnswerLaws.{Bare, nothing_done}
use Rattle.rules.proofs.Operands.{Wrong, operand_refuses}
use Rattle.rows.specs.declared.Reason.TheVariants.{NoRoom}
use Rattle.rows.specs.Table.{operand_1, no_operand, number_told}

-- ---- a conversion: operand 1's refusal, then 8

abbrev pub Refuses : Operand → ℕ → ℕ → Refusal → Type 0
Refuses o needed room x =
    Wrong operand_1 o x
    ⊎ ((x ≡ refusal (numbered 8 NoRoom refl) no_operand) × Accepted o × (room < needed))

module _ (o : Operand) (needed room : ℕ) where
  table_refuses : (x : Refusal) → First (convert_checks o needed room) (Err x) ↔ Refuses o needed room x
  table_refuses x =
      let t = then_refuses (operand_checks operand_1 o) (dec_le needed room) NoRoom no_operand x in
      (λ h. to (t.0 h), λ w. t.1 (from w))
    where
      to : First (operand_checks operand_1 o) (Err x) ⊎ (Met (operand_checks operand_1 o) × (x ≡ refusal NoRoom no_operand) × (¬ (needed ≤ room))) → Refuses o needed room x
      to (inl h) = inl ((operand_refuses operand_1 o x).0 h)
      to (inr (m, e, l)) = inr (e, (accepted_as operand_1 o).0 m, omega arith)

      from : Refuses o needed room x → First (operand_checks operand_1 o) (Err x) ⊎ (Met (operand_checks operand_1 o) × (x ≡ refusal NoRoom no_operand) × (¬ (needed ≤ room)))
      from (inl w) = inl ((operand_refuses operand_1 o x).1 w)
      from (inr (e, m, l)) = inr ((accepted_as operand_1 o).1 m, e, λ h. omega arith)

  convert_met : Met (convert_checks o needed room) ↔ (Accepted o × (needed ≤ room))
  convert_met = (
    λ m. (let p = (parts_met _ _).0 m in ((accepted_as operand_1 o).0 p.0, ((parts_met _ _).0 p.1).0.0)),
    λ t. (parts_met _ _).1 ((accepted_as operand_1 o).1 t.0, (parts_met _ _).1 ((t.1, tt), none_met)),
  )

  pub convert_fine : (first (convert_checks o needed room) ≡ Ok tt) ↔ (Accepted o × (needed ≤ room))
  convert_fine = (λ e. convert_met.0 ((fine_exactly (convert_checks o needed room)).0 e), λ t. (fine_exactly (convert_checks o needed room)).1 (convert_met.1 t))

  module _ {X : Type 0} (given : X) where
    refuses : (x : Refusal) → (granted (first (convert_checks o needed room)) given ≡ Err x) ↔ Refuses o needed room x
    refuses x =
        let t = granted_refuses (convert_checks o needed room) given x in
        (λ e. (table_refuses x).0 (t.0 e), λ w. t.1 ((table_refuses x).1 w))

    accepts : (number_told (granted (first (convert_checks o needed room)) given) ≡ 0) ↔ (Accepted o × (needed ≤ room))
    accepts =
        let t = granted_number (convert_checks o needed room) given in
        (λ e. convert_met.0 (t.0 e), λ p. t.1 (convert_met.1 p))

module _ (o : Operand) (out : List ℕ) where
  -- each refusal exactly when: 1 to 6 and 14 name operand 1, 8 names none
  pub to_words_refuses : (x : Refusal) → ((to_words o out) ≡ Err x) ↔ Refuses o (words_for (length_of o.form)) (length out) x
  unfolding to_words
  to_words_refuses = refuses o (words_for (length_of o.form)) (length out) _

  pub to_list_refuses : (x : Refusal) → ((to_list o out) ≡ Err x) ↔ Refuses o (count_of o) (length out) x
  unfolding to_list
  to_list_refuses = refuses o (count_of o) (length out) _

  pub to_runs_refuses : (x : Refusal) → (to_runs o out ≡ Err x) ↔ Refuses o (runs_in (rows_of o) * 2) (length out) x
  unfolding to_runs
  to_runs_refuses = refuses o (runs_in (rows_of o) * 2) (length out) _

  -- and number 0, accepted, exactly otherwise
  pub to_words_accepts : ((number_told (to_words o out)) ≡ 0) ↔ (Accepted o × (words_for (length_of o.form) ≤ length out))
  unfolding to_words
  to_words_accepts = accepts o (words_for (length_of o.form)) (length out) _

  pub to_list_accepts : ((number_told (to_list o out)) ≡ 0) ↔ (Accepted o × (count_of o ≤ length out))
  unfolding to_list
  to_list_accepts = accepts o (count_of o) (length out) _

  pub to_runs_accepts : ((number_told (to_runs o out)) ≡ 0) ↔ (Accepted o × (runs_in (rows_of o) * 2 ≤ length out))
  unfolding to_runs
  to_runs_accepts = accepts o (runs_in (rows_of o) * 2) (length out) _

  -- a refusal changes nothing, and reports count 0, route 0 and density 0.0
  pub to_words_refused : (number_told (to_words o out)) ≢ 0 → (to_words_out o out ≡ out) × Bare (to_words o out)
  unfolding to_words to_words_out
  to_words_refused = nothing_done (to_words_verdict o out) _ _ out

  pub to_list_refused : (number_told (to_list o out)) ≢ 0 → (to_list_out o out ≡ out) × Bare (to_list o out)
  unfolding to_list to_list_out
  to_list_refused = nothing_done (to_list_verdict o out) _ _ out

  -- and no runs
  pub to_runs_refused : (number_told (to_runs o out)) ≢ 0 → (to_runs_out o out ≡ out) × Bare (answer_of (to_runs o out)) × (runs_told (to_runs o out) ≡ 0)
  unfolding to_runs to_runs_out
  to_runs_refused = by (to_runs_verdict o out)
    where
      by : (v : Verdict) → number_told (granted v (written_of o)) ≢ 0
          → (if_fine v (runs_of (rows_of o) ++ drop (runs_in (rows_of o) * 2) out) out ≡ out) × Bare (answer_of (granted v (written_of o))) × (runs_told (granted v (written_of o)) ≡ 0)
      by (Ok u) h = absurd (h refl)
      by (Err r) h = (refl, (refl, refl, refl), refl)
