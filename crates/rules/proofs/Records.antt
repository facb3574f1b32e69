-- Runs as records: numbers and records are each other's; which refusal is told exactly when, and that a refusal changes nothing. By recursion
-- over the pairs, and by the law of tables.
-- Assumes nothing.
use Prim.Native.Nat.{ℕ, ◌*◌, ◌/◌, ◌%◌, ◌≤◌, ◌<◌}
use native.Mathlib.Decide.{dec_le}
use native.Mathlib.Omega.{arith}
use mathlib.Core.Path.{◌≡◌, refl, ap}
use mathlib.Core.Logic.{◌↔◌, ◌≢◌, ◌⊎◌, inl, inr}
use mathlib.Core.List.{List, [], ◌∷◌}
use lib.ListN.{length}
use Rattle.rows.specs.declared.Refusal.{Refusal}
use Rattle.rows.specs.Table.{Verdict, numbered}
use Rattle.std.specs.Prelude.{Ok, Err}
use Rattle.rows.specs.Table.{number_told, First, refusal, if_fine}
use Rattle.rows.proofs.TableLaws.{same_refusal, first_exactly, accepts_exactly, line_refuses}
use Rattle.rules.specs.declared.Run.{Run}
use Rattle.rules.specs.Records.{numbers_of, records_of, numbers_checks, to_numbers_verdict, to_numbers, to_numbers_out, records_checks, to_records_verdict, to_records, to_records_out}
use Rattle.rows.specs.declared.Reason.TheVariants.{NoRoom, RunsUnfit}
use Rattle.rows.specs.Table.{operand_1, no_operand}

-- ---- numbers and records

pub records_of_numbers : (rs : List Run) → records_of (numbers_of rs) ≡ rs
records_of_numbers [] = refl
records_of_numbers (r ∷ rs) = ap (λ (l : List Run). r ∷ l) (records_of_numbers rs)

pub numbers_of_records : (ns : List ℕ) → length ns % 2 ≡ 0 → numbers_of (records_of ns) ≡ ns
numbers_of_records [] h = refl
numbers_of_records (first ∷ []) h = absurd (omega arith)
numbers_of_records (first ∷ past ∷ ns) h = ap (λ (l : List ℕ). first ∷ past ∷ l) (numbers_of_records ns (omega arith))

pub numbers_length : (rs : List Run) → length (numbers_of rs) ≡ length rs * 2
numbers_length [] = refl
numbers_length (r ∷ rs) = omega (arith, numbers_length rs)

pub records_length : (ns : List ℕ) → length (records_of ns) ≡ length ns / 2
records_length [] = refl
records_length (first ∷ []) = omega arith
records_length (first ∷ past ∷ ns) = omega (arith, records_length ns)

-- ---- to numbers

-- a refusal leaves everything as it was
unchanged : {X : Type 0} (v : Verdict) (to from : X) → number_told v ≢ 0 → if_fine v to from ≡ from
unchanged (Ok u) to from h = absurd (h refl)
unchanged (Err x) to from h = refl

module _ (rs : List Run) (out : List ℕ) where
  -- 8, which names no operand, exactly where out has fewer than twice as many numbers as there are runs
  pub to_numbers_refuses : (x : Refusal) → (to_numbers rs out ≡ Err x) ↔ ((x ≡ refusal (numbered 8 NoRoom refl) no_operand) × (length out < length rs * 2))
  unfolding to_numbers
  to_numbers_refuses x =
      let t = first_exactly (numbers_checks rs out) (Err x) in
      let l = line_refuses (dec_le (length rs * 2) (length out)) NoRoom no_operand x in
      (λ e. let h = l.0 (t.0 e) in (h.0, omega (arith, h.1)), λ h. t.1 (l.1 (h.0, λ l. omega (arith, h.1))))

  pub to_numbers_accepts : (number_told (to_numbers rs out) ≡ 0) ↔ (length rs * 2 ≤ length out)
  unfolding to_numbers
  to_numbers_accepts =
      let t = accepts_exactly (numbers_checks rs out) in
      (λ e. (t.0 e).0, λ l. t.1 (l, tt))

  pub to_numbers_refused : number_told (to_numbers rs out) ≢ 0 → to_numbers_out rs out ≡ out
  unfolding to_numbers to_numbers_out
  to_numbers_refused = unchanged (to_numbers_verdict rs out) _ out

-- ---- to records

module _ (ns : List ℕ) (out : List Run) where
  -- 14, which names operand 1, exactly where a number has no pair; then 8 where out has fewer records than there are pairs
  abbrev pub RecordsRefuse : Refusal → Type 0
  RecordsRefuse x =
      ((x ≡ refusal (numbered 14 RunsUnfit refl) operand_1) × (length ns % 2 ≢ 0))
      ⊎ ((x ≡ refusal (numbered 8 NoRoom refl) no_operand) × (length ns % 2 ≡ 0) × (length out < length ns / 2))

  pub to_records_refuses : (x : Refusal) → (to_records ns out ≡ Err x) ↔ RecordsRefuse x
  unfolding to_records
  to_records_refuses x =
      let t = first_exactly (records_checks ns out) (Err x) in
      (λ e. to (t.0 e), λ h. t.1 (from h))
    where
      to : First (records_checks ns out) (Err x) → RecordsRefuse x
      to (inl (e, h)) = let l = (line_refuses (dec_le (length ns / 2) (length out)) NoRoom no_operand x).0 h in inr (l.0, e, omega (arith, l.1))
      to (inr (n, e)) = inl (same_refusal e, n)

      from : RecordsRefuse x → First (records_checks ns out) (Err x)
      from (inl (e, n)) = inr (n, ap Err e)
      from (inr (e, m, l)) = inl (m, (line_refuses (dec_le (length ns / 2) (length out)) NoRoom no_operand x).1 (e, λ h. omega (arith, l)))

  pub to_records_accepts : (number_told (to_records ns out) ≡ 0) ↔ ((length ns % 2 ≡ 0) × (length ns / 2 ≤ length out))
  unfolding to_records
  to_records_accepts =
      let t = accepts_exactly (records_checks ns out) in
      (λ e. let m = t.0 e in (m.0, m.1.0), λ h. t.1 (h.0, (h.1, tt)))

  pub to_records_refused : number_told (to_records ns out) ≢ 0 → to_records_out ns out ≡ out
  unfolding to_records to_records_out
  to_records_refused = unchanged (to_records_verdict ns out) _ out
