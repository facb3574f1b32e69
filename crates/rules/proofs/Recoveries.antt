-- Demand 1 for recovery, what an accepted recovery writes, rank by rank, counts and tells, and which row 17 tells: as statements that can be
-- held against document 02, P6. By the laws of tables and of `recover`.
-- Assumes nothing.
use Prim.Native.Nat.{ℕ, zero, suc, ◌≤◌, ◌<◌}
use mathlib.Core.Path.{◌≡◌, refl, sym, ap, subst, ◌∙◌}
use mathlib.Core.Logic.{◌↔◌, ◌≢◌, ◌⊎◌, inl, inr}
use mathlib.Core.List.{List, [], ◌∷◌}
use native.Mathlib.Decide.{ℕ_discrete, dec_le}
use native.Mathlib.Omega.{arith}
use lib.ListN.{length}
use Rattle.rows.specs.declared.Row.{Row}
use Rattle.rows.specs.declared.Reason.{Reason}
use Rattle.rows.specs.declared.Reason.TheVariants.{LengthOverLimit, StartOver63, TooFewWords, CountDiffers, NotAscending, EntryPastLength, NoSuchRank, StateOutOfBound, StreamOverLimit, ListGiven, Malformed, RunsUnfit}
use Rattle.rows.specs.declared.Refusal.{Refusal}
use Rattle.std.specs.Prelude.{Result}
use Rattle.std.specs.Prelude.{None, Ok, Err}
use Rattle.rows.specs.Rows.{count}
use Rattle.rows.specs.Lists.{select}
use Rattle.rows.specs.Laid.{words_for}
use Rattle.rows.specs.Table.{Named, number_of, row_of, row_told, Line, First, Met, first, in_order, refusal, numbered}
use Rattle.rows.proofs.TableLaws.{fine_exactly, parts_met, none_met, parts_refuses, then_refuses, line_refuses, granted_refuses, granted_number}
use Rattle.rows.proofs.RecoverLaws.{recover_length, recover_rank, recover_count, FirstOutside, first_outside}
use Rattle.rules.specs.Operand.{Operand, rows_of, length_of, count_of, Accepted}
use Rattle.rules.specs.Compose.{both_checks}
use Rattle.rules.specs.Recover.{strays, first_stray, Within, lengths_checks, inside_checks, room_checks, recover_checks, recovery, recovered, recovered_out}
use Rattle.rules.proofs.OperandLaws.{accepted_length, accepted_count}
use Rattle.rules.proofs.Operands.{operand_numbers}
use Rattle.rules.proofs.AnswerLaws.{Bare, nothing_done}
use Rattle.rules.proofs.Writes.{row, Writes, writes}
use Rattle.rules.proofs.ComposeLaws.{both_met}
use Rattle.rules.proofs.Compositions.{OperandRefuses, both_refuses}
use Rattle.rows.specs.declared.Reason.TheVariants.{LengthsDiffer, NoRoom, RowOutside}
use Rattle.rows.specs.Table.{operand_1, operand_2, no_operand, number_told}
use Rattle.rules.specs.Answer.{summary_told}
use Rattle.rules.specs.Answer.{no_route}

-- ---- the row told: 0 where 17 is not

pub told_else : {X : Type 0} (a : Result X Refusal) → number_told a ≢ 17 → row_told a ≡ 0
told_else (Ok x) h = refl
told_else (Err r) h = by r.reason h
  where
    by : (why : Reason) → number_of why ≢ 17 → row_of why ≡ 0
    by LengthOverLimit h = refl
    by StartOver63 h = refl
    by TooFewWords h = refl
    by CountDiffers h = refl
    by NotAscending h = refl
    by EntryPastLength h = refl
    by LengthsDiffer h = refl
    by NoRoom h = refl
    by NoSuchRank h = refl
    by StateOutOfBound h = refl
    by StreamOverLimit h = refl
    by ListGiven h = refl
    by Malformed h = refl
    by RunsUnfit h = refl
    by (RowOutside row) h = absurd (h refl)

-- refusals that are the same have the same number, and the same row
pub number : {x y : Refusal} → x ≡ y → number_of x.reason ≡ number_of y.reason
number e = ap (λ (x : Refusal). number_of x.reason) e

pub same_row : {a b : Row} {j k : Named} → refusal (RowOutside a) j ≡ refusal (RowOutside b) k → a ≡ b
same_row {a} {b} e = ap (λ (n : ℕ). record { 0 = n }) (ap (λ (x : Refusal). row_of x.reason) e)

pub some : (n : ℕ) → n ≢ 0 → 0 < n
some zero h = absurd (h refl)
some (suc n) h = omega arith

module _ (s k : Operand) where
  -- ---- the two operands where their needs are met

  pub lengths_same : Within s k → length (rows_of k) ≡ length (rows_of s)
  lengths_same w = accepted_length k w.kept ∙ w.lengths ∙ sym (accepted_length s w.self)

  -- the result has a row for each of self's set rows, and as many set rows as the second mask
  pub recovery_length : Within s k → length (recovery s k) ≡ count_of s
  recovery_length w = recover_length (rows_of s) (rows_of k) ∙ accepted_count s w.self

  pub recovery_count : Within s k → count (recovery s k) ≡ count_of k
  recovery_count w = recover_count (rows_of s) (rows_of k) (lengths_same w) w.inside ∙ accepted_count k w.kept

  -- ---- demand 1: self's refusal, then the second mask's, then 7, 17 and 8

  abbrev pub Refuses : ℕ → Refusal → Type 0
  Refuses room x =
      OperandRefuses s k x
      ⊎ ((x ≡ refusal (numbered 7 LengthsDiffer refl) no_operand) × Accepted s × Accepted k × (length_of k.form ≢ length_of s.form))
      ⊎ ((x ≡ refusal (numbered 17 (RowOutside (first_stray s k)) refl) no_operand) × Accepted s × Accepted k × (length_of k.form ≡ length_of s.form) × (count (strays s k) ≢ 0))
      ⊎ ((x ≡ refusal (numbered 8 NoRoom refl) no_operand) × Within s k × (room < words_for (count_of s)))

  abbrev pub Accepts : ℕ → Type 0
  Accepts room = Within s k × (words_for (count_of s) ≤ room)

  -- the lines after the operands'
  abbrev later : ℕ → List (List Line)
  later room = lengths_checks s k ∷ inside_checks s k ∷ room_checks (count_of s) room ∷ []

  later_refuses : (room : ℕ) (x : Refusal) → First (in_order (later room)) (Err x)
      ↔ (((x ≡ refusal LengthsDiffer no_operand) × (length_of k.form ≢ length_of s.form))
      ⊎ ((length_of k.form ≡ length_of s.form) × (((x ≡ refusal (RowOutside (first_stray s k)) no_operand) × (count (strays s k) ≢ 0)) ⊎ ((count (strays s k) ≡ 0) × (x ≡ refusal NoRoom no_operand) × (¬ (words_for (count_of s) ≤ room))))))
  later_refuses room x =
      let rest = inside_checks s k ∷ room_checks (count_of s) room ∷ [] in
      let p = parts_refuses (lengths_checks s k) rest x in
      let seven = line_refuses (ℕ_discrete (length_of k.form) (length_of s.form)) LengthsDiffer no_operand x in
      let lines = then_refuses (inside_checks s k) (dec_le (words_for (count_of s)) room) NoRoom no_operand x in
      let seventeen = line_refuses (ℕ_discrete (count (strays s k)) 0) (RowOutside (first_stray s k)) no_operand x in (
        λ h. on (p.0 h) (λ a. inl (seven.0 a)) (λ b. inr (b.0.0, on (lines.0 b.1) (λ c. inl (seventeen.0 c)) (λ d. inr (d.0.0, d.1, d.2)))),
        λ w. p.1 (on w (λ a. inl (seven.1 a)) (λ b. inr ((b.0, tt), lines.1 (on b.1 (λ c. inl (seventeen.1 c)) (λ d. inr ((d.0, tt), d.1, d.2)))))),
      )
    where
      on : {A B C : Type 0} → A ⊎ B → (A → C) → (B → C) → C
      on (inl a) f g = f a
      on (inr b) f g = g b

  table_refuses : (room : ℕ) (x : Refusal) → First (recover_checks s k room) (Err x) ↔ Refuses room x
  table_refuses room x =
      let p = parts_refuses (both_checks s k) (later room) x in
      (λ h. to (p.0 h), λ w. p.1 (from w))
    where
      next : Accepted s × Accepted k → First (in_order (later room)) (Err x) → Refuses room x
      next a h = by ((later_refuses room x).0 h)
        where
          by : ((x ≡ refusal LengthsDiffer no_operand) × (length_of k.form ≢ length_of s.form))
              ⊎ ((length_of k.form ≡ length_of s.form) × (((x ≡ refusal (RowOutside (first_stray s k)) no_operand) × (count (strays s k) ≢ 0)) ⊎ ((count (strays s k) ≡ 0) × (x ≡ refusal NoRoom no_operand) × (¬ (words_for (count_of s) ≤ room)))))
              → Refuses room x
          by (inl (e, d)) = inr (inl (e, a.0, a.1, d))
          by (inr (l, inl (e, d))) = inr (inr (inl (e, a.0, a.1, l, d)))
          by (inr (l, inr (i, e, d))) = inr (inr (inr (e, record { self = a.0; kept = a.1; lengths = l; inside = i }, omega arith)))

      to : First (both_checks s k) (Err x) ⊎ (Met (both_checks s k) × First (in_order (later room)) (Err x)) → Refuses room x
      to (inl h) = inl ((both_refuses s k x).0 h)
      to (inr (m, h)) = next ((both_met s k).0 m) h

      from : Refuses room x → First (both_checks s k) (Err x) ⊎ (Met (both_checks s k) × First (in_order (later room)) (Err x))
      from (inl w) = inl ((both_refuses s k x).1 w)
      from (inr (inl (e, t, u, d))) = inr ((both_met s k).1 (t, u), (later_refuses room x).1 (inl (e, d)))
      from (inr (inr (inl (e, t, u, l, d)))) = inr ((both_met s k).1 (t, u), (later_refuses room x).1 (inr (l, inl (e, d))))
      from (inr (inr (inr (e, w, l)))) =
          inr ((both_met s k).1 (w.self, w.kept), (later_refuses room x).1 (inr (w.lengths, inr (w.inside, e, λ h. omega arith))))

  -- the needs part by part; `search` finds each where it stands, so that the order is the theorem's alone to say
  recover_met : (room : ℕ) → Met (recover_checks s k room) ↔ Accepts room
  recover_met room = (to, from)
    where
      to : Met (recover_checks s k room) → Accepts room
      to m =
          let p = (parts_met _ _).0 m in
          let q = (parts_met _ _).0 p.1 in
          let u = (parts_met _ _).0 q.1 in
          let v = (parts_met _ _).0 u.1 in
          let a = (both_met s k).0 (search) in
          (record { self = a.0; kept = a.1; lengths = search; inside = search }, search)

      from : Accepts room → Met (recover_checks s k room)
      from t =
          let both = (both_met s k).1 (t.0.self, t.0.kept) in
          let lengths = t.0.lengths in
          let inside = t.0.inside in
          (parts_met _ _).1 (search, (parts_met _ _).1 (search, (parts_met _ _).1 (search, (parts_met _ _).1 (search, none_met))))

  pub recover_fine : (room : ℕ) → (first (recover_checks s k room) ≡ Ok tt) ↔ Accepts room
  recover_fine room = (λ e. (recover_met room).0 ((fine_exactly (recover_checks s k room)).0 e), λ t. (fine_exactly (recover_checks s k room)).1 ((recover_met room).1 t))

  module _ (out : List ℕ) where
    -- each refusal, its number and its operand, exactly when
    pub recovered_refuses : (x : Refusal) → ((recovered s k out) ≡ Err x) ↔ Refuses (length out) x
    unfolding recovered
    recovered_refuses x =
        let t = granted_refuses (recover_checks s k (length out)) _ x in
        (λ e. (table_refuses (length out) x).0 (t.0 e), λ w. t.1 ((table_refuses (length out) x).1 w))

    -- and number 0, accepted, exactly otherwise
    pub recovered_accepts : ((number_told (recovered s k out)) ≡ 0) ↔ Accepts (length out)
    unfolding recovered
    recovered_accepts =
        let t = granted_number (recover_checks s k (length out)) _ in
        (λ e. (recover_met (length out)).0 (t.0 e), λ a. t.1 ((recover_met (length out)).1 a))

    -- a refusal changes nothing, and reports count 0, route 0 and density 0.0
    pub recovered_refused : (number_told (recovered s k out)) ≢ 0 → (recovered_out s k out ≡ out) × Bare (recovered s k out)
    unfolding recovered recovered_out
    recovered_refused = nothing_done (first (recover_checks s k (length out))) _ _ out

    -- ---- what is written: a row for each of self's set rows, rank r as the r-th of them is kept; route 0

    pub recovered_writes : Accepts (length out) → Writes (count_of s) (λ r. row k (select (rows_of s) r)) None (recovered s k out) (recovered_out s k out) out
    unfolding recovered recovered_out
    recovered_writes t =
        writes (first (recover_checks s k (length out))) ((recover_fine (length out)).1 t) (count_of s) (recovery s k) no_route out
        (recovery_length t.0) _ (λ r h. recover_rank (rows_of s) (rows_of k) r (omega (arith, accepted_count s t.0.self)))

    -- the count told is the second mask's
    pub recovered_count : Accepts (length out) → (summary_told (recovered s k out)).count ≡ count_of k
    unfolding recovered
    recovered_count t = rw ((recover_fine (length out)).1 t) (recovery_count t.0)

    -- ---- the row told: with 17 it is in the second mask and not in self, and no earlier row is; else it is 0

    pub outside_else : number_told (recovered s k out) ≢ 17 → row_told (recovered s k out) ≡ 0
    outside_else = told_else (recovered s k out)

    -- 17 is told where a row lies outside, and of the first that does
    seventeen : (row : Row) (n : Named) → Refuses (length out) (refusal (RowOutside row) n) → (row ≡ first_stray s k) × (0 < count (strays s k))
    seventeen row n (inl (inl w)) = absurd (omega (arith, operand_numbers operand_1 s _ w))
    seventeen row n (inl (inr (t, w))) = absurd (omega (arith, operand_numbers operand_2 k _ w))
    seventeen row n (inr (inl t)) = absurd (omega (arith, number t.0))
    seventeen row n (inr (inr (inl (e, t, u, l, d)))) = (same_row e, some (count (strays s k)) d)
    seventeen row n (inr (inr (inr t))) = absurd (omega (arith, number t.0))

    pub outside_first : (row : Row) (n : Named) → recovered s k out ≡ Err (refusal (numbered 17 (RowOutside row) refl) n) → FirstOutside (rows_of s) (rows_of k) row.0
    outside_first row n e =
        let t = seventeen row n ((recovered_refuses (refusal (RowOutside row) n)).0 e) in
        subst (λ (r : Row). FirstOutside (rows_of s) (rows_of k) r.0) (sym t.0) (first_outside (rows_of s) (rows_of k) t.1)
