-- Demands 1 and 2 for composition, as statements that can be held against document 01: which refusal exactly when, that a refusal
-- changes nothing, and what an accepted composition writes, row by row, counts and tells. By the laws of tables and of `compose`.
-- Assumes nothing.
use Prim.Native.Nat.{ℕ, ◌≤◌, ◌<◌}
use mathlib.Core.Path.{◌≡◌, refl}
use mathlib.Core.Logic.{◌↔◌, ◌≢◌, ◌⊎◌, inl, inr}
use mathlib.Core.Bool.{Bool, true, ◌&&◌}
use mathlib.Core.List.{List, [], ◌∷◌}
use native.Mathlib.Decide.{ℕ_discrete, dec_le}
use native.Mathlib.Omega.{arith}
use lib.ListN.{length}
use Rattle.rows.specs.declared.Refusal.{Refusal}
use Rattle.rows.specs.Table.{Verdict, numbered}
use Rattle.std.specs.Prelude.{Ok, Err}
use Rattle.rows.specs.Rows.{rank_at}
use Rattle.rows.specs.Laid.{words_for}
use Rattle.rows.specs.Table.{Line, First, Met, first, in_order, need, refusal}
use Rattle.rows.proofs.TableLaws.{fine_exactly, parts_met, none_met, parts_refuses, last_refuses, line_refuses, then_refuses, granted_refuses, granted_number}
use Rattle.rows.proofs.RowLaws.{compose_row}
use Rattle.rules.specs.declared.Factors.{Factors}
use Rattle.rules.specs.Answer.{answered}
use Rattle.rules.specs.Operand.{Operand, rows_of, length_of, count_of, operand_checks, Accepted}
use Rattle.rules.specs.Route.{published}
use Rattle.rules.specs.Compose.{Paired, both_checks, compose_checks, result, routed, composed, composed_out}
use Rattle.rules.proofs.OperandLaws.{accepted_as}
use Rattle.rules.proofs.AnswerLaws.{Bare, nothing_done}
use Rattle.rules.proofs.Writes.{bit_at, row, Writes, writes, in_both}
use Rattle.rules.proofs.Operands.{Wrong, operand_refuses}
use Rattle.rules.proofs.ComposeLaws.{both_met, result_length, result_count}
use Rattle.rows.specs.declared.Reason.TheVariants.{LengthsDiffer, NoRoom}
use Rattle.rows.specs.Table.{operand_1, operand_2, no_operand, number_told, operand_told}
use Rattle.rules.specs.Answer.{summary_told}
use Rattle.std.specs.Prelude.{Option}
use Rattle.rules.specs.declared.Route.{Route}

module _ (s r : Operand) where
  -- ---- demand 1: self's refusal, then the rank mask's, then 7, then 8

  abbrev pub OperandRefuses : Refusal → Type 0
  OperandRefuses x =
      Wrong operand_1 s x
      ⊎ (Accepted s × Wrong operand_2 r x)

  abbrev pub Refuses : ℕ → Refusal → Type 0
  Refuses room x =
      OperandRefuses x
      ⊎ ((x ≡ refusal (numbered 7 LengthsDiffer refl) no_operand) × Accepted s × Accepted r × (length_of r.form ≢ count_of s))
      ⊎ ((x ≡ refusal (numbered 8 NoRoom refl) no_operand) × Paired s r × (room < words_for (length_of s.form)))

  abbrev pub Accepts : ℕ → Type 0
  Accepts room = Paired s r × (words_for (length_of s.form) ≤ room)

  abbrev seven : List Line
  seven = need (ℕ_discrete (length_of r.form) (count_of s)) LengthsDiffer no_operand ∷ []

  abbrev eight : ℕ → List Line
  eight room = need (dec_le (words_for (length_of s.form)) room) NoRoom no_operand ∷ []

  pub both_refuses : (x : Refusal) → First (both_checks s r) (Err x) ↔ OperandRefuses x
  both_refuses x = (λ h. to ((parts_refuses (operand_checks operand_1 s) (operand_checks operand_2 r ∷ []) x).0 h), λ w. (parts_refuses (operand_checks operand_1 s) (operand_checks operand_2 r ∷ []) x).1 (from w))
    where
      to : First (operand_checks operand_1 s) (Err x) ⊎ (Met (operand_checks operand_1 s) × First (in_order (operand_checks operand_2 r ∷ [])) (Err x)) → OperandRefuses x
      to (inl h) = inl ((operand_refuses operand_1 s x).0 h)
      to (inr (m, h)) = inr ((accepted_as operand_1 s).0 m, (operand_refuses operand_2 r x).0 ((last_refuses (operand_checks operand_2 r) x).0 h))

      from : OperandRefuses x → First (operand_checks operand_1 s) (Err x) ⊎ (Met (operand_checks operand_1 s) × First (in_order (operand_checks operand_2 r ∷ [])) (Err x))
      from (inl w) = inl ((operand_refuses operand_1 s x).1 w)
      from (inr (t, w)) = inr ((accepted_as operand_1 s).1 t, (last_refuses (operand_checks operand_2 r) x).1 ((operand_refuses operand_2 r x).1 w))

  table_refuses : (room : ℕ) (x : Refusal) → First (compose_checks s r room) (Err x) ↔ Refuses room x
  table_refuses room x =
      (λ h. to ((parts_refuses (both_checks s r) (seven ∷ eight room ∷ []) x).0 h), λ w. (parts_refuses (both_checks s r) (seven ∷ eight room ∷ []) x).1 (from w))
    where
      lines : First (in_order (seven ∷ eight room ∷ [])) (Err x) ↔ (First seven (Err x) ⊎ (Met seven × (x ≡ refusal NoRoom no_operand) × (¬ (words_for (length_of s.form) ≤ room))))
      lines = then_refuses seven (dec_le (words_for (length_of s.form)) room) NoRoom no_operand x

      ranks : First seven (Err x) ↔ ((x ≡ refusal LengthsDiffer no_operand) × (length_of r.form ≢ count_of s))
      ranks = line_refuses (ℕ_discrete (length_of r.form) (count_of s)) LengthsDiffer no_operand x

      next : Accepted s × Accepted r → First seven (Err x) ⊎ (Met seven × (x ≡ refusal NoRoom no_operand) × (¬ (words_for (length_of s.form) ≤ room))) → Refuses room x
      next a (inl h) = let w = ranks.0 h in inr (inl (w.0, a.0, a.1, w.1))
      next a (inr (m, e, l)) = inr (inr (e, record { self = a.0; rank = a.1; ranks = m.0 }, omega arith))

      to : First (both_checks s r) (Err x) ⊎ (Met (both_checks s r) × First (in_order (seven ∷ eight room ∷ [])) (Err x)) → Refuses room x
      to (inl h) = inl ((both_refuses x).0 h)
      to (inr (m, h)) = next ((both_met s r).0 m) (lines.0 h)

      from : Refuses room x → First (both_checks s r) (Err x) ⊎ (Met (both_checks s r) × First (in_order (seven ∷ eight room ∷ [])) (Err x))
      from (inl w) = inl ((both_refuses x).1 w)
      from (inr (inl (e, t, u, h))) = inr ((both_met s r).1 (t, u), lines.1 (inl (ranks.1 (e, h))))
      from (inr (inr (e, p, l))) = inr ((both_met s r).1 (p.self, p.rank), lines.1 (inr ((p.ranks, tt), e, λ h. omega arith)))

  module _ (k : Factors) (out : List ℕ) where
    -- each refusal, its number and its operand, exactly when
    pub composed_refuses : (x : Refusal) → ((composed k s r out) ≡ Err x) ↔ Refuses (length out) x
    unfolding composed
    composed_refuses x =
        let t = granted_refuses (compose_checks s r (length out)) _ x in
        (λ e. (table_refuses (length out) x).0 (t.0 e), λ w. t.1 ((table_refuses (length out) x).1 w))

  -- the needs part by part; `search` finds each where it stands, so that the order is the theorem's alone to say
  compose_met : (room : ℕ) → Met (compose_checks s r room) ↔ Accepts room
  compose_met room = (to, from)
    where
      to : Met (compose_checks s r room) → Accepts room
      to m =
          let p = (parts_met _ _).0 m in
          let q = (parts_met _ _).0 p.1 in
          let u = (parts_met _ _).0 q.1 in
          let a = (both_met s r).0 (search) in
          (record { self = a.0; rank = a.1; ranks = search }, search)

      from : Accepts room → Met (compose_checks s r room)
      from t =
          let both = (both_met s r).1 (t.0.self, t.0.rank) in
          let ranks = t.0.ranks in
          (parts_met _ _).1 (search, (parts_met _ _).1 (search, (parts_met _ _).1 (search, none_met)))

  pub compose_fine : (room : ℕ) → (first (compose_checks s r room) ≡ Ok tt) ↔ Accepts room
  compose_fine room = (λ e. (compose_met room).0 ((fine_exactly (compose_checks s r room)).0 e), λ t. (fine_exactly (compose_checks s r room)).1 ((compose_met room).1 t))

  module _ (k : Factors) (out : List ℕ) where
    -- and number 0, accepted, exactly otherwise
    pub composed_accepts : ((number_told (composed k s r out)) ≡ 0) ↔ Accepts (length out)
    unfolding composed
    composed_accepts =
        let t = granted_number (compose_checks s r (length out)) _ in
        (λ e. (compose_met (length out)).0 (t.0 e), λ a. t.1 ((compose_met (length out)).1 a))

    -- a refusal changes nothing, and reports count 0, route 0 and density 0.0
    pub composed_refused : (number_told (composed k s r out)) ≢ 0 → (composed_out s r out ≡ out) × Bare (composed k s r out)
    unfolding composed composed_out
    composed_refused = nothing_done (first (compose_checks s r (length out))) _ _ out

    -- ---- demand 2: row i of self and the rank mask's row at its rank; the route is the table's

    pub composed_writes : Accepts (length out)
        → Writes (length_of s.form) (λ i. row s i && row r (rank_at (rows_of s) i)) (routed k s r) (composed k s r out) (composed_out s r out) out
    unfolding composed composed_out
    composed_writes t =
        writes (first (compose_checks s r (length out))) ((compose_fine (length out)).1 t) (length_of s.form) (result s r) (routed k s r) out
        (result_length s r t.0) _ (λ i h. compose_row (rows_of s) (rows_of r) i)

    -- the count told is the rank mask's
    pub composed_count : Accepts (length out) → (summary_told (composed k s r out)).count ≡ count_of r
    unfolding composed
    composed_count t = rw ((compose_fine (length out)).1 t) (result_count s r t.0)

  -- in document 01's words: row i is set exactly if self's row i is set and the rank mask's row at its rank is set
  pub composed_row : (out : List ℕ) → Accepts (length out) → (i : ℕ) → i < length_of s.form
      → (bit_at (composed_out s r out) i ≡ true) ↔ ((row s i ≡ true) × (row r (rank_at (rows_of s) i) ≡ true))
  composed_row out t i h = rw ((composed_writes published out t).rows i h) (in_both (row s i) (row r (rank_at (rows_of s) i)))

-- ---- the factors decide the route and nothing else: the output does not mention them, and the rest of the answer is the same

but_the_route : (v : Verdict) (rows : List Bool) (n m : Option Route)
    → (number_told (answered v rows n) ≡ number_told (answered v rows m)) × (operand_told (answered v rows n) ≡ operand_told (answered v rows m)) × ((summary_told (answered v rows n)).count ≡ (summary_told (answered v rows m)).count) × ((summary_told (answered v rows n)).density ≡ (summary_told (answered v rows m)).density)
but_the_route (Ok u) rows n m = (refl, refl, refl, refl)
but_the_route (Err x) rows n m = (refl, refl, refl, refl)

pub composed_factors : (k l : Factors) (s r : Operand) (out : List ℕ)
    → (number_told (composed k s r out) ≡ number_told (composed l s r out))
    × (operand_told (composed k s r out) ≡ operand_told (composed l s r out))
    × ((summary_told (composed k s r out)).count ≡ (summary_told (composed l s r out)).count)
    × ((summary_told (composed k s r out)).density ≡ (summary_told (composed l s r out)).density)
unfolding composed
composed_factors k l s r out = but_the_route (first (compose_checks s r (length out))) (result s r) _ _
