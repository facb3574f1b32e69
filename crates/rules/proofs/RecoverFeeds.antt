-- Demand 1 for a feed of recovery, as statements that can be held against document 02, P6: which refusal exactly when, that a refusal hands the
-- state back and changes nothing, which row 17 tells, and what an accepted feed writes, counts and adds. By the laws of tables and of `recover`.
-- Assumes nothing.
use Prim.Native.Nat.{ℕ, suc, ◌+◌, ◌≤◌, ◌<◌}
use native.Mathlib.Nat.{add-zero}
use native.Mathlib.Decide.{dec_le}
use native.Mathlib.Omega.{arith}
use mathlib.Core.Path.{◌≡◌, refl, sym, ap, subst, ◌∙◌}
use mathlib.Core.Logic.{◌↔◌, ◌≢◌, ◌⊎◌, inl, inr}
use mathlib.Core.Bool.{Bool, false}
use mathlib.Core.List.{List, [], ◌∷◌}
use lib.ListN.{length, get_or}
use Rattle.rows.specs.declared.Row.{Row}
use Rattle.rows.specs.declared.Refusal.{Refusal}
use Rattle.std.specs.Prelude.{None, Ok, Err}
use Rattle.rows.specs.Rows.{count, splice}
use Rattle.rows.specs.Lists.{select}
use Rattle.rows.specs.Words.{bits_of_all}
use Rattle.rows.specs.Laid.{words_for}
use Rattle.rows.specs.Table.{row_told, Named, Line, First, Met, in_order, refusal, numbered}
use Rattle.rows.proofs.TableLaws.{same_refusal, never, fine_exactly, parts_met, none_met, parts_refuses, granted_refuses, granted_number}
use Rattle.rows.proofs.RowLaws.{count_le_length}
use Rattle.rows.proofs.RecoverLaws.{recover_length, recover_rank, FirstOutside, first_outside}
use Rattle.rows.proofs.SpliceLaws.{splice_before, splice_in, splice_after}
use Rattle.rows.proofs.WordsLaws.{bits_of_all_length}
use Rattle.rows.proofs.LaidLaws.{laid_bits}
use Rattle.rules.specs.declared.RecoveryState.{RecoveryState}
use Rattle.rules.specs.declared.Fed.{Fed}
use Rattle.rules.specs.Operand.{limit, rows_of, length_of, count_of, Accepted}
use Rattle.rules.specs.Answer.{density_of}
use Rattle.rules.specs.Compose.{both_checks}
use Rattle.rules.specs.Recover.{strays, first_stray, Within, lengths_checks, inside_checks, room_checks}
use Rattle.rules.specs.RecoverStream.{Masks, long, set, ranks, state_of, state_checks, limit_checks, feed_checks, moved, judged, fed, fed_out}
use Rattle.rules.proofs.OperandLaws.{accepted_length, accepted_count}
use Rattle.rules.proofs.Operands.{operand_numbers}
use Rattle.rules.proofs.AnswerLaws.{Bare, nothing_done}
use Rattle.rules.proofs.Writes.{bit_at, row}
use Rattle.rules.proofs.ComposeLaws.{both_met}
use Rattle.rules.proofs.Compositions.{OperandRefuses, both_refuses}
use Rattle.rules.proofs.StreamLaws.{bound_met, bound_refuses}
use Rattle.rules.proofs.Recoveries.{recovery_length, recovery_count, told_else, number, same_row, some}
use Rattle.rows.specs.declared.Reason.TheVariants.{LengthsDiffer, NoRoom, StateOutOfBound, StreamOverLimit, RowOutside}
use Rattle.rows.specs.Table.{operand_1, operand_2, no_operand, number_told}
use Rattle.rules.specs.Answer.{summary_told}

-- refusal 10's bound
abbrev pub Bounded : RecoveryState → Type 0
Bounded st = (st.kept ≤ st.ranks.0) × (st.ranks.0 ≤ st.done.0) × (st.done.0 ≤ limit)

-- the rows of a second mask's piece that lie outside self's
abbrev pub away : Masks → List Bool
away m = strays m.self m.kept

-- what a feed that is accepted needs
pub record Accepts (st : RecoveryState) (m : Masks) (room : ℕ) : Type 0 where
  pub bounded : Bounded st
  pub within : Within m.self m.kept
  pub limited : st.done.0 + long m ≤ limit
  pub space : words_for (st.ranks.0 + set m) ≤ room

-- ---- lengths and counts of accepted masks

module _ (m : Masks) (w : Within m.self m.kept) where
  pub self_length : length (rows_of m.self) ≡ long m
  self_length = accepted_length m.self w.self

  pub self_count : count (rows_of m.self) ≡ set m
  self_count = accepted_count m.self w.self

  pub ranks_length : length (ranks m) ≡ set m
  ranks_length = recovery_length m.self m.kept w

  pub ranks_count : count (ranks m) ≡ count_of m.kept
  ranks_count = recovery_count m.self m.kept w

-- an accepted feed hands back a state within 10's bound
pub moved_bounded : (st : RecoveryState) (m : Masks) (room : ℕ) → Accepts st m room → Bounded (moved st m)
moved_bounded st m room t =
    let few = count_le_length (ranks m) in
    let long = recover_length (rows_of m.self) (rows_of m.kept) in (
      omega (arith, t.bounded.0, few, long),
      omega (arith, t.bounded.1, count_le_length (rows_of m.self)),
      omega (arith, t.limited, self_length m t.within),
    )

module _ (st : RecoveryState) (m : Masks) where
  abbrev both : List Line
  both = both_checks m.self m.kept

  -- the lines after the operands'
  abbrev later : ℕ → List (List Line)
  later room =
      lengths_checks m.self m.kept
      ∷ limit_checks (st.done.0 + long m)
      ∷ inside_checks m.self m.kept
      ∷ room_checks (st.ranks.0 + set m) room
      ∷ []

  -- ---- demand 1: 10, then self's refusal and the second mask's, then 7, 11, 17, 8

  abbrev pub PieceRefuses : ℕ → Refusal → Type 0
  PieceRefuses room x =
      ((x ≡ refusal (numbered 7 LengthsDiffer refl) no_operand) × (length_of m.kept.form ≢ long m))
      ⊎ ((x ≡ refusal (numbered 11 StreamOverLimit refl) no_operand) × (length_of m.kept.form ≡ long m) × (limit < st.done.0 + long m))
      ⊎ ((x ≡ refusal (numbered 17 (RowOutside (first_stray m.self m.kept)) refl) no_operand) × (length_of m.kept.form ≡ long m) × (st.done.0 + long m ≤ limit) × (count (away m) ≢ 0))
      ⊎ ((x ≡ refusal (numbered 8 NoRoom refl) no_operand) × (length_of m.kept.form ≡ long m) × (st.done.0 + long m ≤ limit) × (count (away m) ≡ 0) × (room < words_for (st.ranks.0 + set m)))

  abbrev pub Refuses : ℕ → Refusal → Type 0
  Refuses room x =
      ((x ≡ refusal (numbered 10 StateOutOfBound refl) no_operand) × (¬ Bounded st))
      ⊎ (Bounded st × OperandRefuses m.self m.kept x)
      ⊎ (Bounded st × Accepted m.self × Accepted m.kept × PieceRefuses room x)

  bounded_met : Met (state_checks st) ↔ Bounded st
  bounded_met = bound_met st.kept st.ranks.0 st.done.0

  state_refuses : (x : Refusal) → First (state_checks st) (Err x) ↔ ((x ≡ refusal StateOutOfBound no_operand) × (¬ Bounded st))
  state_refuses = bound_refuses st.kept st.ranks.0 st.done.0

  piece_refuses : (room : ℕ) (x : Refusal) → First (in_order (later room)) (Err x) ↔ PieceRefuses room x
  unfolding in_order
  piece_refuses room x = (to, from)
    where
      to : First (in_order (later room)) (Err x) → PieceRefuses room x
      to (inr (a, e)) = inl (same_refusal e, a)
      to (inl (a, inr (b, e))) = inr (inl (same_refusal e, a, omega (arith, b)))
      to (inl (a, inl (b, inr (c, e)))) = inr (inr (inl (same_refusal e, a, b, c)))
      to (inl (a, inl (b, inl (c, inr (d, e))))) = inr (inr (inr (same_refusal e, a, b, c, omega (arith, d))))
      to (inl (a, inl (b, inl (c, inl (d, e))))) = never e

      from : PieceRefuses room x → First (in_order (later room)) (Err x)
      from (inl (e, a)) = inr (a, ap Err e)
      from (inr (inl (e, a, b))) = inl (a, inr (λ h. omega arith, ap Err e))
      from (inr (inr (inl (e, a, b, c)))) = inl (a, inl (b, inr (c, ap Err e)))
      from (inr (inr (inr (e, a, b, c, d)))) = inl (a, inl (b, inl (c, inr (λ h. omega arith, ap Err e))))

  table_refuses : (room : ℕ) (x : Refusal) → First (feed_checks st m room) (Err x) ↔ Refuses room x
  table_refuses room x =
      let p = parts_refuses (state_checks st) (both ∷ later room) x in
      (λ h. one (p.0 h), λ w. p.1 (from w))
    where
      operand_part : First (in_order (both ∷ later room)) (Err x) ↔ (First both (Err x) ⊎ (Met both × First (in_order (later room)) (Err x)))
      operand_part = parts_refuses both (later room) x

      two : Bounded st → First both (Err x) ⊎ (Met both × First (in_order (later room)) (Err x)) → Refuses room x
      two b (inl h) = inr (inl (b, (both_refuses m.self m.kept x).0 h))
      two b (inr (t, h)) = let a = (both_met m.self m.kept).0 t in inr (inr (b, a.0, a.1, (piece_refuses room x).0 h))

      one : First (state_checks st) (Err x) ⊎ (Met (state_checks st) × First (in_order (both ∷ later room)) (Err x)) → Refuses room x
      one (inl h) = inl ((state_refuses x).0 h)
      one (inr (t, h)) = two (bounded_met.0 t) (operand_part.0 h)

      from : Refuses room x → First (state_checks st) (Err x) ⊎ (Met (state_checks st) × First (in_order (both ∷ later room)) (Err x))
      from (inl t) = inl ((state_refuses x).1 t)
      from (inr (inl (b, t))) = inr (bounded_met.1 b, operand_part.1 (inl ((both_refuses m.self m.kept x).1 t)))
      from (inr (inr (b, s, k, t))) = inr (bounded_met.1 b, operand_part.1 (inr ((both_met m.self m.kept).1 (s, k), (piece_refuses room x).1 t)))

  module _ (out : List ℕ) where
    -- each refusal, its number and its operand, exactly when
    pub fed_refuses : (x : Refusal) → ((fed st m out).answer ≡ Err x) ↔ Refuses (length out) x
    unfolding judged
    fed_refuses x =
        let t = granted_refuses (feed_checks st m (length out)) _ x in
        (λ e. (table_refuses (length out) x).0 (t.0 e), λ w. t.1 ((table_refuses (length out) x).1 w))

  -- the needs part by part; `search` finds each where it stands, so that the order is the theorem's alone to say
  feed_met : (room : ℕ) → Met (feed_checks st m room) ↔ Accepts st m room
  feed_met room = (to, from)
    where
      to : Met (feed_checks st m room) → Accepts st m room
      to t =
          let a = (parts_met _ _).0 t in
          let b = (parts_met _ _).0 a.1 in
          let c = (parts_met _ _).0 b.1 in
          let d = (parts_met _ _).0 c.1 in
          let e = (parts_met _ _).0 d.1 in
          let f = (parts_met _ _).0 e.1 in
          let o = (both_met m.self m.kept).0 (search) in
          record {
            bounded = (search, search, search);
            within = record { self = o.0; kept = o.1; lengths = search; inside = search };
            limited = search;
            space = search;
          }

      with_met : (t : List Line) (ts : List (List Line)) → Met t → Met (in_order ts) → Met (in_order (t ∷ ts))
      with_met t ts a b = (parts_met t ts).1 (a, b)

      from : Accepts st m room → Met (feed_checks st m room)
      from t =
          let state = bounded_met.1 t.bounded in
          let both = (both_met m.self m.kept).1 (t.within.self, t.within.kept) in
          let lengths = t.within.lengths in
          let limited = t.limited in
          let inside = t.within.inside in
          let space = t.space in
          with_met _ _ (search) (with_met _ _ (search) (with_met _ _ (search) (with_met _ _ (search) (with_met _ _ (search) (with_met _ _ (search) none_met)))))

  -- a feed that has what it needs is let pass, and no other
  pub feed_fine : (room : ℕ) → (judged st m room ≡ Ok tt) ↔ Accepts st m room
  unfolding judged
  feed_fine room = (λ e. (feed_met room).0 ((fine_exactly (feed_checks st m room)).0 e), λ t. (fine_exactly (feed_checks st m room)).1 ((feed_met room).1 t))

  module _ (out : List ℕ) where
    -- and number 0, accepted, exactly otherwise
    pub fed_accepts : ((number_told (fed st m out).answer) ≡ 0) ↔ Accepts st m (length out)
    unfolding judged
    fed_accepts =
        let t = granted_number (feed_checks st m (length out)) _ in
        (λ e. (feed_met (length out)).0 (t.0 e), λ a. t.1 ((feed_met (length out)).1 a))

    -- a refusal hands the state back as given and changes no lent word, and reports count 0, route 0 and density 0.0
    pub fed_refused : (number_told (fed st m out).answer) ≢ 0 → ((fed st m out).state ≡ st) × (fed_out st m out ≡ out) × Bare (fed st m out).answer
    fed_refused h =
        let s = nothing_done (judged st m (length out)) _ _ st h in
        (s.0, (nothing_done (judged st m (length out)) _ _ out h).0, s.1)

    -- an accepted feed keeps refusal 10's bound
    pub fed_bounded : Accepts st m (length out) → Bounded (fed st m out).state
    fed_bounded t = rw ((feed_fine (length out)).1 t) (moved_bounded st m (length out) t)

    -- ---- the row told, counted in the piece: with 17 it is in the second mask and not in self, and no earlier row is; else it is 0

    -- 17 is told where a row lies outside, and of the first that does
    seventeen : (row : Row) (k : Named) → Refuses (length out) (refusal (RowOutside row) k) → (row ≡ first_stray m.self m.kept) × (0 < count (away m))
    seventeen row k (inl t) = absurd (omega (arith, number t.0))
    seventeen row k (inr (inl (b, inl w))) = absurd (omega (arith, operand_numbers operand_1 m.self _ w))
    seventeen row k (inr (inl (b, inr (s, w)))) = absurd (omega (arith, operand_numbers operand_2 m.kept _ w))
    seventeen row k (inr (inr (b, s, t, inl e))) = absurd (omega (arith, number e.0))
    seventeen row k (inr (inr (b, s, t, inr (inl e)))) = absurd (omega (arith, number e.0))
    seventeen row k (inr (inr (b, s, t, inr (inr (inl (e, l, d, h)))))) = (same_row e, some (count (away m)) h)
    seventeen row k (inr (inr (b, s, t, inr (inr (inr e))))) = absurd (omega (arith, number e.0))

    pub fed_outside_first : (row : Row) (k : Named) → (fed st m out).answer ≡ Err (refusal (numbered 17 (RowOutside row) refl) k) → FirstOutside (rows_of m.self) (rows_of m.kept) row.0
    fed_outside_first row k e =
        let t = seventeen row k ((fed_refuses out (refusal (RowOutside row) k)).0 e) in
        subst (λ (r : Row). FirstOutside (rows_of m.self) (rows_of m.kept) r.0) (sym t.0) (first_outside (rows_of m.self) (rows_of m.kept) t.1)

    -- the row told is 0 in every other answer
    pub fed_outside_else : number_told (fed st m out).answer ≢ 17 → row_told (fed st m out).answer ≡ 0
    fed_outside_else = told_else (fed st m out).answer

-- what an accepted feed leaves: from the state's ranks on a bit for each of the piece's set rows, the r-th as the r-th of them is kept, and no other
-- bit written; the second mask's count, route 0 and the density told; and all three numbers added to
pub record Feeds (st : RecoveryState) (m : Masks) (gave : Fed RecoveryState) (left out : List ℕ) : Type 0 where
  pub accepted : number_told gave.answer ≡ 0
  pub bits : (r : ℕ) → r < set m → bit_at left (st.ranks.0 + r) ≡ row m.kept (select (rows_of m.self) r)
  pub others : (i : ℕ) → (i < st.ranks.0) ⊎ (st.ranks.0 + set m ≤ i) → bit_at left i ≡ bit_at out i
  pub counted : (summary_told gave.answer).count ≡ count_of m.kept
  pub route : (summary_told gave.answer).route ≡ None
  pub dense : (summary_told gave.answer).density ≡ density_of (summary_told gave.answer).count (set m)
  pub state : gave.state ≡ state_of (st.done.0 + long m) (st.ranks.0 + set m) (st.kept + (summary_told gave.answer).count)

pub fed_feeds : (st : RecoveryState) (m : Masks) (out : List ℕ) → Accepts st m (length out) → Feeds st m (fed st m out) (fed_out st m out) out
fed_feeds st m out t =
    let w = t.within in
    let long = ranks_length m w in
    let short : st.ranks.0 + length (ranks m) ≤ length (bits_of_all 64 out) = omega (arith, long, t.space, bits_of_all_length 64 out) in
    let at = laid_bits 64 st.ranks.0 (ranks m) out in
    rw ((feed_fine st m (length out)).1 t)
    (record {
      accepted = refl;
      bits =
          λ r h. ap (λ (l : List Bool). get_or l (st.ranks.0 + r) false) at
          ∙ splice_in st.ranks.0 (bits_of_all 64 out) (ranks m) r false (omega (arith, long, short)) (omega (arith, long))
          ∙ recover_rank (rows_of m.self) (rows_of m.kept) r (omega (arith, self_count m w));
      others = λ i h. ap (λ (l : List Bool). get_or l i false) at ∙ elsewhere i h;
      counted = ranks_count m w;
      route = refl;
      dense = ap (density_of (count (ranks m))) long;
      state = λ i. state_of (st.done.0 + self_length m w i) (st.ranks.0 + self_count m w i) (st.kept + count (ranks m));
    })
  where
    elsewhere : (i : ℕ) → (i < st.ranks.0) ⊎ (st.ranks.0 + set m ≤ i)
        → get_or (splice st.ranks.0 (bits_of_all 64 out) (ranks m)) i false ≡ get_or (bits_of_all 64 out) i false
    elsewhere i (inl h) = splice_before st.ranks.0 (bits_of_all 64 out) (ranks m) i false h
    elsewhere i (inr h) = splice_after st.ranks.0 (bits_of_all 64 out) (ranks m) i false (omega (arith, ranks_length m t.within))

-- two pieces of length 0 change nothing
pub fed_nothing : (st : RecoveryState) (m : Masks) (out : List ℕ) → Accepts st m (length out) → long m ≡ 0
    → ((fed st m out).state ≡ st) × ((i : ℕ) → bit_at (fed_out st m out) i ≡ bit_at out i)
fed_nothing st m out t z =
    let f = fed_feeds st m out t in
    let w = t.within in
    let none : set m ≡ 0 = omega (arith, count_le_length (rows_of m.self), self_length m w, self_count m w, z) in
    let kept : (summary_told (fed st m out).answer).count ≡ 0 = f.counted ∙ omega (arith, count_le_length (ranks m), ranks_length m w, ranks_count m w, none) in
    (f.state ∙ rw (z, none, kept) (simp add-zero), λ i. f.others i (side i none (dec_le (suc i) st.ranks.0)))
  where
    side : (i : ℕ) → set m ≡ 0 → Dec (suc i ≤ st.ranks.0) → (i < st.ranks.0) ⊎ (st.ranks.0 + set m ≤ i)
    side i none (yes h) = inl h
    side i none (no h) = inr (omega (arith, none, h))
