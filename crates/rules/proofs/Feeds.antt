-- Demand 1 for a feed, as statements that can be held against document 01: which refusal exactly when, that a refusal hands the state
-- back and changes nothing, and what an accepted feed writes, counts, tells and adds. By the laws of tables and of `compose`.
-- Assumes nothing.
use Prim.Native.Nat.{ℕ, suc, ◌+◌, ◌≤◌, ◌<◌}
use native.Mathlib.Nat.{add-zero}
use native.Mathlib.Decide.{dec_le}
use native.Mathlib.Omega.{arith}
use mathlib.Core.Path.{◌≡◌, refl, ap, ◌∙◌}
use mathlib.Core.Logic.{◌↔◌, ◌≢◌, ◌⊎◌, inl, inr}
use mathlib.Core.Bool.{Bool, false, ◌&&◌}
use mathlib.Core.List.{List, [], ◌∷◌}
use lib.ListN.{length, get_or}
use Rattle.rows.specs.declared.Refusal.{Refusal}
use Rattle.rows.specs.Table.{Verdict, numbered}
use Rattle.std.specs.Prelude.{Ok, Err}
use Rattle.rows.specs.Rows.{count, rank_at, splice}
use Rattle.rows.specs.Words.{bits_of_all}
use Rattle.rows.specs.Laid.{words_for}
use Rattle.rows.specs.Table.{Line, First, Met, in_order, refusal}
use Rattle.rows.proofs.TableLaws.{number_some, same_refusal, never, fine_exactly, parts_met, none_met, parts_refuses, last_refuses, granted_refuses}
use Rattle.rows.proofs.RowLaws.{compose_row, count_le_length}
use Rattle.rows.proofs.SpliceLaws.{splice_before, splice_in, splice_after}
use Rattle.rows.proofs.WordsLaws.{bits_of_all_length}
use Rattle.rows.proofs.LaidLaws.{laid_bits}
use Rattle.rules.specs.declared.State.{State}
use Rattle.rules.specs.declared.Fed.{Fed}
use Rattle.rules.specs.Operand.{limit, rows_of, length_of, count_of, Accepted}
use Rattle.rules.specs.Answer.{density_of}
use Rattle.rules.specs.Route.{published}
use Rattle.rules.specs.Compose.{both_checks, routed}
use Rattle.rules.specs.Stream.{Pair, long, kept, state_of, state_checks, piece_checks, feed_checks, judged, fed, fed_by, fed_out}
use Rattle.rules.proofs.AnswerLaws.{Bare, nothing_done}
use Rattle.rules.proofs.Writes.{bit_at, row}
use Rattle.rules.proofs.ComposeLaws.{both_met}
use Rattle.rules.proofs.Compositions.{OperandRefuses, both_refuses}
use Rattle.rules.proofs.StreamLaws.{bound_met, bound_refuses, Within, Accepts, self_length, kept_length, moved_within}
use Rattle.rows.specs.declared.Reason.TheVariants.{LengthsDiffer, NoRoom, StateOutOfBound, StreamOverLimit}
use Rattle.rows.specs.Table.{no_operand, number_told}
use Rattle.rules.specs.Answer.{summary_told}

module _ (st : State) (p : Pair) where
  abbrev both : List Line
  both = both_checks p.self p.rank

  abbrev end : ℕ
  end = st.done.0 + long p

  abbrev lengths : ℕ → List Line
  lengths room = piece_checks (length_of p.rank.form) (count_of p.self) end room

  -- ---- demand 1: 10, then self's refusal and the rank mask's, then 7, 11, 8

  abbrev pub LengthRefuses : ℕ → Refusal → Type 0
  LengthRefuses room x =
      ((x ≡ refusal (numbered 7 LengthsDiffer refl) no_operand) × (length_of p.rank.form ≢ count_of p.self))
      ⊎ ((x ≡ refusal (numbered 11 StreamOverLimit refl) no_operand) × (length_of p.rank.form ≡ count_of p.self) × (limit < st.done.0 + long p))
      ⊎ ((x ≡ refusal (numbered 8 NoRoom refl) no_operand) × (length_of p.rank.form ≡ count_of p.self) × (st.done.0 + long p ≤ limit) × (room < words_for (st.done.0 + long p)))

  abbrev pub Refuses : ℕ → Refusal → Type 0
  Refuses room x =
      ((x ≡ refusal (numbered 10 StateOutOfBound refl) no_operand) × (¬ Within st))
      ⊎ (Within st × OperandRefuses p.self p.rank x)
      ⊎ (Within st × Accepted p.self × Accepted p.rank × LengthRefuses room x)

  within_met : Met (state_checks st) ↔ Within st
  within_met = bound_met st.kept st.ranks.0 st.done.0

  state_refuses : (x : Refusal) → First (state_checks st) (Err x) ↔ ((x ≡ refusal StateOutOfBound no_operand) × (¬ Within st))
  state_refuses = bound_refuses st.kept st.ranks.0 st.done.0

  length_refuses : (room : ℕ) (x : Refusal) → First (lengths room) (Err x) ↔ LengthRefuses room x
  length_refuses room x = (to, from)
    where
      to : First (lengths room) (Err x) → LengthRefuses room x
      to (inr (a, e)) = inl (same_refusal e, a)
      to (inl (a, inr (b, e))) = inr (inl (same_refusal e, a, omega (arith, b)))
      to (inl (a, inl (b, inr (c, e)))) = inr (inr (same_refusal e, a, b, omega (arith, c)))
      to (inl (a, inl (b, inl (c, e)))) = never e

      from : LengthRefuses room x → First (lengths room) (Err x)
      from (inl (e, a)) = inr (a, ap Err e)
      from (inr (inl (e, a, b))) = inl (a, inr (λ h. omega arith, ap Err e))
      from (inr (inr (e, a, b, c))) = inl (a, inl (b, inr (λ h. omega arith, ap Err e)))

  table_refuses : (room : ℕ) (x : Refusal) → First (feed_checks st p room) (Err x) ↔ Refuses room x
  table_refuses room x = (λ h. one (state_part.0 h), λ w. state_part.1 (from w))
    where
      state_part : First (feed_checks st p room) (Err x) ↔ (First (state_checks st) (Err x) ⊎ (Met (state_checks st) × First (in_order (both ∷ lengths room ∷ [])) (Err x)))
      state_part = parts_refuses (state_checks st) (both ∷ lengths room ∷ []) x

      operand_part : First (in_order (both ∷ lengths room ∷ [])) (Err x) ↔ (First both (Err x) ⊎ (Met both × First (in_order (lengths room ∷ [])) (Err x)))
      operand_part = parts_refuses both (lengths room ∷ []) x

      two : Within st → First both (Err x) ⊎ (Met both × First (in_order (lengths room ∷ [])) (Err x)) → Refuses room x
      two w (inl h) = inr (inl (w, (both_refuses p.self p.rank x).0 h))
      two w (inr (m, h)) =
          let a = (both_met p.self p.rank).0 m in
          inr (inr (w, a.0, a.1, (length_refuses room x).0 ((last_refuses (lengths room) x).0 h)))

      one : First (state_checks st) (Err x) ⊎ (Met (state_checks st) × First (in_order (both ∷ lengths room ∷ [])) (Err x)) → Refuses room x
      one (inl h) = inl ((state_refuses x).0 h)
      one (inr (m, h)) = two (within_met.0 m) (operand_part.0 h)

      from : Refuses room x → First (state_checks st) (Err x) ⊎ (Met (state_checks st) × First (in_order (both ∷ lengths room ∷ [])) (Err x))
      from (inl t) = inl ((state_refuses x).1 t)
      from (inr (inl (w, t))) = inr (within_met.1 w, operand_part.1 (inl ((both_refuses p.self p.rank x).1 t)))
      from (inr (inr (w, a, b, t))) =
          inr (within_met.1 w, operand_part.1 (inr ((both_met p.self p.rank).1 (a, b), (last_refuses (lengths room) x).1 ((length_refuses room x).1 t))))

  module _ (out : List ℕ) where
    -- each refusal, its number and its operand, exactly when
    pub fed_refuses : (x : Refusal) → ((fed st p out).answer ≡ Err x) ↔ Refuses (length out) x
    unfolding judged
    fed_refuses x =
        let t = granted_refuses (feed_checks st p (length out)) _ x in
        (λ e. (table_refuses (length out) x).0 (t.0 e), λ w. t.1 ((table_refuses (length out) x).1 w))

  -- a feed that every check lets pass has what it needs; `search` finds each where it stands, so that the order is the theorem's alone to say
  pub feed_takes : (room : ℕ) → judged st p room ≡ Ok tt → Accepts st p room
  unfolding judged
  feed_takes room e =
      let a = (parts_met _ _).0 ((fine_exactly (feed_checks st p room)).0 e) in
      let b = (parts_met _ _).0 a.1 in
      let c = (parts_met _ _).0 b.1 in
      let o = (both_met p.self p.rank).0 b.0 in
      record {
        within = (a.0.0, a.0.1.0, a.0.1.1.0);
        matched = record { self = o.0; rank = o.1; ranks = search };
        limited = search;
        space = search;
      }

  -- a feed that has what it needs is let pass, and no other
  pub feed_fine : (room : ℕ) → (judged st p room ≡ Ok tt) ↔ Accepts st p room
  unfolding judged
  feed_fine room = (feed_takes room, λ t. (fine_exactly (feed_checks st p room)).1 (fits t))
    where
      fits : Accepts st p room → Met (feed_checks st p room)
      fits t = (parts_met _ _).1 ((t.within.0, (t.within.1, (t.within.2, tt))), (parts_met _ _).1 ((both_met p.self p.rank).1 (t.matched.self, t.matched.rank), (parts_met _ _).1 ((t.matched.ranks, (t.limited, (t.space, tt))), none_met)))

  module _ (out : List ℕ) where
    -- and number 0, accepted, exactly otherwise
    pub fed_accepts : ((number_told (fed st p out).answer) ≡ 0) ↔ Accepts st p (length out)
    fed_accepts = (to (judged st p (length out)) refl, λ t. rw ((feed_fine (length out)).1 t) refl)
      where
        to : (v : Verdict) → judged st p (length out) ≡ v → (number_told (fed_by v st p).answer) ≡ 0 → Accepts st p (length out)
        to (Ok u) e z = feed_takes (length out) e
        to (Err x) e z = absurd (omega (arith, number_some x.reason, z))

    -- a refusal hands the state back as given and changes no lent word, and reports count 0, route 0 and density 0.0
    pub fed_refused : (number_told (fed st p out).answer) ≢ 0 → ((fed st p out).state ≡ st) × (fed_out st p out ≡ out) × Bare (fed st p out).answer
    fed_refused h =
        let v = judged st p (length out) in
        let s = nothing_done v _ _ st h in
        (s.0, (nothing_done v _ _ out h).0, s.1)

    -- an accepted feed keeps refusal 10's bound
    pub fed_within : Accepts st p (length out) → Within (fed st p out).state
    fed_within t = rw ((feed_fine (length out)).1 t) (moved_within st p (length out) t)

-- what an accepted feed leaves: the piece's rows from done on, and no other bit written; the piece's own count and density and the
-- table's route told; and all three numbers added to
pub record Feeds (st : State) (p : Pair) (gave : Fed State) (left out : List ℕ) : Type 0 where
  pub accepted : number_told gave.answer ≡ 0
  pub bits : (i : ℕ) → i < long p → bit_at left (st.done.0 + i) ≡ (row p.self i && row p.rank (rank_at (rows_of p.self) i))
  pub others : (i : ℕ) → (i < st.done.0) ⊎ (st.done.0 + long p ≤ i) → bit_at left i ≡ bit_at out i
  pub counted : (summary_told gave.answer).count ≡ count (kept p)
  pub route : (summary_told gave.answer).route ≡ routed published p.self p.rank
  pub dense : (summary_told gave.answer).density ≡ density_of (summary_told gave.answer).count (long p)
  pub state : gave.state ≡ state_of (st.done.0 + long p) (st.ranks.0 + count (rows_of p.self)) (st.kept + (summary_told gave.answer).count)

pub fed_feeds : (st : State) (p : Pair) (out : List ℕ) → Accepts st p (length out) → Feeds st p (fed st p out) (fed_out st p out) out
fed_feeds st p out t =
    let m = t.matched in
    let short : st.done.0 + length (kept p) ≤ length (bits_of_all 64 out) = omega (arith, kept_length p m, t.space, bits_of_all_length 64 out) in
    let at = laid_bits 64 st.done.0 (kept p) out in
    rw ((feed_fine st p (length out)).1 t)
    (record {
      accepted = refl;
      bits = λ i h. ap (λ (l : List Bool). get_or l (st.done.0 + i) false) at ∙ splice_in st.done.0 (bits_of_all 64 out) (kept p) i false (omega (arith, kept_length p m, short)) (omega (arith, kept_length p m)) ∙ compose_row (rows_of p.self) (rows_of p.rank) i;
      others = λ i h. ap (λ (l : List Bool). get_or l i false) at ∙ outside i h;
      counted = refl;
      route = refl;
      dense = ap (density_of (count (kept p))) (kept_length p m);
      state = ap (λ (n : ℕ). state_of (st.done.0 + n) (st.ranks.0 + count (rows_of p.self)) (st.kept + count (kept p))) (self_length p m);
    })
  where
    outside : (i : ℕ) → (i < st.done.0) ⊎ (st.done.0 + long p ≤ i) → get_or (splice st.done.0 (bits_of_all 64 out) (kept p)) i false ≡ get_or (bits_of_all 64 out) i false
    outside i (inl h) = splice_before st.done.0 (bits_of_all 64 out) (kept p) i false h
    outside i (inr h) = splice_after st.done.0 (bits_of_all 64 out) (kept p) i false (omega (arith, kept_length p t.matched))

-- two pieces of length 0 change nothing
pub fed_nothing : (st : State) (p : Pair) (out : List ℕ) → Accepts st p (length out) → long p ≡ 0 → ((fed st p out).state ≡ st) × ((i : ℕ) → bit_at (fed_out st p out) i ≡ bit_at out i)
fed_nothing st p out t z =
    let w = fed_feeds st p out t in
    let s = count_le_length (rows_of p.self) in
    let k = count_le_length (kept p) in
    let none : count (rows_of p.self) ≡ 0 = omega (arith, s, self_length p t.matched, z) in
    let kept : (summary_told (fed st p out).answer).count ≡ 0 = w.counted ∙ omega (arith, k, kept_length p t.matched, z) in
    (w.state ∙ rw (z, none, kept) (simp add-zero), λ i. w.others i (side i (dec_le (suc i) st.done.0)))
  where
    side : (i : ℕ) → Dec (suc i ≤ st.done.0) → (i < st.done.0) ⊎ (st.done.0 + long p ≤ i)
    side i (yes h) = inl h
    side i (no h) = inr (omega (arith, z, h))
