-- Demands 1 and 2 for the set operations, as statements that can be held against document 01: which refusal exactly when, that a
-- refusal changes nothing, and what an accepted operation writes, row by row. One law for every operation of two operands, by the laws of tables.
-- Assumes nothing.
use Prim.Native.Nat.{ℕ, zero, suc, ◌≤◌, ◌<◌}
use native.Mathlib.Nat.{le_of_suc-le-suc}
use mathlib.Core.Path.{◌≡◌, refl, sym, ap, ◌∙◌}
use mathlib.Core.Logic.{◌↔◌, ◌≢◌, ◌⊎◌, inl, inr}
use mathlib.Core.Bool.{Bool, true, false, not, ◌&&◌, ◌||◌, false≢true}
use mathlib.Core.List.{List, [], ◌∷◌, map}
use native.Mathlib.Decide.{ℕ_discrete, dec_le}
use native.Mathlib.Omega.{arith}
use lib.Dec.{T}
use lib.ListN.{length, get_or, length-map}
use Rattle.rows.specs.declared.Refusal.{Refusal}
use Rattle.std.specs.Prelude.{None, Ok, Err}
use Rattle.rows.specs.Word.{both}
use Rattle.rows.specs.Laid.{words_for}
use Rattle.rows.specs.Table.{Line, First, Met, first, in_order, need, refusal, numbered}
use Rattle.rows.proofs.TableLaws.{same_refusal, fine_exactly, parts_met, none_met, parts_refuses, line_refuses, then_refuses, granted_refuses, granted_number}
use Rattle.rows.proofs.BothLaws.{both_length, both_at}
use Rattle.rules.specs.Operand.{Operand, rows_of, length_of, counts_as_list, set_checks, Accepted}
use Rattle.rules.specs.SetOps.{and_not, pair_checks, not_checks, combined, combined_out, negated, negated_out}
use Rattle.rules.proofs.OperandLaws.{accepted_as, accepted_length}
use Rattle.rules.proofs.AnswerLaws.{Bare, nothing_done}
use Rattle.rules.proofs.Writes.{bit_at, row, Writes, writes, in_both, in_either}
use Rattle.rules.proofs.Operands.{Wrong, operand_refuses}
use Rattle.rows.specs.declared.Reason.TheVariants.{LengthsDiffer, NoRoom, ListGiven}
use Rattle.rows.specs.Table.{Named, operand_1, operand_2, no_operand, number_told}
use Rattle.rules.specs.Answer.{no_route}

-- an operand that a set operation takes: no list, and accepted
abbrev pub Taken : Operand → Type 0
Taken o = (counts_as_list o.form ≡ false) × Accepted o

no_list : (b : Bool) → T (not b) ↔ (b ≡ false)
no_list true = (λ t. absurd t, λ e. absurd (false≢true (sym e)))
no_list false = (λ t. refl, λ e. tt)

pub taken_as : (k : Named) (o : Operand) → Met (set_checks k o) ↔ Taken o
taken_as k o =
    let l = no_list (counts_as_list o.form) in
    let a = accepted_as k o in
    (λ m. (l.0 m.0, a.0 m.1), λ t. (l.1 t.0, a.1 t.1))

-- ---- demand 1: which refusal is told of operand k. A list is 12, before all else

abbrev pub SetWrong : Named → Operand → Refusal → Type 0
SetWrong k o x = ((x ≡ refusal (numbered 12 ListGiven refl) k) × (counts_as_list o.form ≡ true)) ⊎ ((counts_as_list o.form ≡ false) × Wrong k o x)

is_list : (b : Bool) → (¬ T (not b)) ↔ (b ≡ true)
is_list true = (λ h. refl, λ e t. t)
is_list false = (λ h. absurd (h tt), λ e. absurd (false≢true e))

pub set_refuses : (k : Named) (o : Operand) (x : Refusal) → First (set_checks k o) (Err x) ↔ SetWrong k o x
set_refuses k o x = (to, from)
  where
    to : First (set_checks k o) (Err x) → SetWrong k o x
    to (inr (a, e)) = inl (same_refusal e, (is_list (counts_as_list o.form)).0 a)
    to (inl (a, h)) = inr ((no_list (counts_as_list o.form)).0 a, (operand_refuses k o x).0 h)

    from : SetWrong k o x → First (set_checks k o) (Err x)
    from (inl (e, l)) = inr ((is_list (counts_as_list o.form)).1 l, ap Err e)
    from (inr (l, w)) = inl ((no_list (counts_as_list o.form)).1 l, (operand_refuses k o x).1 w)

-- ---- demand 2: the operations on a row; route 0 is told

not_in : (x : Bool) → (not x ≡ true) ↔ (x ≡ false)
not_in true = (λ e. absurd (false≢true e), λ e. sym e)
not_in false = (λ e. refl, λ e. refl)

in_first : (x y : Bool) → (and_not x y ≡ true) ↔ ((x ≡ true) × (y ≡ false))
in_first true y = (λ e. (refl, (not_in y).0 e), λ p. (not_in y).1 p.1)
in_first false y = (λ e. absurd (false≢true e), λ p. p.0)

not_at : (xs : List Bool) (i : ℕ) → i < length xs → get_or (map not xs) i false ≡ not (get_or xs i false)
not_at [] i h = absurd (omega arith)
not_at (x ∷ xs) zero h = refl
not_at (x ∷ xs) (suc i) h = not_at xs i (le_of_suc-le-suc h)

-- ---- two operands: the first's refusal, then the second's, then 7, then 8

module _ (a b : Operand) where
  abbrev pub Refuses : ℕ → Refusal → Type 0
  Refuses room x =
      SetWrong operand_1 a x
      ⊎ (Taken a × SetWrong operand_2 b x)
      ⊎ ((x ≡ refusal (numbered 7 LengthsDiffer refl) no_operand) × Taken a × Taken b × (length_of a.form ≢ length_of b.form))
      ⊎ ((x ≡ refusal (numbered 8 NoRoom refl) no_operand) × Taken a × Taken b × (length_of a.form ≡ length_of b.form) × (room < words_for (length_of a.form)))

  abbrev pub Accepts : ℕ → Type 0
  Accepts room = Taken a × Taken b × (length_of a.form ≡ length_of b.form) × (words_for (length_of a.form) ≤ room)

  abbrev seven : List Line
  seven = need (ℕ_discrete (length_of a.form) (length_of b.form)) LengthsDiffer no_operand ∷ []

  abbrev eight : ℕ → List Line
  eight room = need (dec_le (words_for (length_of a.form)) room) NoRoom no_operand ∷ []

  pair_refuses : (room : ℕ) (x : Refusal) → First (pair_checks a b room) (Err x) ↔ Refuses room x
  pair_refuses room x = (λ h. one (first_part.0 h), λ w. first_part.1 (from w))
    where
      first_part : First (pair_checks a b room) (Err x) ↔ (First (set_checks operand_1 a) (Err x) ⊎ (Met (set_checks operand_1 a) × First (in_order (set_checks operand_2 b ∷ seven ∷ eight room ∷ [])) (Err x)))
      first_part = parts_refuses (set_checks operand_1 a) (set_checks operand_2 b ∷ seven ∷ eight room ∷ []) x

      second_part_lem : First (in_order (set_checks operand_2 b ∷ seven ∷ eight room ∷ [])) (Err x) ↔ (First (set_checks operand_2 b) (Err x) ⊎ (Met (set_checks operand_2 b) × First (in_order (seven ∷ eight room ∷ [])) (Err x)))
      second_part_lem = parts_refuses (set_checks operand_2 b) (seven ∷ eight room ∷ []) x

      lines : First (in_order (seven ∷ eight room ∷ [])) (Err x) ↔ (First seven (Err x) ⊎ (Met seven × (x ≡ refusal NoRoom no_operand) × (¬ (words_for (length_of a.form) ≤ room))))
      lines = then_refuses seven (dec_le (words_for (length_of a.form)) room) NoRoom no_operand x

      lengths : First seven (Err x) ↔ ((x ≡ refusal LengthsDiffer no_operand) × (length_of a.form ≢ length_of b.form))
      lengths = line_refuses (ℕ_discrete (length_of a.form) (length_of b.form)) LengthsDiffer no_operand x

      three : Taken a → Taken b → First seven (Err x) ⊎ (Met seven × (x ≡ refusal NoRoom no_operand) × (¬ (words_for (length_of a.form) ≤ room))) → Refuses room x
      three t u (inl h) = let w = lengths.0 h in inr (inr (inl (w.0, t, u, w.1)))
      three t u (inr (m, e, l)) = inr (inr (inr (e, t, u, m.0, omega arith)))

      two : Taken a → First (set_checks operand_2 b) (Err x) ⊎ (Met (set_checks operand_2 b) × First (in_order (seven ∷ eight room ∷ [])) (Err x)) → Refuses room x
      two t (inl h) = inr (inl (t, (set_refuses operand_2 b x).0 h))
      two t (inr (m, h)) = three t ((taken_as operand_2 b).0 m) (lines.0 h)

      one : First (set_checks operand_1 a) (Err x) ⊎ (Met (set_checks operand_1 a) × First (in_order (set_checks operand_2 b ∷ seven ∷ eight room ∷ [])) (Err x)) → Refuses room x
      one (inl h) = inl ((set_refuses operand_1 a x).0 h)
      one (inr (m, h)) = two ((taken_as operand_1 a).0 m) (second_part_lem.0 h)

      from : Refuses room x → First (set_checks operand_1 a) (Err x) ⊎ (Met (set_checks operand_1 a) × First (in_order (set_checks operand_2 b ∷ seven ∷ eight room ∷ [])) (Err x))
      from (inl w) = inl ((set_refuses operand_1 a x).1 w)
      from (inr (inl (t, w))) = inr ((taken_as operand_1 a).1 t, second_part_lem.1 (inl ((set_refuses operand_2 b x).1 w)))
      from (inr (inr (inl (e, t, u, h)))) = inr ((taken_as operand_1 a).1 t, second_part_lem.1 (inr ((taken_as operand_2 b).1 u, lines.1 (inl (lengths.1 (e, h))))))
      from (inr (inr (inr (e, t, u, h, l)))) = inr ((taken_as operand_1 a).1 t, second_part_lem.1 (inr ((taken_as operand_2 b).1 u, lines.1 (inr ((h, tt), e, λ y. omega arith)))))

  module _ (g : Bool → Bool → Bool) (out : List ℕ) where
    -- each refusal, its number and its operand, exactly when
    pub combined_refuses : (x : Refusal) → ((combined g a b out) ≡ Err x) ↔ Refuses (length out) x
    unfolding combined
    combined_refuses x =
        let t = granted_refuses (pair_checks a b (length out)) _ x in
        (λ e. (pair_refuses (length out) x).0 (t.0 e), λ w. t.1 ((pair_refuses (length out) x).1 w))

  -- the needs part by part; `search` finds each where it stands, so that the order is the theorem's alone to say
  pair_met : (room : ℕ) → Met (pair_checks a b room) ↔ Accepts room
  pair_met room = (to, from)
    where
      to : Met (pair_checks a b room) → Accepts room
      to m =
          let p = (parts_met _ _).0 m in
          let q = (parts_met _ _).0 p.1 in
          let r = (parts_met _ _).0 q.1 in
          let s = (parts_met _ _).0 r.1 in
          let ta = (taken_as operand_1 a).0 in
          let tb = (taken_as operand_2 b).0 in
          (ta (search), tb (search), search, search)

      from : Accepts room → Met (pair_checks a b room)
      from t =
          let ma = (taken_as operand_1 a).1 t.0 in
          let mb = (taken_as operand_2 b).1 t.1 in
          (parts_met _ _).1 (search, (parts_met _ _).1 (search, (parts_met _ _).1 (search, (parts_met _ _).1 (search, none_met))))

  pub pair_fine : (room : ℕ) → (first (pair_checks a b room) ≡ Ok tt) ↔ Accepts room
  pair_fine room = (λ e. (pair_met room).0 ((fine_exactly (pair_checks a b room)).0 e), λ t. (fine_exactly (pair_checks a b room)).1 ((pair_met room).1 t))

  module _ (g : Bool → Bool → Bool) (out : List ℕ) where
    -- and number 0, accepted, exactly otherwise
    pub combined_accepts : ((number_told (combined g a b out)) ≡ 0) ↔ Accepts (length out)
    unfolding combined
    combined_accepts =
        let t = granted_number (pair_checks a b (length out)) _ in
        (λ e. (pair_met (length out)).0 (t.0 e), λ w. t.1 ((pair_met (length out)).1 w))

    -- a refusal changes nothing, and reports count 0, route 0 and density 0.0
    pub combined_refused : (number_told (combined g a b out)) ≢ 0 → (combined_out g a b out ≡ out) × Bare (combined g a b out)
    unfolding combined combined_out
    combined_refused = nothing_done (first (pair_checks a b (length out))) _ _ out

    -- g is what the operation does to a row of each
    pub combined_writes : Accepts (length out) → Writes (length_of a.form) (λ i. g (row a i) (row b i)) None (combined g a b out) (combined_out g a b out) out
    unfolding combined combined_out
    combined_writes t =
        let la = accepted_length a t.0.1 in
        let even : length (rows_of a) ≡ length (rows_of b) = la ∙ t.2 ∙ sym (accepted_length b t.1.1) in
        writes (first (pair_checks a b (length out))) ((pair_fine (length out)).1 t) (length_of a.form) (both g (rows_of a) (rows_of b)) no_route out
        (both_length g (rows_of a) (rows_of b) even ∙ la) _ (λ i h. both_at g (rows_of a) (rows_of b) even i (omega arith))

-- ---- not: the one operand's refusal, then 8

module _ (a : Operand) where
  abbrev pub NotRefuses : ℕ → Refusal → Type 0
  NotRefuses room x =
      SetWrong operand_1 a x
      ⊎ ((x ≡ refusal (numbered 8 NoRoom refl) no_operand) × Taken a × (room < words_for (length_of a.form)))

  abbrev pub NotAccepts : ℕ → Type 0
  NotAccepts room = Taken a × (words_for (length_of a.form) ≤ room)

  one_refuses : (room : ℕ) (x : Refusal) → First (not_checks a room) (Err x) ↔ NotRefuses room x
  one_refuses room x =
      let t = then_refuses (set_checks operand_1 a) (dec_le (words_for (length_of a.form)) room) NoRoom no_operand x in
      (λ h. to (t.0 h), λ w. t.1 (from w))
    where
      to : First (set_checks operand_1 a) (Err x) ⊎ (Met (set_checks operand_1 a) × (x ≡ refusal NoRoom no_operand) × (¬ (words_for (length_of a.form) ≤ room))) → NotRefuses room x
      to (inl h) = inl ((set_refuses operand_1 a x).0 h)
      to (inr (m, e, l)) = inr (e, (taken_as operand_1 a).0 m, omega arith)

      from : NotRefuses room x → First (set_checks operand_1 a) (Err x) ⊎ (Met (set_checks operand_1 a) × (x ≡ refusal NoRoom no_operand) × (¬ (words_for (length_of a.form) ≤ room)))
      from (inl w) = inl ((set_refuses operand_1 a x).1 w)
      from (inr (e, t, l)) = inr ((taken_as operand_1 a).1 t, e, λ h. omega arith)

  module _ (out : List ℕ) where
    pub not_refuses : (x : Refusal) → ((negated a out) ≡ Err x) ↔ NotRefuses (length out) x
    unfolding negated
    not_refuses x =
        let t = granted_refuses (not_checks a (length out)) _ x in
        (λ e. (one_refuses (length out) x).0 (t.0 e), λ w. t.1 ((one_refuses (length out) x).1 w))

  one_met : (room : ℕ) → Met (not_checks a room) ↔ NotAccepts room
  one_met room = (
    λ m. (let p = (parts_met _ _).0 m in ((taken_as operand_1 a).0 p.0, ((parts_met _ _).0 p.1).0.0)),
    λ t. (parts_met _ _).1 ((taken_as operand_1 a).1 t.0, (parts_met _ _).1 ((t.1, tt), none_met)),
  )

  pub one_fine : (room : ℕ) → (first (not_checks a room) ≡ Ok tt) ↔ NotAccepts room
  one_fine room = (λ e. (one_met room).0 ((fine_exactly (not_checks a room)).0 e), λ t. (fine_exactly (not_checks a room)).1 ((one_met room).1 t))

  module _ (out : List ℕ) where
    pub not_accepts : ((number_told (negated a out)) ≡ 0) ↔ NotAccepts (length out)
    unfolding negated
    not_accepts =
        let t = granted_number (not_checks a (length out)) _ in
        (λ e. (one_met (length out)).0 (t.0 e), λ w. t.1 ((one_met (length out)).1 w))

    pub not_refused : (number_told (negated a out)) ≢ 0 → (negated_out a out ≡ out) × Bare (negated a out)
    unfolding negated negated_out
    not_refused = nothing_done (first (not_checks a (length out))) _ _ out

    pub not_writes : NotAccepts (length out) → Writes (length_of a.form) (λ i. not (row a i)) None (negated a out) (negated_out a out) out
    unfolding negated negated_out
    not_writes t =
        let la = accepted_length a t.0.1 in
        writes (first (not_checks a (length out))) ((one_fine (length out)).1 t) (length_of a.form) (map not (rows_of a)) no_route out
        (length-map (rows_of a) not ∙ la) _ (λ i h. not_at (rows_of a) i (omega arith))

-- ---- in document 01's words: row i is in both, in either, in the first only, not in the one operand

module _ (a b : Operand) (out : List ℕ) (t : Accepts a b (length out)) (i : ℕ) (within : i < length_of a.form) where
  pub and_row : (bit_at (combined_out ◌&&◌ a b out) i ≡ true) ↔ ((row a i ≡ true) × (row b i ≡ true))
  and_row = rw ((combined_writes a b ◌&&◌ out t).rows i within) (in_both (row a i) (row b i))

  pub or_row : (bit_at (combined_out ◌||◌ a b out) i ≡ true) ↔ ((row a i ≡ true) ⊎ (row b i ≡ true))
  or_row = rw ((combined_writes a b ◌||◌ out t).rows i within) (in_either (row a i) (row b i))

  pub and_not_row : (bit_at (combined_out and_not a b out) i ≡ true) ↔ ((row a i ≡ true) × (row b i ≡ false))
  and_not_row = rw ((combined_writes a b and_not out t).rows i within) (in_first (row a i) (row b i))

pub not_row : (a : Operand) (out : List ℕ) → NotAccepts a (length out) → (i : ℕ) → i < length_of a.form → (bit_at (negated_out a out) i ≡ true) ↔ (row a i ≡ false)
not_row a out t i h = rw ((not_writes a out t).rows i h) (not_in (row a i))
