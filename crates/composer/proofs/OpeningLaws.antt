-- A feed's table part by part, as the code finds it: what the state says, then what the operands say, and else 7, 11 and 8. By the law of parts in order.
-- Assumes nothing.
use Prim.Native.Nat.{ℕ, ◌+◌}
use mathlib.Core.Path.{◌≡◌, sym, ap, ◌∙◌}
use mathlib.Core.List.{[], ◌∷◌}
use Rattle.std.specs.Prelude.{Ok, Err}
use Rattle.rows.specs.declared.Refusal.{Refusal}
use Rattle.rows.specs.Table.{Verdict, operand_1, first, if_fine}
use Rattle.rows.specs.WordAnswer.{value_told}
use Rattle.rows.proofs.TableLaws.{parts_first, parts_ok, parts_err, parts_last, then_fine, then_then}
use Rattle.rules.specs.declared.State.{State}
use Rattle.rules.specs.Operand.{length_of, count_of}
use Rattle.rules.specs.Compose.{both_checks}
use Rattle.operand.specs.Counts.{checked_of}
use Rattle.operand.proofs.PairLaws.{both_counts}
use Rattle.intersect_by_rank.proofs.JudgeLaws.{same_after}
use Rattle.rules.specs.Stream.{Pair, long, state_checks, piece_checks, judged}

module _ (st : State) (p : Pair) (room : ℕ) where
  pub judged_err_state : {x : Refusal} → first (state_checks st) ≡ Err x → judged st p room ≡ Err x
  unfolding judged
  judged_err_state e =
      parts_err (state_checks st) (both_checks p.self p.rank ∷ piece_checks (length_of p.rank.form) (count_of p.self) (st.done.0 + long p) room ∷ []) e

  module _ (state : first (state_checks st) ≡ Ok tt) where
    pub judged_err_both : {x : Refusal} → first (both_checks p.self p.rank) ≡ Err x → judged st p room ≡ Err x
    unfolding judged
    judged_err_both e =
        let lengths = piece_checks (length_of p.rank.form) (count_of p.self) (st.done.0 + long p) room in
        parts_ok (state_checks st) (both_checks p.self p.rank ∷ lengths ∷ []) state ∙ parts_err (both_checks p.self p.rank) (lengths ∷ []) e

    -- where the operands are accepted, the lengths decide
    pub judged_by_lengths : first (both_checks p.self p.rank) ≡ Ok tt → judged st p room ≡ first (piece_checks (length_of p.rank.form) (count_of p.self) (st.done.0 + long p) room)
    unfolding judged
    judged_by_lengths e =
        let lengths = piece_checks (length_of p.rank.form) (count_of p.self) (st.done.0 + long p) room in
        parts_ok (state_checks st) (both_checks p.self p.rank ∷ lengths ∷ []) state ∙ parts_ok (both_checks p.self p.rank) (lengths ∷ []) e ∙ parts_last lengths

  -- what the state and then the operands say
  abbrev pub opening : Verdict
  opening = if_fine (first (state_checks st)) (first (both_checks p.self p.rank)) (first (state_checks st))

  -- the count that self's checks told serves as its own: it is asked for only where they refused nothing
  pub judged_after : if_fine opening (first (piece_checks (length_of p.rank.form) (value_told (checked_of operand_1 p.self)) (st.done.0 + long p) room)) opening ≡ judged st p room
  unfolding judged
  judged_after =
      let v = first (state_checks st) in
      let both = both_checks p.self p.rank in
      let lengths = piece_checks (length_of p.rank.form) (count_of p.self) (st.done.0 + long p) room in
      same_after opening _ (first lengths)
      (λ e. ap (λ (n : ℕ). first (piece_checks (length_of p.rank.form) n (st.done.0 + long p) room)) (both_counts p.self p.rank (then_fine v (first both) e).1).0)
      ∙ sym (parts_first (state_checks st) both (lengths ∷ [])
      ∙ ap (λ (w : Verdict). if_fine v w v) (parts_first both lengths [] ∙ ap (λ (w : Verdict). if_fine (first both) w (first both)) (parts_last lengths))
      ∙ then_then v (first both) (first lengths))
