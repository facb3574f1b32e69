-- A feed's table part by part, as the code finds it: what the state says, then what the masks say, and else 11, 17 and 8. By the law of parts in order.
-- Assumes nothing.
use Prim.Native.Nat.{ℕ, ◌+◌, ◌≤◌}
use native.Mathlib.Omega.{arith}
use mathlib.Core.Path.{◌≡◌, sym, ap, ◌∙◌}
use mathlib.Core.List.{[], ◌∷◌}
use Rattle.std.specs.Prelude.{Ok, Err}
use Rattle.rows.specs.declared.Refusal.{Refusal}
use Rattle.rows.specs.Table.{Verdict, first, if_fine}
use Rattle.rows.proofs.TableLaws.{fine_exactly, parts_first, parts_ok, parts_err, then_then}
use Rattle.rules.specs.declared.RecoveryState.{RecoveryState}
use Rattle.rules.specs.Operand.{limit}
use Rattle.rules.specs.Compose.{both_checks}
use Rattle.rules.specs.Recover.{lengths_checks, inside_checks, room_checks}
use Rattle.rules.specs.RecoverStream.{Masks, long, set, state_checks, limit_checks, judged}
use Rattle.recover.specs.Judged.{match_checks, last_checks}
use Rattle.recover.proofs.JudgeLaws.{matched_parts}
use Rattle.recoverer.specs.Pieces.{piece_checks}

-- a state that is refused nothing is within the limit
pub state_short : (st : RecoveryState) → first (state_checks st) ≡ Ok tt → (st.done.0 ≤ limit) × (st.ranks.0 ≤ limit)
state_short st e =
    let m = (fine_exactly (state_checks st)).0 e in
    (m.1.1.0, omega (arith, m.1.0, m.1.1.0))

module _ (st : RecoveryState) (m : Masks) (room : ℕ) where
  pub judged_err_state : {x : Refusal} → first (state_checks st) ≡ Err x → judged st m room ≡ Err x
  unfolding judged
  judged_err_state e =
      parts_err (state_checks st)
      (both_checks m.self m.kept ∷ lengths_checks m.self m.kept ∷ limit_checks (st.done.0 + long m) ∷ inside_checks m.self m.kept ∷ room_checks (st.ranks.0 + set m) room ∷ []) e

  -- past the state, the masks' refusal or else the piece's
  judged_parts : first (state_checks st) ≡ Ok tt
      → judged st m room ≡ if_fine (first (match_checks m.self m.kept)) (first (piece_checks st m room)) (first (match_checks m.self m.kept))
  unfolding judged
  judged_parts e =
      let both = both_checks m.self m.kept in
      let lengths = lengths_checks m.self m.kept in
      let rest = limit_checks (st.done.0 + long m) in
      let others = inside_checks m.self m.kept ∷ room_checks (st.ranks.0 + set m) room ∷ [] in
      let p = first (piece_checks st m room) in
      parts_ok (state_checks st) (both ∷ lengths ∷ rest ∷ others) e
      ∙ parts_first both lengths (rest ∷ others)
      ∙ ap (λ (w : Verdict). if_fine (first both) w (first both)) (parts_first lengths rest others)
      ∙ then_then (first both) (first lengths) p
      ∙ ap (λ (w : Verdict). if_fine w p w) (sym (matched_parts m.self m.kept))

  pub judged_err_masks : {x : Refusal} → first (state_checks st) ≡ Ok tt → first (match_checks m.self m.kept) ≡ Err x → judged st m room ≡ Err x
  judged_err_masks e f = judged_parts e ∙ ap (λ (v : Verdict). if_fine v (first (piece_checks st m room)) v) f

  pub judged_by_piece : first (state_checks st) ≡ Ok tt → first (match_checks m.self m.kept) ≡ Ok tt → judged st m room ≡ first (piece_checks st m room)
  judged_by_piece e f = judged_parts e ∙ ap (λ (v : Verdict). if_fine v (first (piece_checks st m room)) v) f

  -- the piece: 11, and else what 17 and 8 say
  pub piece_err_limit : {x : Refusal} → first (limit_checks (st.done.0 + long m)) ≡ Err x → first (piece_checks st m room) ≡ Err x
  piece_err_limit e = parts_err (limit_checks (st.done.0 + long m)) (inside_checks m.self m.kept ∷ room_checks (st.ranks.0 + set m) room ∷ []) e

  pub piece_by_last : first (limit_checks (st.done.0 + long m)) ≡ Ok tt → first (piece_checks st m room) ≡ first (last_checks m.self m.kept (st.ranks.0 + set m) room)
  piece_by_last e = parts_ok (limit_checks (st.done.0 + long m)) (inside_checks m.self m.kept ∷ room_checks (st.ranks.0 + set m) room ∷ []) e
