-- What a conversion's checks tell, by what its operand's checks told: the operand's refusal, or else whether there is room; and what an
-- accepted operand tells of itself. By the law of parts in order.
-- Assumes nothing.
use Prim.Native.Nat.{ℕ, ◌≤◌}
use native.Mathlib.Decide.{dec_le}
use native.Mathlib.Omega.{arith}
use mathlib.Core.Path.{◌≡◌, sym, ap, ◌∙◌}
use mathlib.Core.List.{List, [], ◌∷◌}
use Rattle.std.specs.Prelude.{Ok, Err}
use Rattle.rows.specs.declared.Refusal.{Refusal}
use Rattle.rows.specs.declared.Reason.TheVariants.{NoRoom}
use Rattle.rows.specs.Table.{operand_1, no_operand, Verdict, Line, need, first}
use Rattle.rows.proofs.TableLaws.{granted_ok, granted_err, parts_ok, parts_err, parts_last, fine_exactly}
use Rattle.rules.specs.Operand.{Operand, rows_of, length_of, count_of, limit, operand_checks, Accepted}
use Rattle.rules.specs.Answer.{accepted, summed, no_route}
use Rattle.rules.specs.Convert.{convert_checks}
use Rattle.rules.proofs.OperandLaws.{accepted_as, accepted_limit, accepted_few}
use Rattle.rules.proofs.AnswerLaws.{own_answer}
use Rattle.operand.specs.Counts.{checked_of}

abbrev pub eight : ℕ → ℕ → List Line
eight needed room = need (dec_le needed room) NoRoom no_operand ∷ []

pub roomy : {n needed room : ℕ} → n ≡ needed → first (eight n room) ≡ Ok tt → needed ≤ room
roomy {n} {room = room} size e = omega (arith, size, ((fine_exactly (eight n room)).0 e).0)

module _ (o : Operand) where
  -- where its checks told a count, it is accepted, and the count is its own
  pub judged_count : {n : ℕ} → checked_of operand_1 o ≡ Ok n → Accepted o × (n ≡ count_of o)
  judged_count e =
      let own = granted_ok (first (operand_checks operand_1 o)) e in
      ((accepted_as operand_1 o).0 ((fine_exactly (operand_checks operand_1 o)).0 own.0), sym own.1)

  -- its refusal is the conversion's
  pub judged_refused : {x : Refusal} (needed room : ℕ) → checked_of operand_1 o ≡ Err x → first (convert_checks o needed room) ≡ Err x
  judged_refused needed room e = parts_err (operand_checks operand_1 o) (eight needed room ∷ []) (granted_err (first (operand_checks operand_1 o)) (count_of o) e)

  -- and else room for what is needed decides
  pub judged_room : {v : Verdict} {n : ℕ} (needed room : ℕ) → Accepted o → n ≡ needed → first (eight n room) ≡ v → first (convert_checks o needed room) ≡ v
  judged_room needed room m size e =
      parts_ok (operand_checks operand_1 o) (eight needed room ∷ []) ((fine_exactly (operand_checks operand_1 o)).1 ((accepted_as operand_1 o).1 m))
      ∙ parts_last (eight needed room)
      ∙ ap (λ (k : ℕ). first (eight k room)) (sym size)
      ∙ e

  -- its own count and length are its rows', and the format holds them
  module _ {n : ℕ} (m : Accepted o) (counts : n ≡ count_of o) where
    pub own_within : (n ≤ limit) × (length_of o.form ≤ limit)
    own_within = (omega (arith, counts, accepted_few o m), accepted_limit o m)

    pub own_summary : accepted n no_route (length_of o.form) ≡ summed (rows_of o) no_route
    own_summary = ap (λ (k : ℕ). accepted k no_route (length_of o.form)) counts ∙ own_answer o no_route m
