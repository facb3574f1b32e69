-- What is right of a composition: its checks, its answer, and the output as it is left.
-- Hold it against demand 2: "Where both masks pass 01's checks, the output has room and the rank mask's length equals the set rows of the
-- self mask, row i of the result is set exactly if self has i and the rank mask has i's rank."; and document 01: "then the first operand,
-- then the second, .. then 7, 11, 8", where 11 is a feed's.
-- Assumes nothing.
use Rattle.std.specs.Prelude.{ℕ, ◌≡◌, Bool, List, [], ◌∷◌, length, Option, Some}
use Rattle.std.proofs.Math.Decide.{ℕ_discrete, dec_le}
use Rattle.rows.specs.Rows.{compose}
use Rattle.rows.specs.Laid.{words_for, written}
use Rattle.rows.specs.Table.{Line, need, first, in_order, if_fine}
use Rattle.rules.specs.Answer.{Answer}
use Rattle.rules.specs.declared.Factors.{Factors}
use Rattle.rules.specs.Operand.{Operand, rows_of, length_of, count_of, operand_checks, Accepted}
use Rattle.rules.specs.Answer.{answered}
use Rattle.rules.specs.declared.Route.{Route}
use Rattle.rules.specs.Route.{route_of}
use Rattle.rows.specs.declared.Reason.TheVariants.{LengthsDiffer, NoRoom}
use Rattle.rows.specs.Table.{operand_1, operand_2, no_operand}

-- both operands are accepted, and the rank mask is as long as self has set rows
pub record Paired (s r : Operand) : Type 0 where
  pub self : Accepted s
  pub rank : Accepted r
  pub ranks : length_of r.form ≡ count_of s

-- the checks of both operands: self's, then the rank mask's
abbrev pub both_checks : Operand → Operand → List Line
both_checks s r = in_order (operand_checks operand_1 s ∷ operand_checks operand_2 r ∷ [])

-- the checks, for an output of `room` words: the operands', then 7, the rank mask's length is not self's count, then 8, the output is
-- shorter than the result
abbrev pub compose_checks : Operand → Operand → ℕ → List Line
compose_checks s r room =
    in_order
    (both_checks s r
    ∷ (need (ℕ_discrete (length_of r.form) (count_of s)) LengthsDiffer no_operand ∷ [])
    ∷ (need (dec_le (words_for (length_of s.form)) room) NoRoom no_operand ∷ [])
    ∷ [])

abbrev pub result : Operand → Operand → List Bool
result s r = compose (rows_of s) (rows_of r)

abbrev pub routed : Factors → Operand → Operand → Option Route
routed k s r = Some (route_of k s r)

unfoldable pub composed : Factors → Operand → Operand → List ℕ → Answer
composed k s r out = answered (first (compose_checks s r (length out))) (result s r) (routed k s r)

unfoldable pub composed_out : Operand → Operand → List ℕ → List ℕ
composed_out s r out = if_fine (first (compose_checks s r (length out))) (written (length_of s.form) (result s r) out) out
