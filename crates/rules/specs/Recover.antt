-- What is right of a recovery, from rows back to ranks: its checks, its answer, and the output as it is left.
-- Hold it against document 02, P6: "Given self and a second mask of the same length whose rows all lie in self, give the mask over ranks: its
-- length is self's count, and rank r is set exactly if the r-th row of self is kept."; and "Refusals: 7 for differing lengths; 17 with the first
-- row outside self, .. 0 in every other answer of recovery, after 7 and 11 and before 8", where 11 is a feed's.
-- Assumes nothing.
use Rattle.std.specs.Prelude.{ℕ, ◌≡◌, Bool, List, [], ◌∷◌, length}
use Rattle.std.proofs.Math.Decide.{ℕ_discrete, dec_le}
use Rattle.rows.specs.Rows.{count, recover, outside}
use Rattle.rows.specs.Lists.{select}
use Rattle.rows.specs.Laid.{words_for, written}
use Rattle.rows.specs.Table.{Line, need, first, in_order, if_fine}
use Rattle.rows.specs.declared.Row.{Row}
use Rattle.rules.specs.Operand.{Operand, rows_of, length_of, count_of, Accepted}
use Rattle.rules.specs.Answer.{Answer, answered, no_route}
use Rattle.rules.specs.Compose.{both_checks}
use Rattle.rows.specs.declared.Reason.TheVariants.{LengthsDiffer, NoRoom, RowOutside}
use Rattle.rows.specs.Table.{no_operand}

-- the rows of the second mask that lie outside self
abbrev pub strays : Operand → Operand → List Bool
strays s k = outside (rows_of s) (rows_of k)

-- both operands are accepted, of one length, and all rows of the second lie in self
pub record Within (s k : Operand) : Type 0 where
  pub self : Accepted s
  pub kept : Accepted k
  pub lengths : length_of k.form ≡ length_of s.form
  pub inside : count (strays s k) ≡ 0

-- the first of them
abbrev pub first_stray : Operand → Operand → Row
first_stray s k = record { 0 = select (strays s k) 0 }

-- 7, the lengths differ; 17, a row lies outside self, with the first that does; 8, the output is shorter than the result
abbrev pub lengths_checks : Operand → Operand → List Line
lengths_checks s k = need (ℕ_discrete (length_of k.form) (length_of s.form)) LengthsDiffer no_operand ∷ []

abbrev pub inside_checks : Operand → Operand → List Line
inside_checks s k = need (ℕ_discrete (count (strays s k)) 0) (RowOutside (first_stray s k)) no_operand ∷ []

abbrev pub room_checks : ℕ → ℕ → List Line
room_checks bits room = need (dec_le (words_for bits) room) NoRoom no_operand ∷ []

-- the checks, for an output of `room` words: the operands', then 7, 17, 8
abbrev pub recover_checks : Operand → Operand → ℕ → List Line
recover_checks s k room = in_order (both_checks s k ∷ lengths_checks s k ∷ inside_checks s k ∷ room_checks (count_of s) room ∷ [])

-- a row for each rank
abbrev pub recovery : Operand → Operand → List Bool
recovery s k = recover (rows_of s) (rows_of k)

unfoldable pub recovered : Operand → Operand → List ℕ → Answer
recovered s k out = answered (first (recover_checks s k (length out))) (recovery s k) no_route

unfoldable pub recovered_out : Operand → Operand → List ℕ → List ℕ
recovered_out s k out = if_fine (first (recover_checks s k (length out))) (written (count_of s) (recovery s k) out) out
