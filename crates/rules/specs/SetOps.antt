-- What is right of a set operation: and, or, and-not by what they do to a row of each operand; not, of one operand.
-- Hold it against document 01, part 8: "all, none and words in, words out. Row i is in both (and), in either (or), in the first only
-- (and-not), or not in the one operand (not)."; its refusal 12; and 7: "set operands differ in length".
-- Assumes nothing.
use Rattle.std.specs.Prelude.{ℕ, Bool, not, ◌&&◌, ◌||◌, List, [], ◌∷◌, map, length}
use Rattle.std.proofs.Math.Decide.{ℕ_discrete, dec_le}
use Rattle.rows.specs.Word.{both}
use Rattle.rows.specs.Laid.{words_for, written}
use Rattle.rows.specs.Table.{Line, need, first, in_order, if_fine}
use Rattle.rules.specs.Answer.{Answer}
use Rattle.rules.specs.declared.Operation.{Operation}
use Rattle.rules.specs.declared.Operation.TheVariants.{And, Or, AndNot, Not}
use Rattle.rules.specs.Operand.{Operand, rows_of, length_of, set_checks}
use Rattle.rules.specs.Answer.{answered, no_route}
use Rattle.rows.specs.declared.Reason.TheVariants.{LengthsDiffer, NoRoom}
use Rattle.rows.specs.Table.{operand_1, operand_2, no_operand}

-- in the first only
abbrev pub and_not : Bool → Bool → Bool
and_not x y = x && not y

-- what each operation does to a row of each operand; not is of the first
abbrev pub row_of : Operation → Bool → Bool → Bool
row_of And = ◌&&◌
row_of Or = ◌||◌
row_of AndNot = and_not
row_of Not = λ x y. not x

-- ---- the checks, for an output of `room` words: each operand's, then 7, the lengths differ, then 8, the output is shorter than the answer

abbrev pub pair_checks : Operand → Operand → ℕ → List Line
pair_checks a b room =
    in_order
    (set_checks operand_1 a
    ∷ set_checks operand_2 b
    ∷ (need (ℕ_discrete (length_of a.form) (length_of b.form)) LengthsDiffer no_operand ∷ [])
    ∷ (need (dec_le (words_for (length_of a.form)) room) NoRoom no_operand ∷ [])
    ∷ [])

abbrev pub not_checks : Operand → ℕ → List Line
not_checks a room =
    in_order
    (set_checks operand_1 a
    ∷ (need (dec_le (words_for (length_of a.form)) room) NoRoom no_operand ∷ [])
    ∷ [])

-- ---- two operands, by g row by row

abbrev pub combination : (Bool → Bool → Bool) → Operand → Operand → List Bool
combination g a b = both g (rows_of a) (rows_of b)

unfoldable pub combined : (Bool → Bool → Bool) → Operand → Operand → List ℕ → Answer
combined g a b out = answered (first (pair_checks a b (length out))) (combination g a b) no_route

unfoldable pub combined_out : (Bool → Bool → Bool) → Operand → Operand → List ℕ → List ℕ
combined_out g a b out = if_fine (first (pair_checks a b (length out))) (written (length_of a.form) (combination g a b) out) out

-- ---- not

unfoldable pub negated : Operand → List ℕ → Answer
negated a out = answered (first (not_checks a (length out))) (map not (rows_of a)) no_route

unfoldable pub negated_out : Operand → List ℕ → List ℕ
negated_out a out = if_fine (first (not_checks a (length out))) (written (length_of a.form) (map not (rows_of a)) out) out
