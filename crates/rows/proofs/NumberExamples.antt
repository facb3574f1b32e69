-- The documents' numbers, reason by reason and operand by operand: one statement over one list, by computation on the definitions that
-- every refusal is told by. And no two refusals are told alike: with the number, the operand and the row, the refusal is told whole.
-- Assumes nothing.
use Prim.Native.Nat.{ℕ}
use mathlib.Core.Path.{◌≡◌, refl, sym, ap, ◌∙◌}
use mathlib.Core.List.{List, [], ◌∷◌}
use native.Mathlib.Decide.{ℕ_discrete}
use native.Mathlib.Omega.{arith}
use Rattle.std.specs.Prelude.{Some, None}
use Rattle.rows.specs.declared.Row.{Row}
use Rattle.rows.specs.declared.Refusal.{Refusal}
use Rattle.rows.specs.declared.Reason.{Reason}
use Rattle.rows.specs.declared.Reason.TheVariants.{LengthOverLimit, StartOver63, TooFewWords, CountDiffers, NotAscending, EntryPastLength, LengthsDiffer, NoRoom, NoSuchRank, StateOutOfBound, StreamOverLimit, ListGiven, Malformed, RunsUnfit, RowOutside}
use Rattle.rows.specs.declared.Which.TheVariants.{First as FirstOperand, Second as SecondOperand}
use Rattle.rows.specs.Table.{Named, operand_1, operand_2, no_operand, choose, number_of, operand_number, row_of, refusal}

-- a reason and its number, or who is named and that number
pub data Line : Type 0 where
  tells : (why : Reason) (n : ℕ) → Line
  names : (who : Named) (n : ℕ) → Line

abbrev pub Lines : List Line → Type 0
Lines [] = Unit {0}
Lines (tells why n ∷ ls) = (number_of why ≡ n) × Lines ls
Lines (names who n ∷ ls) = (operand_number who ≡ n) × Lines ls

abbrev pub table : Row → List Line
table row =
    tells LengthOverLimit 1
    ∷ tells StartOver63 2
    ∷ tells TooFewWords 3
    ∷ tells CountDiffers 4
    ∷ tells NotAscending 5
    ∷ tells EntryPastLength 6
    ∷ tells LengthsDiffer 7
    ∷ tells NoRoom 8
    ∷ tells NoSuchRank 9
    ∷ tells StateOutOfBound 10
    ∷ tells StreamOverLimit 11
    ∷ tells ListGiven 12
    ∷ tells Malformed 13
    ∷ tells RunsUnfit 14
    ∷ tells (RowOutside row) 17
    ∷ names no_operand 0
    ∷ names operand_1 1
    ∷ names operand_2 2
    ∷ []

pub numbers : (row : Row) → Lines (table row)
numbers row = (refl, (refl, (refl, (refl, (refl, (refl, (refl, (refl, (refl, (refl, (refl, (refl, (refl, (refl, (refl, (refl, (refl, (refl, tt))))))))))))))))))

-- the reason that a number and a row are told of
abbrev reason_by : ℕ → ℕ → Reason
reason_by n row =
    choose (ℕ_discrete n 1) LengthOverLimit
    (choose (ℕ_discrete n 2) StartOver63
    (choose (ℕ_discrete n 3) TooFewWords
    (choose (ℕ_discrete n 4) CountDiffers
    (choose (ℕ_discrete n 5) NotAscending
    (choose (ℕ_discrete n 6) EntryPastLength
    (choose (ℕ_discrete n 7) LengthsDiffer
    (choose (ℕ_discrete n 8) NoRoom
    (choose (ℕ_discrete n 9) NoSuchRank
    (choose (ℕ_discrete n 10) StateOutOfBound
    (choose (ℕ_discrete n 11) StreamOverLimit
    (choose (ℕ_discrete n 12) ListGiven
    (choose (ℕ_discrete n 13) Malformed
    (choose (ℕ_discrete n 14) RunsUnfit
    (RowOutside (record { 0 = row })))))))))))))))

told_back : (why : Reason) → reason_by (number_of why) (row_of why) ≡ why
unfolding ℕ_discrete
told_back LengthOverLimit = refl
told_back StartOver63 = refl
told_back TooFewWords = refl
told_back CountDiffers = refl
told_back NotAscending = refl
told_back EntryPastLength = refl
told_back LengthsDiffer = refl
told_back NoRoom = refl
told_back NoSuchRank = refl
told_back StateOutOfBound = refl
told_back StreamOverLimit = refl
told_back ListGiven = refl
told_back Malformed = refl
told_back RunsUnfit = refl
told_back (RowOutside row) = refl

-- no two reasons have the same number, but 17, which has its row
pub same_reason : (a b : Reason) → number_of a ≡ number_of b → row_of a ≡ row_of b → a ≡ b
same_reason a b n row =
    sym (told_back a) ∙ ap (λ (k : ℕ). reason_by k (row_of a)) n ∙ ap (λ (i : ℕ). reason_by (number_of b) i) row ∙ told_back b

pub same_operand : (j k : Named) → operand_number j ≡ operand_number k → j ≡ k
same_operand None None e = refl
same_operand None (Some FirstOperand) e = absurd (omega arith)
same_operand None (Some SecondOperand) e = absurd (omega arith)
same_operand (Some FirstOperand) None e = absurd (omega arith)
same_operand (Some FirstOperand) (Some FirstOperand) e = refl
same_operand (Some FirstOperand) (Some SecondOperand) e = absurd (omega arith)
same_operand (Some SecondOperand) None e = absurd (omega arith)
same_operand (Some SecondOperand) (Some FirstOperand) e = absurd (omega arith)
same_operand (Some SecondOperand) (Some SecondOperand) e = refl

-- a refusal is what its numbers tell
pub same_told : (x y : Refusal) → number_of x.reason ≡ number_of y.reason → row_of x.reason ≡ row_of y.reason → operand_number x.operand ≡ operand_number y.operand → x ≡ y
same_told x y n row k =
    ap (λ (why : Reason). refusal why x.operand) (same_reason x.reason y.reason n row) ∙ ap (refusal y.reason) (same_operand x.operand y.operand k)
