-- Runs as records: a record for each run, where an operand has two numbers; and what is right of turning the one into the other.
-- Hold it against document 02, P1: "a lent list of runs, each a record of first row and row past the last".
-- Assumes nothing.
use Rattle.std.specs.Prelude.{ℕ, ◌*◌, ◌/◌, ◌%◌, List, [], ◌∷◌, ◌++◌, length, drop}
use Rattle.std.proofs.Math.Decide.{ℕ_discrete, dec_le}
use Rattle.rows.specs.Table.{Verdict}
use Rattle.rows.specs.Table.{Line, need, first, if_fine}
use Rattle.rules.specs.declared.Run.{Run}
use Rattle.rows.specs.declared.Reason.TheVariants.{NoRoom, RunsUnfit}
use Rattle.rows.specs.Table.{operand_1, no_operand}

abbrev pub run : ℕ → ℕ → Run
run first past = record { first = first; past = past }

-- each run's first row and the row past its last, in order
abbrev pub numbers_of : List Run → List ℕ
numbers_of [] = []
numbers_of (r ∷ rs) = r.first ∷ r.past ∷ numbers_of rs

-- a record for each pair; a number without its pair makes none
abbrev pub records_of : List ℕ → List Run
records_of [] = []
records_of (first ∷ []) = []
records_of (first ∷ past ∷ ns) = run first past ∷ records_of ns

-- ---- to numbers, two for each run; later numbers stay

abbrev pub numbers_checks : List Run → List ℕ → List Line
numbers_checks rs out = need (dec_le (length rs * 2) (length out)) NoRoom no_operand ∷ []

abbrev pub to_numbers_verdict : List Run → List ℕ → Verdict
to_numbers_verdict rs out = first (numbers_checks rs out)

unfoldable pub to_numbers : List Run → List ℕ → Verdict
to_numbers rs out = to_numbers_verdict rs out

unfoldable pub to_numbers_out : List Run → List ℕ → List ℕ
to_numbers_out rs out = if_fine (to_numbers_verdict rs out) (numbers_of rs ++ drop (length rs * 2) out) out

-- ---- to records, one for each pair; later records stay. The numbers are operand 1, and 14 is told where the last has no pair

abbrev pub records_checks : List ℕ → List Run → List Line
records_checks ns out =
    need (ℕ_discrete (length ns % 2) 0) RunsUnfit operand_1
    ∷ need (dec_le (length ns / 2) (length out)) NoRoom no_operand
    ∷ []

abbrev pub to_records_verdict : List ℕ → List Run → Verdict
to_records_verdict ns out = first (records_checks ns out)

unfoldable pub to_records : List ℕ → List Run → Verdict
to_records ns out = to_records_verdict ns out

unfoldable pub to_records_out : List ℕ → List Run → List Run
to_records_out ns out = if_fine (to_records_verdict ns out) (records_of ns ++ drop (length ns / 2) out) out
