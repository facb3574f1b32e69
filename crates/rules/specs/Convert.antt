-- What is right of a conversion: any form to words, to a list of its set rows, or to its runs. One operand, which is operand 1.
-- Hold it against document 01, part 5: "any form to words, any form to a list, same length and rows"; "List output needs one u32 entry for
-- each set row, ascending; later entries stay."; and its refusal 8. Against document 02, P1: "a writer produces the only run list a mask has".
-- Assumes nothing.
use Rattle.std.specs.Prelude.{ℕ, ◌*◌, List, [], ◌∷◌, ◌++◌, length, drop}
use Rattle.std.proofs.Math.Decide.{dec_le}
use Rattle.rows.specs.Table.{Verdict}
use Rattle.rows.specs.Lists.{set_rows}
use Rattle.rows.specs.Runs.{runs_of, runs_in}
use Rattle.rows.specs.Laid.{words_for, written}
use Rattle.rows.specs.Table.{Line, need, first, in_order, if_fine}
use Rattle.rules.specs.Answer.{Answer}
use Rattle.rules.specs.declared.Written.{Written}
use Rattle.rules.specs.Operand.{Operand, rows_of, length_of, count_of, operand_checks}
use Rattle.rules.specs.Answer.{summed, answered, no_route}
use Rattle.rows.specs.declared.Reason.TheVariants.{NoRoom}
use Rattle.rows.specs.Table.{operand_1, no_operand, granted}
use Rattle.rows.specs.declared.Refusal.{Refusal}
use Rattle.std.specs.Prelude.{Result, Ok, Err}

-- the operand's checks, then 8: the output has less room than is needed
abbrev pub convert_checks : Operand → ℕ → ℕ → List Line
convert_checks o needed room = in_order (operand_checks operand_1 o ∷ (need (dec_le needed room) NoRoom no_operand ∷ []) ∷ [])

-- ---- to words

abbrev pub to_words_verdict : Operand → List ℕ → Verdict
to_words_verdict o out = first (convert_checks o (words_for (length_of o.form)) (length out))

unfoldable pub to_words : Operand → List ℕ → Answer
to_words o out = answered (to_words_verdict o out) (rows_of o) no_route

unfoldable pub to_words_out : Operand → List ℕ → List ℕ
to_words_out o out = if_fine (to_words_verdict o out) (written (length_of o.form) (rows_of o) out) out

-- ---- to a list; later entries stay

abbrev pub to_list_verdict : Operand → List ℕ → Verdict
to_list_verdict o out = first (convert_checks o (count_of o) (length out))

unfoldable pub to_list : Operand → List ℕ → Answer
to_list o out = answered (to_list_verdict o out) (rows_of o) no_route

unfoldable pub to_list_out : Operand → List ℕ → List ℕ
to_list_out o out = if_fine (to_list_verdict o out) (set_rows 0 (rows_of o) ++ drop (count_of o) out) out

-- ---- to runs: two numbers for each; later numbers stay

abbrev pub to_runs_verdict : Operand → List ℕ → Verdict
to_runs_verdict o out = first (convert_checks o (runs_in (rows_of o) * 2) (length out))

-- the summary, and the number of runs
abbrev pub written_of : Operand → Written
written_of o = record { summary = summed (rows_of o) no_route; runs = runs_in (rows_of o) }

unfoldable pub to_runs : Operand → List ℕ → Result Written Refusal
to_runs o out = granted (to_runs_verdict o out) (written_of o)

-- what is told of it in numbers: the answer's, and the number of runs, 0 with a refusal
abbrev pub answer_of : Result Written Refusal → Answer
answer_of (Ok w) = Ok w.summary
answer_of (Err r) = Err r

abbrev pub runs_told : Result Written Refusal → ℕ
runs_told (Ok w) = w.runs
runs_told (Err r) = 0

unfoldable pub to_runs_out : Operand → List ℕ → List ℕ
to_runs_out o out = if_fine (to_runs_verdict o out) (runs_of (rows_of o) ++ drop (runs_in (rows_of o) * 2) out) out
