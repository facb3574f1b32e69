-- What the checks of a recovery tell: the operands' counts, or a refusal. No promise to a user rests on it.
-- Assumes nothing.
use Rattle.std.specs.Prelude.{ℕ, List, [], ◌∷◌, Result}
use Rattle.rows.specs.declared.Refusal.{Refusal}
use Rattle.rows.specs.Table.{Verdict, Line, first, in_order, granted}
use Rattle.rules.specs.Operand.{Operand, count_of}
use Rattle.rules.specs.Compose.{both_checks}
use Rattle.rules.specs.Recover.{lengths_checks, inside_checks, room_checks, recover_checks}
use Rattle.recover.specs.declared.inner.judge.Matched.{Matched}

abbrev pub counts_of : Operand → Operand → Matched
counts_of s k = record { set = count_of s; kept = count_of k }

abbrev pub judged_by : Verdict → Operand → Operand → Result Matched Refusal
judged_by v s k = granted v (counts_of s k)

-- the operands' checks, then 7
abbrev pub match_checks : Operand → Operand → List Line
match_checks s k = in_order (both_checks s k ∷ lengths_checks s k ∷ [])

abbrev pub matched_of : Operand → Operand → Result Matched Refusal
matched_of s k = judged_by (first (match_checks s k)) s k

-- 17, then 8
abbrev pub last_checks : Operand → Operand → ℕ → ℕ → List Line
last_checks s k bits room = in_order (inside_checks s k ∷ room_checks bits room ∷ [])

abbrev pub judged_of : Operand → Operand → ℕ → Result Matched Refusal
judged_of s k room = judged_by (first (recover_checks s k room)) s k
