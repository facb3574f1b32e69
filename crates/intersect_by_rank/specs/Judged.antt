-- What the checks of two operands tell: the operands' counts, or a refusal. No promise to a user rests on it.
-- Assumes nothing.
use Rattle.std.specs.Prelude.{ℕ, Result}
use Rattle.rows.specs.declared.Refusal.{Refusal}
use Rattle.rows.specs.Table.{Verdict, first, granted}
use Rattle.rules.specs.Operand.{Operand, count_of}
use Rattle.rules.specs.Compose.{both_checks, compose_checks}
use Rattle.intersect_by_rank.specs.declared.inner.judge.Judged.{Judged}

abbrev pub counts_of : Operand → Operand → Judged
counts_of s r = record { rows = count_of s; ranks = count_of r }

abbrev pub judged_by : Verdict → Operand → Operand → Result Judged Refusal
judged_by v s r = granted v (counts_of s r)

abbrev pub judged_both : Operand → Operand → Result Judged Refusal
judged_both s r = judged_by (first (both_checks s r)) s r

abbrev pub judged_all : Operand → Operand → ℕ → Result Judged Refusal
judged_all s r room = judged_by (first (compose_checks s r room)) s r
