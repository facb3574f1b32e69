-- `in_runs::inner::recover_under_runs`: the rows under the runs passed are laid as ranks, `rank` of them.
use Rattle.rows.specs.Words.{view}
use Rattle.in_runs.proofs.UnderRunLaws.{Taking}
use Rattle.in_runs.proofs.inner.recover_under_runs.Given as goal

abbrev pub invariant-loop-first : goal.invariant-loop-first
invariant-loop-first l = Taking l.runs (view l.from l.len l.kept) l.len l.at l.first-index l.rank l.fn.out l.out
