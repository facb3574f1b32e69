-- `runs::words::lay_runs` meets its contract.
-- The invariant: the rows before `done` are laid, and the runs from the next on are left. Assumes nothing.
use Rattle.runs.proofs.LayLaws.{Laying}
use Rattle.runs.proofs.words.lay_runs.Given as goal

abbrev pub invariant-loop-run : goal.invariant-loop-run
invariant-loop-run l = Laying l.length l.runs l.done l.run-index l.fn.out l.out
