-- `runs::words::check_runs` meets its contract.
-- The invariant: the runs from the next on fit, and are summed, as all are. Assumes nothing.
use Rattle.runs.proofs.WeighLaws.{Weighing}
use Rattle.runs.proofs.words.check_runs.Given as goal

abbrev pub invariant-loop-run : goal.invariant-loop-run
invariant-loop-run l = Weighing l.length l.runs l.least l.sum l.run-index
