-- `runs::search::write_found` meets its contract.
-- The invariant: the runs that are left to find, stored from the next record on, make all runs' records. Assumes nothing.
use Rattle.std.proofs.Common.{length}
use Rattle.runs.proofs.FoundLaws.{Finding}
use Rattle.runs.proofs.search.write_found.Given as goal

abbrev pub invariant-loop-record : goal.invariant-loop-record
invariant-loop-record l = Finding l.form l.words l.rows (length l.fn.out) l.record-index l.at l.out
