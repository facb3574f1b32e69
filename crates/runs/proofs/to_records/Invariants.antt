-- `runs::to_records` meets its contract.
-- The invariant: the records of the pairs before pair i are written. Assumes nothing.
use Rattle.std.proofs.Common.{◌≡◌, take}
use Rattle.rows.specs.Rows.{splice}
use Rattle.rules.specs.Records.{records_of}
use Rattle.runs.proofs.to_records.Given as goal

abbrev pub invariant-loop-i : goal.invariant-loop-i
invariant-loop-i l = l.out ≡ splice 0 l.fn.out (take l.i (records_of l.numbers))
