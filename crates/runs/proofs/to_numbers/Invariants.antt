-- `runs::to_numbers` meets its contract.
-- The invariant: the numbers from run i on, written after those before, make what all make. Assumes nothing.
use Rattle.std.proofs.Common.{◌*◌, ◌≡◌, drop}
use Rattle.rows.specs.Rows.{splice}
use Rattle.rules.specs.Records.{numbers_of}
use Rattle.runs.proofs.to_numbers.Given as goal

abbrev pub invariant-loop-i : goal.invariant-loop-i
invariant-loop-i l = splice (2 * l.i) l.out (numbers_of (drop l.i l.runs)) ≡ splice 0 l.fn.out (numbers_of l.runs)
