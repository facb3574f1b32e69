-- `mask::list::copy_list` copies the rows one after the other.
-- The invariant: the rows before `i` are copied.
use Rattle.std.proofs.Common.{◌≡◌, length, take}
use Rattle.rows.specs.Rows.{splice}
use Rattle.mask.proofs.list.copy_list.Given as goal

abbrev pub invariant-loop-i : goal.invariant-loop-i
invariant-loop-i l = (length l.out ≡ length l.initial.out) × (l.out ≡ splice 0 l.initial.out (take l.i l.rows))
