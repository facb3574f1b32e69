-- `text::tell::pack` lays the digits one after the other.
-- The invariant: the digits before `i` are laid over the words whose last was cleared.
use Rattle.std.proofs.Common.{◌≡◌, length, take, drop}
use Rattle.rows.specs.Laid.{laid}
use Rattle.lines.specs.Text.{rows_in}
use Rattle.text.proofs.tell.pack.Given as goal

abbrev pub invariant-loop-i : goal.invariant-loop-i
invariant-loop-i l = (length l.words ≡ length l.initial.words) × (l.words ≡ laid 0 (take l.i (rows_in (drop l.at l.input))) l.initial.words)
