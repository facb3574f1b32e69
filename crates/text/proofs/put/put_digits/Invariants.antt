-- `text::put::put_digits` lays the digits one after the other.
-- The invariant: the digits of the bits before `i` are laid.
use Rattle.std.proofs.Common.{◌≡◌, length}
use Rattle.rows.specs.Rows.{splice}
use Rattle.rows.specs.Words.{view}
use Rattle.lines.specs.Text.{digits}
use Rattle.text.proofs.put.put_digits.Given as goal

abbrev pub invariant-loop-i : goal.invariant-loop-i
invariant-loop-i l = (length l.out ≡ length l.initial.out) × (l.out ≡ splice l.at l.initial.out (digits (view 0 l.i l.words)))
