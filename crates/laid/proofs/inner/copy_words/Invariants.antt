-- `laid::inner::copy_words` copies the words one after the other.
-- The invariant: the words before `i` are copied.
use Rattle.std.proofs.Common.{◌≡◌, length, take}
use Rattle.rows.specs.Rows.{splice}
use Rattle.laid.proofs.inner.copy_words.Given as goal

abbrev pub invariant-loop-i : goal.invariant-loop-i
invariant-loop-i l = (length l.out ≡ length l.initial.out) × (l.out ≡ splice l.first l.initial.out (take l.i l.words))
