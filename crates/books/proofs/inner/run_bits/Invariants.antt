-- `books::inner::run_bits` meets its contract.
-- The runs passed are in the word, those from number i on are left, and those before it are behind the window and end before it does.
use Rattle.std.proofs.Common.{◌≡◌, ◌+◌, ◌≤◌, max, length, drop}
use Rattle.books.specs.Windows.{ended_before}
use Rattle.books.proofs.RunBitLaws.{Gathering}
use Rattle.books.proofs.inner.run_bits.Given as goal

abbrev pub invariant-loop-i : goal.invariant-loop-i
invariant-loop-i l =
    Gathering l.runs l.base l.n l.i l.bits × (l.i ≤ max l.next (length l.runs))
    × (l.next + ended_before (l.base + l.n) (drop l.next l.runs) ≡ l.i + ended_before (l.base + l.n) (drop l.i l.runs))
