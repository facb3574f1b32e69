-- `kept::entries::mark_span`: with the entries from i on marked too, all are.
use Rattle.std.proofs.Common.{◌≡◌, ◌-◌, take, drop}
use Rattle.rows.specs.Laid.{marked}
use Rattle.marks.specs.Entries.{entries}
use Rattle.kept.proofs.entries.mark_span.Given as goal

abbrev pub invariant-loop-i : goal.invariant-loop-i
invariant-loop-i l =
    let all = entries l.numbers l.rows in
    marked l.at (take (l.fn.past.0 - l.i) (drop l.i all)) l.out ≡ marked l.at (take (l.fn.past.0 - l.fn.first.0) (drop l.fn.first.0 all)) l.fn.out
