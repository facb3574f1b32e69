-- `kept::entries::mark_spans`: the entries of the runs passed are marked, and `sum` is how many they are.
use Rattle.std.proofs.Common.{length}
use Rattle.rows.specs.Rows.{compose}
use Rattle.rows.specs.Lists.{listed, set_rows}
use Rattle.rows.specs.Runs.{in_runs}
use Rattle.rows.specs.Laid.{marked}
use Rattle.marks.specs.Entries.{entries}
use Rattle.kept.proofs.EntrySpanLaws.{Spanning}
use Rattle.kept.proofs.entries.mark_spans.Given as goal

abbrev pub invariant-loop-first : goal.invariant-loop-first
invariant-loop-first l =
    let all = entries l.numbers l.rows in
    Spanning all l.ranks l.at l.first-index l.sum l.out (marked l.at (set_rows 0 (compose (listed l.len all) (in_runs (length all) l.ranks))) l.fn.out)
