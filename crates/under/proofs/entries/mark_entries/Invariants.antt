-- `under::entries::mark_entries`: the runs passed have taken their ranks; with the rows of the ranks that are left marked too, all are.
use Rattle.std.proofs.Common.{map}
use Rattle.rows.specs.Lists.{select}
use Rattle.rows.specs.Runs.{in_runs}
use Rattle.rows.specs.Laid.{marked}
use Rattle.under.proofs.EntryLaws.{Marking}
use Rattle.under.proofs.entries.mark_entries.Given as goal

abbrev pub invariant-loop-first : goal.invariant-loop-first
invariant-loop-first l =
    Marking l.runs l.ranks l.len l.at l.first-index l.next l.passed l.out (marked l.at (map (select (in_runs l.len l.runs)) l.ranks) l.fn.out)
