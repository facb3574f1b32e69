-- `under::gathers::gather_under_runs`: the rows before `done` are laid, the runs behind those passed are left, and the list is parted at their
-- first rank.
use Rattle.rows.specs.Lists.{listed}
use Rattle.rows.specs.Runs.{run_lengths}
use Rattle.books.specs.Gathers.{Parted}
use Rattle.under.proofs.UnderLaws.{Under}
use Rattle.under.proofs.gathers.gather_under_runs.Given as goal

abbrev pub invariant-loop-first : goal.invariant-loop-first
invariant-loop-first l = record {
  under : Under l.runs (listed (run_lengths l.runs) l.ranks) l.len l.at l.done l.first-index l.rank l.fn.out l.out;
  parted : Parted l.rank l.next l.ranks;
}
