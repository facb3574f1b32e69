-- `under::inner::lay_ranks_under_runs`: the rows before `done` are laid and counted, and the runs behind those passed are left.
use Rattle.std.proofs.Common.{drop}
use Rattle.rows.specs.Words.{bits_of_all}
use Rattle.under.proofs.UnderLaws.{Under, Sums}
use Rattle.under.proofs.inner.lay_ranks_under_runs.Given as goal

abbrev pub invariant-loop-first : goal.invariant-loop-first
invariant-loop-first l =
    let bits = drop l.from (bits_of_all 64 l.ranks) in
    record {
      under : Under l.runs bits l.len l.at l.done l.first-index l.rank l.fn.out l.out;
      sums : Sums l.runs bits l.len l.at l.done l.first-index l.rank l.sum;
    }
