-- `in_runs::inner::recover_runs`: the ranks of the rows before `row` are laid, `rank` of them, and the walk over self's numbers has come to that row.
use Rattle.rules.specs.Operand.{lent, rows_of, length_of}
use Rattle.extracts.specs.Walk.{Came}
use Rattle.in_runs.proofs.FillLaws.{Filling}
use Rattle.in_runs.proofs.inner.recover_runs.Given as goal

abbrev pub invariant-loop-first : goal.invariant-loop-first
invariant-loop-first l =
    let self = lent l.s l.swords l.srows in
    record {
      came : Came self l.own l.row.0;
      filling : Filling (rows_of self) l.runs (length_of l.s) l.at l.row.0 l.first-index l.rank.0 l.fn.out l.out;
    }
