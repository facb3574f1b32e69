-- `extracts::inner::recover_chunks`: the ranks of the rows before `row` are laid, `rank` of them, and both walks have come to that row.
use Rattle.std.proofs.Common.{◌-◌, ◌≤◌}
use Rattle.rules.specs.Operand.{lent, rows_of}
use Rattle.extracts.specs.Walk.{Came}
use Rattle.extracts.proofs.ExtractLaws.{Extracting}
use Rattle.extracts.proofs.inner.recover_chunks.Given as goal

abbrev pub invariant-loop-row : goal.invariant-loop-row
invariant-loop-row l =
    let self = lent l.s l.swords l.srows in
    let second = lent l.k l.kwords l.krows in
    record {
      within : l.row ≤ l.len;
      own : Came self l.own l.row;
      other : Came second l.other l.row;
      extracting : Extracting (rows_of self) (rows_of second) l.at l.row l.rank.0 l.fn.out l.out;
    }

abbrev pub decreases-loop-row : goal.decreases-loop-row
decreases-loop-row l = l.len - l.row
