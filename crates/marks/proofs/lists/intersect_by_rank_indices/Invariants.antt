-- `marks::lists::intersect_by_rank_indices` meets its contract.
-- The invariant: as many rows of the composition are marked as entries are passed. Assumes nothing.
use Rattle.std.proofs.Common.{◌≡◌, length, take}
use Rattle.rows.specs.Rows.{compose}
use Rattle.rows.specs.Lists.{listed, set_rows}
use Rattle.rows.specs.Laid.{marked}
use Rattle.marks.specs.Entries.{entries}
use Rattle.marks.proofs.lists.intersect_by_rank_indices.Given as goal

abbrev pub invariant-loop-entry : goal.invariant-loop-entry
invariant-loop-entry l =
    l.out
    ≡ marked l.at
    (take l.entry-index (set_rows 0 (compose (listed l.len (entries l.numbers l.rows)) (listed (length (entries l.numbers l.rows)) l.ranks)))) l.fn.out
