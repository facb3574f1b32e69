-- `marks::lists::intersect_indices_by_rank_bits` meets its contract.
-- The invariant: the entries at the set ranks before `first` are marked. Assumes nothing.
use Rattle.std.proofs.Common.{◌≡◌, ◌≤◌, get_or, take, map}
use Rattle.rows.specs.Words.{view}
use Rattle.rows.specs.Lists.{set_rows}
use Rattle.rows.specs.Laid.{marked}
use Rattle.marks.specs.Entries.{entries}
use Rattle.marks.proofs.lists.intersect_indices_by_rank_bits.Given as goal

abbrev pub invariant-loop-first : goal.invariant-loop-first
invariant-loop-first l =
    (l.first ≤ l.count)
    × (l.out ≡ marked l.at (map (λ k. get_or (entries l.numbers l.rows) k 0) (set_rows 0 (take l.first (view l.from l.count l.ranks)))) l.fn.out)
