-- `marks::driven::intersect_mask_driven_words` meets its contract.
-- The invariant: the rows of the ranks before `first` are marked, and the walk is not past that rank. Assumes nothing.
use Rattle.std.proofs.Common.{◌≡◌, ◌≤◌, take, map}
use Rattle.rows.specs.Words.{view}
use Rattle.rows.specs.Lists.{set_rows, select}
use Rattle.rows.specs.Laid.{marked}
use Rattle.marks.specs.Driven.{Walked}
use Rattle.marks.proofs.driven.intersect_mask_driven_words.Given as goal

abbrev pub invariant-loop-first : goal.invariant-loop-first
invariant-loop-first l = record {
  within : l.first ≤ l.ranklen;
  walked : Walked (view l.start l.len l.words) l.place;
  behind : l.place.passed.0 ≤ l.first;
  marks : l.out ≡ marked l.at (map (select (view l.start l.len l.words)) (set_rows 0 (take l.first (view l.from l.ranklen l.ranks)))) l.fn.out;
}
