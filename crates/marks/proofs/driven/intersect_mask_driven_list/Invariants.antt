-- `marks::driven::intersect_mask_driven_list` meets its contract.
-- The invariant: the ranks from the entry on are left. Assumes nothing.
use Rattle.std.proofs.Common.{drop, map}
use Rattle.rows.specs.Words.{view}
use Rattle.rows.specs.Lists.{select}
use Rattle.rows.specs.Laid.{marked}
use Rattle.marks.proofs.DrivenLaws.{Left}
use Rattle.marks.proofs.driven.intersect_mask_driven_list.Given as goal

abbrev pub invariant-loop-entry : goal.invariant-loop-entry
invariant-loop-entry l =
    Left (view l.start l.len l.words) l.at l.place (drop l.entry-index l.ranks) l.out (marked l.at (map (select (view l.start l.len l.words)) l.ranks) l.fn.out)
