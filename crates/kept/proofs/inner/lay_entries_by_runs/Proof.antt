-- `kept::inner::lay_entries_by_runs` meets its contract.
-- The rows of a composition, marked where its part was cleared, are the composition laid there. Assumes nothing.
use mathlib.Core.Path.{ap, ◌∙◌}
use lib.ListN.{length}
use borrow.Author.Rules.{rules}
use Rattle.rows.specs.Rows.{compose}
use Rattle.rows.specs.Lists.{member, listed, set_rows}
use Rattle.rows.specs.Runs.{in_runs}
use Rattle.rows.specs.Laid.{marked}
use Rattle.rows.proofs.ListLaws.{tab_length}
use Rattle.marks.specs.Entries.{entries}
use Rattle.marks.proofs.ListLaws.{marked_compose}
use Rattle.kept.proofs.inner.lay_entries_by_runs.Statement.{statement}
use Rattle.kept.proofs.inner.lay_entries_by_runs.Tie as tie

-- ---- the places, each from the one after it

abbrev entry : tie.After-slice_known-1 → tie.Start
entry c = c.before.before.before

abbrev start : tie.After-clear → tie.Start
start c = entry c.before.before

abbrev cleared : tie.After-mark_spans-arg-1 → tie.After-clear
cleared c = c.before.before.before

abbrev marks : tie.After-slice_known-3-1 → tie.After-mark_spans
marks c = c.before.before

-- ---- the answers

clear-requires : tie.Need-clear-requires
clear-requires c κs = search rules

mark-spans-requires : tie.Need-mark_spans-requires
mark-spans-requires c κs = search rules

same_length : tie.Need-shape_of-out
same_length c = search rules

returns : tie.Need-returns
returns c =
    let m = marks c in
    let z = cleared m.before in
    let a = (start z).args in
    let rows = entries a.numbers a.rows.now in
    let self = listed a.len rows in
    let r = in_runs (length rows) a.ranks.now in (
      m.mark_spans.ensures.0,
      m.mark_spans.ensures.1 ∙ ap (marked a.at (set_rows 0 (compose self r))) z.clear.ensures
          ∙ marked_compose a.at a.len self r a.out.now (tab_length 0 a.len (λ i. member i rows)),
    )

pub lay_entries_by_runs_spec : {M : Type 1} → statement M
lay_entries_by_runs_spec =
    tie.close (tie.spec clear-requires mark-spans-requires same_length returns)
