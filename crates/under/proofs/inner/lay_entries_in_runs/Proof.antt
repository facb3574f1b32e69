-- `under::inner::lay_entries_in_runs` meets its contract.
-- Gathered they are laid at once; marked where its part was cleared, the rows of a composition are the composition laid there. Assumes nothing.
use mathlib.Core.Path.{◌≡◌, ap, ◌∙◌}
use lib.ListN.{length}
use borrow.Author.Rules.{rules}
use Rattle.rows.specs.Rows.{count, compose}
use Rattle.rows.specs.Lists.{listed, set_rows}
use Rattle.rows.specs.Runs.{held, in_runs, run_lengths}
use Rattle.rows.specs.Laid.{marked}
use Rattle.rows.proofs.ListLaws.{tab_length}
use Rattle.marks.proofs.ListLaws.{marked_compose}
use Rattle.under.proofs.EntryLaws.{entry_count}
use Rattle.under.proofs.inner.lay_entries_in_runs.Statement.{statement}
use Rattle.under.proofs.inner.lay_entries_in_runs.Tie as tie

-- ---- the places, each from the one after it

abbrev entry : tie.After-slice_known-1 → tie.Start
entry c = c.before.before.before

abbrev few : tie.After-clear → tie.Start
few c = entry c.before.before.before

abbrev cleared : tie.After-mark_entries-arg-1 → tie.After-clear
cleared c = c.before.before.before

abbrev marks : tie.After-slice_known-3-1 → tie.After-mark_entries
marks c = c.before.before

abbrev many : tie.After-gather_under_runs → tie.Start
many c = entry c.before.before.before

abbrev gathered : tie.After-slice_known-then-listed-ranklen-1 → tie.After-gather_under_runs
gathered c = c.before.before

-- ---- as many rows are set as ranks are listed

listed_all : (s : tie.Start) → let runs = s.args.runs.now in let ranks = s.args.ranks.now in
    length ranks ≡ count (compose (in_runs s.args.len runs) (listed (run_lengths runs) ranks))
listed_all s = entry_count s.args.runs.now s.args.ranks.now s.args.len s.requires.0 s.requires.1

-- ---- the answers

gather-under-runs-requires : tie.Need-gather_under_runs-requires
gather-under-runs-requires c κs = search rules

same_length : tie.Need-shape_of-out-then-listed-ranklen
same_length c = search rules

returns : tie.Need-returns-then-listed-ranklen
returns c =
    let g = gathered c in
    (listed_all (many g), g.gather_under_runs.ensures)

clear-requires : tie.Need-clear-requires
clear-requires c κs = search rules

mark-entries-requires : tie.Need-mark_entries-requires
mark-entries-requires c κs = search rules

same-length-2 : tie.Need-shape_of-out
same-length-2 c = search rules

returns-2 : tie.Need-returns
returns-2 c =
    let m = marks c in
    let z = cleared m.before in
    let a = (few z).args in
    let runs = a.runs.now in
    let self = in_runs a.len runs in
    let r = listed (run_lengths runs) a.ranks.now in (
      listed_all (few z),
      m.mark_entries.ensures ∙ ap (marked a.at (set_rows 0 (compose self r))) z.clear.ensures
          ∙ marked_compose a.at a.len self r a.out.now (tab_length 0 a.len (λ i. held i runs)),
    )

pub lay_entries_in_runs_spec : {M : Type 1} → statement M
lay_entries_in_runs_spec =
    tie.close
    (tie.spec
    gather-under-runs-requires
    same_length
    returns
    clear-requires
    mark-entries-requires
    same-length-2
    returns-2)
