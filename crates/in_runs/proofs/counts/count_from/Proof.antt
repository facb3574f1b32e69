-- `in_runs::counts::count_from` meets its contract: a view that begins in a later word is a view into the words from that one on.
-- By the contract of `count_view`. Assumes nothing.
use mathlib.Core.Path.{ap, ◌∙◌}
use borrow.Author.Rules.{rules}
use Rattle.rows.specs.Rows.{count}
use Rattle.in_runs.proofs.CountLaws.{view_later}
use Rattle.in_runs.proofs.counts.count_from.Statement.{statement}
use Rattle.in_runs.proofs.counts.count_from.Tie as tie

mul-count-view : tie.Need-offset_bounds-words-i
mul-count-view c = search rules

sub-count-view : tie.Need-slice_bounds-count_view-count
sub-count-view c = search rules

part-count-view-start : tie.Need-slice_bounds-count_view-start
part-count-view-start c = search rules

part-count-view-end : tie.Need-slice_bounds-count_view-end
part-count-view-end c = search rules

count-view-requires : tie.Need-count_view-requires
count-view-requires c κs = search rules

returns : tie.Need-returns
returns c =
    let a = c.before.before.before.args in
    c.count_view.ensures ∙ ap count (view_later a.bit a.n a.words.now)

pub count_from_spec : {M : Type 1} → statement M
count_from_spec = tie.close (tie.spec mul-count-view sub-count-view part-count-view-start part-count-view-end count-view-requires returns)
