-- `mask::inner::lay::lay_list` meets its contract: rows marked in a part that was cleared are the listed mask.
-- By the law of marks. Assumes nothing.
use mathlib.Core.Path.{ap, ◌∙◌}
use mathlib.Core.Bool.{false}
use native.Mathlib.Omega.{arith}
use lib.ListN.{length, replicate}
use Rattle.rows.specs.Laid.{marked}
use Rattle.rows.proofs.LaidLaws.{laid_length}
use Rattle.rows.proofs.MarkLaws.{marked_listed, ascending_below}
use borrow.Author.Rules.{rules}
use Rattle.mask.proofs.inner.lay.lay_list.Statement.{statement}
use Rattle.mask.proofs.inner.lay.lay_list.Tie as tie

clear-requires : tie.Need-clear-requires
clear-requires c κs = search rules

mark-requires : tie.Need-mark-requires
mark-requires c κs =
    let s = c.before.before.before.before.before.before.before in
    let e = c.before.before.before.clear.ensures in
    let size = ap length e ∙ laid_length 64 s.args.at (replicate s.args.len false) s.args.out.now in
    (ascending_below 0 s.args.len s.args.rows.now s.requires.0, (omega (arith, size, s.requires.1.0), s.requires.1.1))

same_length : tie.Need-shape_of-out
same_length c = search rules

returns : tie.Need-returns
returns c =
    let s = c.before.before.before.before.before.before.before.before.before.before in
    let a = s.args in
    c.before.before.mark.ensures ∙ ap (marked a.at a.rows.now) c.before.before.before.before.before.before.clear.ensures
    ∙ marked_listed a.at a.len a.rows.now a.out.now (ascending_below 0 a.len a.rows.now s.requires.0)

pub lay_list_spec : {M : Type 1} → statement M
lay_list_spec = tie.close (tie.spec clear-requires mark-requires same_length returns)
