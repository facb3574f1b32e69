-- `fills::inner::lay::lay_run` meets its contract: zeros, and behind them ones.
-- By the law of bits laid one after the other. Assumes nothing.
use Prim.Native.Nat.{◌+◌, ◌-◌}
use mathlib.Core.Path.{ap, ◌∙◌}
use mathlib.Core.Bool.{true, false}
use native.Mathlib.Omega.{arith}
use lib.ListN.{replicate, length-replicate}
use borrow.Author.Rules.{rules}
use Rattle.rows.specs.Laid.{laid}
use Rattle.rows.proofs.LaidLaws.{laid_append}
use Rattle.fills.proofs.inner.lay.lay_run.Statement.{statement}
use Rattle.fills.proofs.inner.lay.lay_run.Tie as tie

-- ---- the places, each from the one after it

abbrev start : tie.After-clear → tie.Start
start c = c.before.before.before

abbrev cleared : tie.After-fill-arg-1 → tie.After-clear
cleared c = c.before.before.before

abbrev filled : tie.After-slice_known-3-1 → tie.After-fill
filled c = c.before.before

-- ---- the answers

add-clear : tie.Need-overflow_add-at
add-clear c = search rules

sub-clear : tie.Need-overflow_sub-first
sub-clear c = search rules

clear-requires : tie.Need-clear-requires
clear-requires c κs = search rules

add-fill : tie.Need-overflow_add-at-2
add-fill c = search rules

sub-fill : tie.Need-overflow_sub-past
sub-fill c = search rules

fill-requires : tie.Need-fill-requires
fill-requires c κs = search rules

same_length : tie.Need-shape_of-out
same_length c = search rules

returns : tie.Need-returns
returns c =
    let f = filled c in
    let z = cleared f.before in
    let a = (start z).args in
    let unset = replicate (a.first - a.done) false in
    let set = replicate (a.past - a.first) true in
    f.fill.ensures ∙ ap (laid (a.at + a.first) set) z.clear.ensures
    ∙ laid_append 64 (a.at + a.done) (a.at + a.first) unset set a.out.now (omega (arith, length-replicate (a.first - a.done) false))

pub lay_run_spec : {M : Type 1} → statement M
lay_run_spec =
    tie.close
    (tie.spec
    add-clear
    sub-clear
    clear-requires
    add-fill
    sub-fill
    fill-requires
    same_length
    returns)
