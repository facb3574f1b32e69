-- `by_route::inner::lay_by_route` meets its contract: runs of ranks are kept, and all else goes by the route's kernel.
-- By what is told of the route and of the rank mask's form. Assumes nothing.
use mathlib.Core.Path.{◌≡◌, sym, ap, ◌∙◌}
use mathlib.Core.Bool.{Bool, true}
use mathlib.Core.List.{List}
use native.Mathlib.Omega.{arith}
use borrow.Author.Rules.{rules}
use Rattle.rows.specs.Laid.{laid}
use Rattle.rules.specs.Operand.{Operand, lent}
use Rattle.operand.specs.Flat.{has_runs}
use Rattle.by_route.specs.Fits.{keeps_runs}
use Rattle.by_route.proofs.FitsLaws.{kept_runs, kept_self, runs_apart, runs_kept}
use Rattle.by_route.proofs.inner.lay_by_route.Statement.{statement}
use Rattle.by_route.proofs.inner.lay_by_route.Tie as tie

-- ---- the places, each from the one after it: runs that are kept, or none

abbrev words-lent : tie.After-slice_known-1 → tie.After-shared_slice_known-2-1
words-lent c = c.before.before.before

abbrev entry : tie.After-slice_known-1 → tie.Start
entry c = (words-lent c).before.before

abbrev start : tie.After-keeps_runs → tie.Start
start c = entry c.before

-- ---- the operands

module _ (c : tie.Start) where
  abbrev self : Operand
  self = lent c.args.s c.args.swords.now c.args.srows.now

  abbrev rank : Operand
  rank = lent c.args.r c.args.rwords.now c.args.rrows.now

module _ (c : tie.Then-keeps_runs) where
  abbrev s : tie.Start
  s = start c.before

  told : keeps_runs s.args.route s.args.r ≡ true
  told = sym c.before.keeps_runs.ensures ∙ c.if-keeps_runs.true

  keeping : has_runs (rank s).form ≡ true
  keeping = kept_runs s.args.route s.args.r told

-- ---- the answers

keeps-runs-requires : tie.Need-keeps_runs-requires
keeps-runs-requires c κs = search rules

length-of-requires : tie.Need-length_of-requires
length-of-requires c κs = search rules

keep-ranks-requires : tie.Need-keep_ranks-requires
keep-ranks-requires c κs =
    let held = c.before in
    let t = held.before in
    let p = (s t).requires in
    let form = kept_self (s t).args.route (self (s t)) (rank (s t)) (told t) p.1 in
    (p.0.self, omega (arith, held.length_of.ensures, p.0.ranks), form, runs_apart (self (s t)) (rank (s t)) p.0 (keeping t), p.2)

same_length : tie.Need-shape_of-out-then-keeps_runs
same_length c = search rules

returns : tie.Need-returns-then-keeps_runs
returns c =
    let k = c.before.before in
    let t = k.before.before.before in
    let a = (s t).args in
    k.keep_ranks.ensures
    ∙ ap (λ (z : List Bool). laid a.at z a.out.now) (runs_kept (self (s t)) (rank (s t)) (s t).requires.0 (keeping t))

compose-at-requires : tie.Need-compose_at-requires
compose-at-requires c κs =
    let e = c.before in
    let p = (start e.before).requires in
    (p.0, p.1, p.2, sym e.before.keeps_runs.ensures ∙ e.if-keeps_runs.false)

same-length-2 : tie.Need-shape_of-out
same-length-2 c = search rules

returns-2 : tie.Need-returns
returns-2 c = c.before.before.compose_at.ensures

pub lay_by_route_spec : {M : Type 1} → statement M
lay_by_route_spec =
    tie.close
    (tie.spec
    keeps-runs-requires
    length-of-requires
    keep-ranks-requires
    same_length
    returns
    compose-at-requires
    same-length-2
    returns-2)
