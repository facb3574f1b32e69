-- `intersect_by_rank::inner::lay::lay_composition` meets its contract.
-- The chosen route fits the operands, and as many rows are set as the rank mask sets. Assumes nothing.
use mathlib.Core.Path.{◌≡◌, sym, ap, subst, ◌∙◌}
use native.Mathlib.Omega.{arith}
use lib.ListN.{length}
use Rattle.rows.specs.Rows.{count}
use Rattle.rules.specs.declared.Route.{Route}
use Rattle.rules.specs.Operand.{Operand, lent, count_of}
use Rattle.rules.specs.Answer.{accepted}
use Rattle.rules.specs.Compose.{Paired, result, routed}
use Rattle.rules.specs.Route.{route_by, route_of}
use Rattle.rules.proofs.OperandLaws.{accepted_limit, accepted_few}
use Rattle.rules.proofs.ComposeLaws.{result_length, result_count}
use Rattle.by_route.specs.Fits.{Fits}
use Rattle.by_route.proofs.FitsLaws.{route_fits}
use Rattle.intersect_by_rank.proofs.inner.lay.lay_composition.Statement.{statement}
use Rattle.intersect_by_rank.proofs.inner.lay.lay_composition.Tie as tie
use borrow.Author.Rules.{rules}
use Rattle.std.specs.Prelude.{Some}

-- ---- the places, each from the one after it

abbrev words-lent : tie.After-slice_known-1 → tie.After-shared_slice_known-2-1
words-lent c = c.before.before.before

abbrev entry : tie.After-slice_known-1 → tie.Start
entry c = (words-lent c).before.before

abbrev start : tie.After-choose_route-route → tie.Start
start c = entry c.before

abbrev route : tie.After-lay_by_route → tie.After-choose_route-route
route c = c.before.before

abbrev laid : tie.After-length_of → tie.After-lay_by_route
laid c = c.before.before.before

-- ---- the operands, the route that was chosen, and what is told of the composition

module _ (c : tie.Start) where
  abbrev self : Operand
  self = lent c.args.s.form c.args.swords.now c.args.srows.now

  abbrev rank : Operand
  rank = lent c.args.r.form c.args.rwords.now c.args.rrows.now

module _ (c : tie.After-choose_route-route) where
  abbrev s : Operand
  s = self (start c)

  abbrev r : Operand
  r = rank (start c)

  abbrev both : Paired s r
  both = (start c).requires.0

  own : (start c).args.s.count ≡ count_of s
  own = (start c).requires.1

  ranked : (start c).args.r.count ≡ count_of r
  ranked = (start c).requires.2

  chosen : c.choose_route-route.result ≡ route_of (start c).args.factors s r
  chosen = c.choose_route-route.ensures ∙ (λ i. route_by (start c).args.factors s.form (own i) r.form (ranked i))

  fits : Fits c.choose_route-route.result s r
  fits = subst (λ (x : Route). Fits x s r) (sym chosen) (route_fits s r (start c).args.factors)

module _ (c : tie.After-length_of) where
  abbrev here : tie.After-choose_route-route
  here = route (laid c)

  count_told : (start here).args.r.count ≡ count (result (s here) (r here))
  count_told = ranked here ∙ sym (result_count (s here) (r here) (both here))

  route_told : Some here.choose_route-route.result ≡ routed (start here).args.factors (s here) (r here)
  route_told = ap Some (chosen here)

  length_told : c.length_of.result ≡ length (result (s here) (r here))
  length_told = c.length_of.ensures ∙ sym (result_length (s here) (r here) (both here))

-- ---- the answers

choose-route-requires : tie.Need-choose_route-route-requires
choose-route-requires c κs =
    let e = entry c in
    (omega (arith, e.requires.1, accepted_few (self e) e.requires.0.self), omega (arith, e.requires.2, accepted_few (rank e) e.requires.0.rank))

lay-by-route-requires : tie.Need-lay_by_route-requires
lay-by-route-requires c κs =
    let q = c.before in
    (both q, fits q, (start q).requires.3)

length-of-requires : tie.Need-length_of-requires
length-of-requires c κs = search rules

accepted-requires : tie.Need-accepted-requires
accepted-requires c κs =
    let q = here c in
    -- both counts, so that the wrong one is refused at what it tells
    (
      omega (arith, own q, ranked q, accepted_few (r q) (both q).rank, accepted_few (s q) (both q).self),
      omega (arith, c.length_of.ensures, accepted_limit (s q) (both q).self),
    )

same_length : tie.Need-shape_of-out
same_length c = search rules

returns : tie.Need-returns
returns c =
    let n = c.before in (
      c.accepted.ensures ∙ (λ i. accepted (count_told n i) (route_told n i) (length_told n i)),
      (laid n).lay_by_route.ensures,
    )

pub lay_composition_spec : {M : Type 1} → statement M
lay_composition_spec =
    tie.close
    (tie.spec
    choose-route-requires
    lay-by-route-requires
    length-of-requires
    accepted-requires
    same_length
    returns)
