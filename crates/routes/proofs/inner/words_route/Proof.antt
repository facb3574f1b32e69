-- `routes::inner::words_route` meets its contract: each return is the first of lines 6 to 10 that fits.
-- By what each test ensures. Assumes nothing.
use Prim.Native.Nat.{◌*◌}
use mathlib.Core.Path.{sym, ap, ◌∙◌}
use lib.Dec.{ltb}
use Rattle.rules.specs.declared.Route.TheVariants.{Gathered, Read}
use Rattle.routes.proofs.RouteLaws.{picked, passed}
use borrow.Author.Rules.{rules}
use Rattle.routes.proofs.inner.words_route.Statement.{statement}
use Rattle.routes.proofs.inner.words_route.Tie as tie

length-of-requires : tie.Need-length_of-requires
length-of-requires c κs = search rules

few-requires : tie.Need-few-requires
few-requires c κs = search rules

returns : tie.Need-returns-then-few
returns c =
    let f = c.before in
    let a = f.before.before.args in
    sym (picked _ _ (sym (f.few.ensures ∙ ap (ltb (a.factors.driven * a.r.count)) f.before.length_of.ensures) ∙ c.if-few.true))

way-requires : tie.Need-way-deposit-requires
way-requires c κs = search rules

counts-as-list-requires : tie.Need-counts_as_list-requires
counts-as-list-requires c κs = search rules

returns-2 : tie.Need-returns-then-counts_as_list
returns-2 c =
    let w = c.before.before in
    let f = w.before.before in
    let a = f.before.before.args in
    ap Gathered w.way-deposit.ensures
    ∙ sym
    (passed _ _ (sym (f.few.ensures ∙ ap (ltb (a.factors.driven * a.r.count)) f.before.length_of.ensures) ∙ w.before.if-few.false)
    ∙ picked _ _ (sym c.before.counts_as_list.ensures ∙ c.if-counts_as_list.true))

returns-3 : tie.Need-returns
returns-3 c =
    let w = c.before.before in
    let f = w.before.before in
    let a = f.before.before.args in
    ap Read w.way-deposit.ensures
    ∙ sym
    (passed _ _ (sym (f.few.ensures ∙ ap (ltb (a.factors.driven * a.r.count)) f.before.length_of.ensures) ∙ w.before.if-few.false)
    ∙ passed _ _ (sym c.before.counts_as_list.ensures ∙ c.if-counts_as_list.false))

pub words_route_spec : {M : Type 1} → statement M
words_route_spec =
    tie.close
    (tie.spec
    length-of-requires
    few-requires
    returns
    way-requires
    counts-as-list-requires
    returns-2
    returns-3)
