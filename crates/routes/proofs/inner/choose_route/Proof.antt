-- `routes::inner::choose_route` meets its contract: each return is the first line of the table that fits.
-- By what each test ensures, the lines before it passed. Assumes nothing.
use mathlib.Core.Path.{sym, ◌∙◌}
use Rattle.rules.specs.Route.{route_by}
use Rattle.routes.proofs.RouteLaws.{picked, passed}
use borrow.Author.Rules.{rules}
use Rattle.routes.proofs.inner.choose_route.Statement.{statement}
use Rattle.routes.proofs.inner.choose_route.Tie as tie

is-full-requires : tie.Need-is_full-requires
is-full-requires c κs = search rules

returns : tie.Need-returns-then-is_full
unfolding route_by
returns c =
    let one = c in
    sym (picked _ _ (sym one.before.is_full.ensures ∙ one.if-is_full.true))

is-full-requires-2 : tie.Need-is_full-requires-2
is-full-requires-2 c κs = search rules

returns-2 : tie.Need-returns-then-is_full-2
unfolding route_by
returns-2 c =
    let two = c in
    let one = two.before.before in
    sym
    (passed _ _ (sym one.before.is_full.ensures ∙ one.if-is_full.false)
    ∙ picked _ _ (sym two.before.is_full-2.ensures ∙ two.if-is_full-2.true))

is-empty-requires : tie.Need-is_empty-requires
is-empty-requires c κs = search rules

returns-3 : tie.Need-returns-then-is_empty
unfolding route_by
returns-3 c =
    let three = c in
    let two = three.before.before in
    let one = two.before.before in
    sym
    (passed _ _ (sym one.before.is_full.ensures ∙ one.if-is_full.false)
    ∙ passed _ _ (sym two.before.is_full-2.ensures ∙ two.if-is_full-2.false)
    ∙ picked _ _ (sym three.before.is_empty.ensures ∙ three.if-is_empty.true))

is-empty-requires-2 : tie.Need-is_empty-requires-2
is-empty-requires-2 c κs = search rules

returns-4 : tie.Need-returns-then-is_empty-2
unfolding route_by
returns-4 c =
    let four = c in
    let three = four.before.before in
    let two = three.before.before in
    let one = two.before.before in
    sym
    (passed _ _ (sym one.before.is_full.ensures ∙ one.if-is_full.false)
    ∙ passed _ _ (sym two.before.is_full-2.ensures ∙ two.if-is_full-2.false)
    ∙ passed _ _ (sym three.before.is_empty.ensures ∙ three.if-is_empty.false)
    ∙ picked _ _ (sym four.before.is_empty-2.ensures ∙ four.if-is_empty-2.true))

counts-as-list-requires : tie.Need-counts_as_list-requires
counts-as-list-requires c κs = search rules

list-route-requires : tie.Need-list_route-requires
list-route-requires c κs = search rules

returns-5 : tie.Need-returns-then-counts_as_list
unfolding route_by
returns-5 c =
    let five = c.before in
    let four = five.before.before in
    let three = four.before.before in
    let two = three.before.before in
    let one = two.before.before in
    c.list_route.ensures
    ∙ sym
    (passed _ _ (sym one.before.is_full.ensures ∙ one.if-is_full.false)
    ∙ passed _ _ (sym two.before.is_full-2.ensures ∙ two.if-is_full-2.false)
    ∙ passed _ _ (sym three.before.is_empty.ensures ∙ three.if-is_empty.false)
    ∙ passed _ _ (sym four.before.is_empty-2.ensures ∙ four.if-is_empty-2.false)
    ∙ picked _ _ (sym five.before.counts_as_list.ensures ∙ five.if-counts_as_list.true))

words-route-requires : tie.Need-words_route-requires
words-route-requires c κs = search rules

returns-6 : tie.Need-returns
unfolding route_by
returns-6 c =
    let five = c.before in
    let four = five.before.before in
    let three = four.before.before in
    let two = three.before.before in
    let one = two.before.before in
    c.words_route.ensures
    ∙ sym
    (passed _ _ (sym one.before.is_full.ensures ∙ one.if-is_full.false)
    ∙ passed _ _ (sym two.before.is_full-2.ensures ∙ two.if-is_full-2.false)
    ∙ passed _ _ (sym three.before.is_empty.ensures ∙ three.if-is_empty.false)
    ∙ passed _ _ (sym four.before.is_empty-2.ensures ∙ four.if-is_empty-2.false)
    ∙ passed _ _ (sym five.before.counts_as_list.ensures ∙ five.if-counts_as_list.false))

pub choose_route_spec : {M : Type 1} → statement M
choose_route_spec =
    tie.close
    (tie.spec
    is-full-requires
    returns
    is-full-requires-2
    returns-2
    is-empty-requires
    returns-3
    is-empty-requires-2
    returns-4
    counts-as-list-requires
    list-route-requires
    returns-5
    words-route-requires
    returns-6)
