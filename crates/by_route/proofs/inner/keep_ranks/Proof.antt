-- `by_route::inner::keep_ranks` meets its contract: self counts as a list, or is in words.
-- By what the route says of it. Assumes nothing.
use mathlib.Core.Path.{◌≡◌, sym, ap, ◌∙◌}
use mathlib.Core.Bool.{Bool, true}
use mathlib.Core.List.{List}
use borrow.Author.Rules.{rules}
use Rattle.rows.specs.Rows.{compose}
use Rattle.rows.specs.Runs.{in_runs}
use Rattle.rows.specs.Laid.{laid}
use Rattle.rules.specs.Operand.{Operand, lent, count_of, counts_as_list}
use Rattle.by_route.proofs.FitsLaws.{bare_rows, bare_accepted, self_in_words}
use Rattle.by_route.proofs.inner.keep_ranks.Statement.{statement}
use Rattle.by_route.proofs.inner.keep_ranks.Tie as tie

-- ---- the places, each from the one after it

abbrev entry : tie.After-slice_known-1 → tie.After-shared_slice_known-2-1
entry c = c.before.before

abbrev start : tie.After-counts_as_list → tie.Start
start c = (entry c.before).before.before

abbrev self : tie.Start → Operand
self s = lent s.args.s s.args.swords.now s.args.srows.now

listed : (c : tie.Then-counts_as_list) → counts_as_list (start c.before).args.s ≡ true
listed c = sym c.before.counts_as_list.ensures ∙ c.if-counts_as_list.true

-- ---- the answers

counts-as-list-requires : tie.Need-counts_as_list-requires
counts-as-list-requires c κs = search rules

keep-in-list-requires : tie.Need-keep_in_list-requires
keep-in-list-requires c κs =
    let t = c.before in
    let s = start t.before in
    (bare_accepted (self s) (listed t) s.requires.0, listed t, s.requires.1, s.requires.3, s.requires.4)

same_length : tie.Need-shape_of-out-then-counts_as_list
same_length c = search rules

returns : tie.Need-returns-then-counts_as_list
returns c =
    let k = c.before.before in
    let t = k.before.before in
    let s = start t.before in
    k.keep_in_list.ensures
    ∙ ap (λ (z : List Bool). laid s.args.at (compose z (in_runs (count_of (self s)) s.args.rruns.now)) s.args.out.now)
    (sym (bare_rows (self s) (listed t)))

keep-in-words-requires : tie.Need-keep_in_words-requires
keep-in-words-requires c κs =
    let e = c.before in
    let s = start e.before in
    (s.requires.0, self_in_words (self s) s.requires.2 (sym e.before.counts_as_list.ensures ∙ e.if-counts_as_list.false), s.requires.3, s.requires.4)

same-length-2 : tie.Need-shape_of-out
same-length-2 c = search rules

returns-2 : tie.Need-returns
returns-2 c = c.before.before.keep_in_words.ensures

pub keep_ranks_spec : {M : Type 1} → statement M
keep_ranks_spec =
    tie.close
    (tie.spec
    counts-as-list-requires
    keep-in-list-requires
    same_length
    returns
    keep-in-words-requires
    same-length-2
    returns-2)
