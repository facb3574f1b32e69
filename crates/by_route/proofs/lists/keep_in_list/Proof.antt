-- `by_route::lists::keep_in_list` meets its contract: each run of ranks is laid, in runs or in a list.
-- By what acceptance gives of each. Assumes nothing.
use Prim.Native.Nat.{ℕ}
use mathlib.Core.Path.{◌≡◌, sym, ap, ap₂, ◌∙◌, subst}
use mathlib.Core.Bool.{Bool}
use mathlib.Core.List.{List, []}
use lib.ListN.{length}
use borrow.Author.Rules.{rules}
use Rattle.rows.specs.Rows.{compose}
use Rattle.rows.specs.Lists.{listed}
use Rattle.rows.specs.Runs.{in_runs, run_lengths, Apart}
use Rattle.rows.specs.Laid.{laid}
use Rattle.rules.specs.Operand.{Operand, lent, length_of}
use Rattle.marks.specs.declared.inner.Numbers.{Numbers}
use Rattle.marks.specs.Entries.{entries}
use Rattle.by_route.proofs.EntriesLaws.{AsRuns, AsEntries, as_runs, as_entries}
use Rattle.by_route.proofs.lists.keep_in_list.Statement.{statement}
use Rattle.by_route.proofs.lists.keep_in_list.Tie as tie

-- ---- the places, each from the one after it: runs, or entries

abbrev entry : tie.After-slice_known-1 → tie.Start
entry c = c.before.before.before

abbrev start : tie.After-length_of-len → tie.Start
start c = entry c.before

abbrev asked : tie.After-has_long_runs → tie.After-length_of-len
asked c = c.before

abbrev in_runs_lem : tie.After-lay_runs_in_runs → tie.Then-has_long_runs
in_runs_lem c = c.before.before

abbrev runs-laid : tie.After-slice_known-then-has_long_runs-1 → tie.After-lay_runs_in_runs
runs-laid c = c.before.before

abbrev in-entries : tie.After-lay_entries_by_runs → tie.After-numbers
in-entries c = c.before.before

abbrev entries-laid : tie.After-slice_known-2-1 → tie.After-lay_entries_by_runs
entries-laid c = c.before.before

-- ---- self, and what is known of it

module _ (c : tie.After-length_of-len) where
  abbrev self : Operand
  self = lent (start c).args.s [] (start c).args.srows.now

  abbrev long : c.length_of-len.result ≡ length_of self.form
  long = c.length_of-len.ensures

module _ (c : tie.Then-has_long_runs) where
  abbrev runs_of : tie.After-length_of-len
  runs_of = asked c.before

  runs : AsRuns (self runs_of)
  runs =
      let s = start runs_of in
      as_runs (self runs_of) s.args.count s.requires.0 (sym c.before.has_long_runs.ensures ∙ c.if-has_long_runs.true)

module _ (c : tie.After-numbers) where
  abbrev entries-of : tie.After-length_of-len
  entries-of = asked c.before.before

  abbrev numbers : Numbers
  numbers = c.numbers.result

  found : AsEntries (self entries-of) numbers
  found =
      let s = start entries-of in
      let l = c.before in
      subst (λ (n : Numbers). AsEntries (self entries-of) n) (sym c.numbers.ensures)
      (as_entries (self entries-of) s.args.count s.requires.0 s.requires.1 s.requires.2 (sym l.before.has_long_runs.ensures ∙ l.if-has_long_runs.false))

-- ---- the answers

length-of-requires : tie.Need-length_of-len-requires
length-of-requires c κs = search rules

has-long-runs-requires : tie.Need-has_long_runs-requires
has-long-runs-requires c κs = search rules

numbers-requires : tie.Need-numbers-requires
numbers-requires c κs = search rules

same_length : tie.Need-shape_of-out-then-has_long_runs
same_length c = search rules

same-length-2 : tie.Need-shape_of-out
same-length-2 c = search rules

-- ---- in runs

lay-runs-in-runs-requires : tie.Need-lay_runs_in_runs-requires
lay-runs-in-runs-requires c κs =
    let t = c.before in
    let q = runs_of t in
    let s = start q in
    let o = runs t in
    rw (long q) (o.apart, subst (λ (k : ℕ). Apart 0 k s.args.rruns.now) o.sum s.requires.3, o.limit, s.requires.4)

returns : tie.Need-returns-then-has_long_runs
returns c =
    let l = runs-laid c in
    let t = in_runs_lem l in
    let q = runs_of t in
    let a = (start q).args in
    let ns = a.srows.now in
    let rs = a.rruns.now in
    l.lay_runs_in_runs.ensures.1
    ∙ ap (λ (n : ℕ). laid a.at (compose (in_runs n ns) (in_runs (run_lengths ns) rs)) a.out.now) (long q)
    ∙ ap₂ (λ (z : List Bool) (n : ℕ). laid a.at (compose z (in_runs n rs)) a.out.now) (runs t).rows (sym (runs t).sum)

-- ---- by entries

lay-entries-by-runs-requires : tie.Need-lay_entries_by_runs-requires
lay-entries-by-runs-requires c κs =
    let e = c.before in
    let q = entries-of e in
    let s = start q in
    let o = found e in
    rw (long q) (o.up, subst (λ (k : ℕ). Apart 0 k s.args.rruns.now) o.many s.requires.3, s.requires.4)

returns-2 : tie.Need-returns
returns-2 c =
    let l = entries-laid c in
    let e = in-entries l in
    let q = entries-of e in
    let a = (start q).args in
    let es = entries (numbers e) a.srows.now in
    let rs = a.rruns.now in
    l.lay_entries_by_runs.ensures.1
    ∙ ap (λ (n : ℕ). laid a.at (compose (listed n es) (in_runs (length es) rs)) a.out.now) (long q)
    ∙ ap₂ (λ (z : List Bool) (n : ℕ). laid a.at (compose z (in_runs n rs)) a.out.now) (found e).rows (sym (found e).many)

pub keep_in_list_spec : {M : Type 1} → statement M
keep_in_list_spec =
    tie.close
    (tie.spec
    length-of-requires
    has-long-runs-requires
    lay-runs-in-runs-requires
    same_length
    returns
    numbers-requires
    lay-entries-by-runs-requires
    same-length-2
    returns-2)
