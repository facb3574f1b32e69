-- `in_runs::skips::skip_rows` meets its contract: a list's entries, runs, or what is counted of the other forms.
-- By what each form's walk tells of its rows. Assumes nothing.
use Prim.Native.Nat.{◌+◌, ◌≤◌}
use native.Mathlib.Omega.{arith}
use mathlib.Core.Path.{◌≡◌, sym, ◌∙◌}
use mathlib.Core.Bool.{true, false}
use lib.ListN.{take, drop}
use borrow.Author.Rules.{rules}
use Rattle.rules.specs.Operand.{Operand, lent}
use Rattle.rules.proofs.OperandLaws.{accepted_limit}
use Rattle.operand.specs.Flat.{has_row_numbers, has_runs, Flat}
use Rattle.operand.proofs.FlatLaws.{accepted_flat}
use Rattle.books.specs.Gathers.{Parted}
use Rattle.books.proofs.GatherLaws.{below_more, climbs_from}
use Rattle.extracts.proofs.WalkLaws.{list_came, runs_came}
use Rattle.in_runs.proofs.SkipLaws.{list_skipped, runs_skipped, flat_skipped}
use Rattle.in_runs.proofs.skips.skip_rows.Statement.{statement}
use Rattle.in_runs.proofs.skips.skip_rows.Tie as tie

-- ---- the places, each from the one after it

abbrev start : tie.After-has_row_numbers → tie.Start
start c = c.before.before.before

abbrev other : tie.After-has_runs → tie.After-has_row_numbers
other c = c.before.before

abbrev asked : tie.After-struct_known-1 → tie.After-has_row_numbers
asked c = c.before.before

-- ---- the operand

module _ (c : tie.Start) where
  abbrev o : Operand
  o = lent c.args.form c.args.words.now c.args.numbers.now

  few : c.args.row.0 + c.args.n ≤ 1048576
  few = omega (arith, accepted_limit o c.requires.0, c.requires.1)

listed : (c : tie.Then-has_row_numbers) → has_row_numbers (start c.before).args.form ≡ true
listed c = sym c.before.has_row_numbers.ensures ∙ c.if-has_row_numbers.true

unlisted : (c : tie.Else-has_row_numbers) → has_row_numbers (start c.before).args.form ≡ false
unlisted c = sym c.before.has_row_numbers.ensures ∙ c.if-has_row_numbers.false

in_runs_lem : (c : tie.Then-has_runs) → has_runs (start (other c.before)).args.form ≡ true
in_runs_lem c = sym c.before.has_runs.ensures ∙ c.if-has_runs.true

no_runs_lem : (c : tie.Else-has_runs) → has_runs (start (other c.before)).args.form ≡ false
no_runs_lem c = sym c.before.has_runs.ensures ∙ c.if-has_runs.false

read : (c : tie.Else-has_runs) → Flat (o (start (other c.before)))
read c =
    let s = start (other c.before) in
    accepted_flat (o s) (unlisted c.before.before) (no_runs_lem c) s.requires.0

parted : (c : tie.Then-has_row_numbers) → let a = (start c.before).args in Parted a.row.0 a.next a.numbers.now
parted c =
    let s = start c.before in
    list_came (o s) s.args.next s.args.row.0 (listed c) s.requires.2

-- ---- the answers

has-row-numbers-requires : tie.Need-has_row_numbers-requires
has-row-numbers-requires c κs = search rules

add-end : tie.Need-overflow_add-end
add-end c = omega (arith, few (start (asked c)))

skip-entries-requires : tie.Need-skip_entries-past-requires
skip-entries-requires c κs =
    let a = (start (asked c)).args in
    let b = a.row.0 in
    let p = parted c.before in
    let es = a.numbers.now in
    (p.within, below_more b (b + a.n) (take a.next es) (omega arith) p.before, climbs_from 0 b (drop a.next es) (omega arith) p.after)

sub-set : tie.Need-overflow_sub-set
sub-set c = c.skip_entries-past.ensures.0

returns : tie.Need-returns-then-has_row_numbers
returns c =
    let t = c.before.before in
    let s = start t.before in
    let a = s.args in
    list_skipped (o s) a.row.0 a.n s.requires.1 a.next _ (listed t) s.requires.0 s.requires.2 c.skip_entries-past.ensures.1

has-runs-requires : tie.Need-has_runs-requires
has-runs-requires c κs = search rules

skip-runs-requires : tie.Need-skip_runs-requires
skip-runs-requires c κs =
    let s = start (other c.before) in
    let a = s.args in
    (runs_came (o s) a.next a.row.0 (in_runs_lem c) s.requires.2, few s)

returns-2 : tie.Need-returns-then-has_runs
returns-2 c =
    let t = c.before in
    let s = start (other t.before) in
    let a = s.args in
    let e = c.skip_runs.ensures in
    runs_skipped (o s) a.row.0 a.n s.requires.1 _ _ (in_runs_lem t) e.0 e.1

count-rows-requires : tie.Need-count_rows-set-requires
count-rows-requires c κs =
    let s = start (other c.before) in
    (read c, s.requires.1)

returns-3 : tie.Need-returns
returns-3 c =
    let t = c.before in
    let s = start (other t.before) in
    let a = s.args in
    flat_skipped (o s) a.row.0 a.n s.requires.1 _ _ (unlisted t.before.before) (no_runs_lem t) (read t) c.count_rows-set.ensures

pub skip_rows_spec : {M : Type 1} → statement M
skip_rows_spec =
    tie.close
    (tie.spec
    has-row-numbers-requires
    add-end
    skip-entries-requires
    sub-set
    returns
    has-runs-requires
    skip-runs-requires
    returns-2
    count-rows-requires
    returns-3)
