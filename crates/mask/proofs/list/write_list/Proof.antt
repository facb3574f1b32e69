-- `mask::list::write_list` meets its contract: runs are listed run by run, any other form as it is.
-- By what acceptance gives of each; all rows stand before what stays. Assumes nothing.
use Prim.Native.Nat.{ℕ}
use mathlib.Core.Path.{◌≡◌, sym, ap, ◌∙◌}
use mathlib.Core.Bool.{Bool, true}
use mathlib.Core.List.{List}
use native.Mathlib.Omega.{arith}
use borrow.Author.Rules.{rules}
use Rattle.rows.specs.Rows.{splice}
use Rattle.rows.specs.Lists.{set_rows}
use Rattle.rows.specs.Runs.{in_runs}
use Rattle.rows.proofs.ListLaws.{rows_count}
use Rattle.rules.specs.Operand.{Operand, lent, rows_of, count_of}
use Rattle.rules.proofs.OperandLaws.{accepted_count, accepted_limit}
use Rattle.operand.specs.Flat.{has_runs}
use Rattle.operand.proofs.NumberLaws.{accepted_runs, runs_rows, runs_sum}
use Rattle.mask.proofs.ListOutLaws.{list_front}
use Rattle.mask.proofs.list.write_list.Statement.{statement}
use Rattle.mask.proofs.list.write_list.Tie as tie

-- ---- the places, each from the one after it: runs, or any other form

abbrev entry : tie.After-slice_known-1 → tie.Start
entry c = c.before.before.before

abbrev start : tie.After-has_runs → tie.Start
start c = entry c.before

abbrev listing : tie.After-length_of → tie.Then-has_runs
listing c = c.before

abbrev measured : tie.After-list_runs → tie.After-length_of
measured c = c.before.before

abbrev listed : tie.After-slice_known-then-has_runs-1 → tie.After-list_runs
listed c = c.before.before

-- ---- the operand, and what is known of it

module _ (c : tie.Start) where
  abbrev operand : Operand
  operand = lent c.args.form c.args.words.now c.args.rows.now

  abbrev out : List ℕ
  out = c.args.out.now

module _ (c : tie.Then-has_runs) where
  abbrev lists : tie.Start
  lists = start c.before

  runs : has_runs lists.args.form ≡ true
  runs = sym c.before.has_runs.ensures ∙ c.if-has_runs.true

-- ---- the answers

has-runs-requires : tie.Need-has_runs-requires
has-runs-requires c κs = search rules

length-of-requires : tie.Need-length_of-requires
length-of-requires c κs = search rules

list-runs-requires : tie.Need-list_runs-requires
list-runs-requires c κs =
    let t = listing c.before in
    let s = lists t in
    let o = operand s in
    rw c.before.length_of.ensures
    (accepted_runs o (runs t) s.requires.0, omega (arith, runs_sum o (runs t), s.requires.1), accepted_limit o s.requires.0)

same_length : tie.Need-shape_of-out-then-has_runs
same_length c = search rules

returns : tie.Need-returns-then-has_runs
returns c =
    let l = listed c in
    let t = listing (measured l) in
    let s = lists t in
    let o = operand s in
    l.list_runs.ensures
    ∙ ap (λ (n : ℕ). splice 0 (out s) (set_rows 0 (in_runs n s.args.rows.now))) (measured l).length_of.ensures
    ∙ ap (λ (z : List Bool). splice 0 (out s) (set_rows 0 z)) (sym (runs_rows o (runs t)))
    ∙ list_front (out s) (set_rows 0 (rows_of o)) (count_of o) (rows_count 0 (rows_of o) ∙ accepted_count o s.requires.0) s.requires.1

write-other-requires : tie.Need-write_other-requires
write-other-requires c κs =
    let e = c.before in
    let s = start e.before in
    (s.requires.0, s.requires.1, sym e.before.has_runs.ensures ∙ e.if-has_runs.false)

same-length-2 : tie.Need-shape_of-out
same-length-2 c = search rules

returns-2 : tie.Need-returns
returns-2 c = c.before.before.write_other.ensures

pub write_list_spec : {M : Type 1} → statement M
write_list_spec =
    tie.close
    (tie.spec
    has-runs-requires
    length-of-requires
    list-runs-requires
    same_length
    returns
    write-other-requires
    same-length-2
    returns-2)
