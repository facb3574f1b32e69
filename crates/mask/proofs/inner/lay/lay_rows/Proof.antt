-- `mask::inner::lay::lay_rows` meets its contract: runs are laid run by run, any other form as it is.
-- By what acceptance gives of each. Assumes nothing.
use Prim.Native.Nat.{ℕ}
use mathlib.Core.Path.{◌≡◌, sym, ap, ◌∙◌}
use mathlib.Core.Bool.{Bool, true}
use mathlib.Core.List.{List}
use borrow.Author.Rules.{rules}
use Rattle.rows.specs.Runs.{in_runs}
use Rattle.rows.specs.Laid.{laid}
use Rattle.rules.specs.Operand.{Operand, lent}
use Rattle.operand.specs.Flat.{has_runs}
use Rattle.operand.proofs.NumberLaws.{accepted_runs, runs_rows}
use Rattle.mask.proofs.inner.lay.lay_rows.Statement.{statement}
use Rattle.mask.proofs.inner.lay.lay_rows.Tie as tie

-- ---- the places, each from the one after it: runs, or any other form

abbrev entry : tie.After-slice_known-1 → tie.Start
entry c = c.before.before.before

abbrev start : tie.After-has_runs → tie.Start
start c = entry c.before

abbrev filling : tie.After-length_of → tie.Then-has_runs
filling c = c.before

abbrev measured : tie.After-lay_runs → tie.After-length_of
measured c = c.before.before

abbrev filled : tie.After-slice_known-then-has_runs-1 → tie.After-lay_runs
filled c = c.before.before

-- ---- what is known of the operand

abbrev operand : tie.Start → Operand
operand s = lent s.args.form s.args.words.now s.args.rows.now

module _ (c : tie.Then-has_runs) where
  abbrev fills : tie.Start
  fills = start c.before

  runs : has_runs fills.args.form ≡ true
  runs = sym c.before.has_runs.ensures ∙ c.if-has_runs.true

-- ---- the answers

has-runs-requires : tie.Need-has_runs-requires
has-runs-requires c κs = search rules

length-of-requires : tie.Need-length_of-requires
length-of-requires c κs = search rules

lay-runs-requires : tie.Need-lay_runs-requires
lay-runs-requires c κs =
    let t = filling c.before in
    let s = fills t in
    rw c.before.length_of.ensures (accepted_runs (operand s) (runs t) s.requires.0, s.requires.1)

same_length : tie.Need-shape_of-out-then-has_runs
same_length c = search rules

returns : tie.Need-returns-then-has_runs
returns c =
    let l = filled c in
    let t = filling (measured l) in
    let a = (fills t).args in
    l.lay_runs.ensures
    ∙ ap (λ (n : ℕ). laid a.at (in_runs n a.rows.now) a.out.now) (measured l).length_of.ensures
    ∙ ap (λ (z : List Bool). laid a.at z a.out.now) (sym (runs_rows (operand (fills t)) (runs t)))

lay-other-requires : tie.Need-lay_other-requires
lay-other-requires c κs =
    let e = c.before in
    let s = start e.before in
    (s.requires.0, s.requires.1, sym e.before.has_runs.ensures ∙ e.if-has_runs.false)

same-length-2 : tie.Need-shape_of-out
same-length-2 c = search rules

returns-2 : tie.Need-returns
returns-2 c = c.before.before.lay_other.ensures

pub lay_rows_spec : {M : Type 1} → statement M
lay_rows_spec =
    tie.close
    (tie.spec
    has-runs-requires
    length-of-requires
    lay-runs-requires
    same_length
    returns
    lay-other-requires
    same-length-2
    returns-2)
