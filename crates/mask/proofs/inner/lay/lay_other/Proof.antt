-- `mask::inner::lay::lay_other` meets its contract: a list is marked, any other form that is no runs laid chunk by chunk.
-- By what acceptance gives of each. Assumes nothing.
use mathlib.Core.Path.{◌≡◌, sym, ap, ◌∙◌}
use Prim.Native.Nat.{ℕ}
use mathlib.Core.Bool.{Bool, true}
use mathlib.Core.List.{List}
use Rattle.rows.specs.Lists.{listed}
use Rattle.rows.specs.Laid.{laid}
use Rattle.rules.specs.Operand.{Operand, lent, rows_of}
use Rattle.operand.specs.Flat.{has_row_numbers, Flat}
use Rattle.operand.proofs.NumberLaws.{accepted_list, list_rows}
use Rattle.operand.proofs.FlatLaws.{accepted_flat, flat_rows}
use borrow.Author.Rules.{rules}
use Rattle.mask.proofs.inner.lay.lay_other.Statement.{statement}
use Rattle.mask.proofs.inner.lay.lay_other.Tie as tie

-- ---- the places, each from the one after it: a list, or any other form

abbrev entry : tie.After-slice_known-1 → tie.Start
entry c = c.before.before.before

abbrev start : tie.After-has_row_numbers → tie.Start
start c = entry c.before

abbrev listing : tie.After-length_of → tie.Then-has_row_numbers
listing c = c.before

abbrev measured : tie.After-lay_list → tie.After-length_of
measured c = c.before.before

abbrev listed-out : tie.After-slice_known-then-has_row_numbers-1 → tie.After-lay_list
listed-out c = c.before.before

abbrev laying : tie.After-lay_flat → tie.Else-has_row_numbers
laying c = c.before.before

abbrev flat_out : tie.After-slice_known-2-1 → tie.After-lay_flat
flat_out c = c.before.before

-- ---- what is known of the operand, of either kind

abbrev operand : tie.Start → Operand
operand s = lent s.args.form s.args.words.now s.args.rows.now

module _ (c : tie.Then-has_row_numbers) where
  abbrev lists : tie.Start
  lists = start c.before

  numbered : has_row_numbers lists.args.form ≡ true
  numbered = sym c.before.has_row_numbers.ensures ∙ c.if-has_row_numbers.true

module _ (c : tie.Else-has_row_numbers) where
  abbrev lays : tie.Start
  lays = start c.before

  accepted : Flat (operand lays)
  accepted = accepted_flat (operand lays) (sym c.before.has_row_numbers.ensures ∙ c.if-has_row_numbers.false) lays.requires.2 lays.requires.0

module _ (c : tie.After-lay_flat) where
  abbrev here : tie.Start
  here = lays (laying c)

  rows_laid : c.lay_flat.new.out ≡ laid here.args.at (rows_of (operand here)) here.args.out.now
  rows_laid =
      c.lay_flat.ensures
      ∙ ap (λ (z : List Bool). laid here.args.at z here.args.out.now) (sym (flat_rows (operand here) (accepted (laying c))))

-- ---- the answers

has-row-numbers-requires : tie.Need-has_row_numbers-requires
has-row-numbers-requires c κs = search rules

length-of-requires : tie.Need-length_of-requires
length-of-requires c κs = search rules

lay-list-requires : tie.Need-lay_list-requires
lay-list-requires c κs =
    let t = listing c.before in
    let s = lists t in
    rw c.before.length_of.ensures (accepted_list (operand s) (numbered t) s.requires.0, s.requires.1)

same_length : tie.Need-shape_of-out-then-has_row_numbers
same_length c = search rules

returns : tie.Need-returns-then-has_row_numbers
returns c =
    let l = listed-out c in
    let t = listing (measured l) in
    let a = (lists t).args in
    l.lay_list.ensures
    ∙ ap (λ (n : ℕ). laid a.at (listed n a.rows.now) a.out.now) (measured l).length_of.ensures
    ∙ ap (λ (z : List Bool). laid a.at z a.out.now) (sym (list_rows (operand (lists t)) (numbered t)))

lay-flat-requires : tie.Need-lay_flat-requires
lay-flat-requires c κs = (accepted c.before, (lays c.before).requires.1)

same-length-2 : tie.Need-shape_of-out
same-length-2 c = search rules

returns-2 : tie.Need-returns
returns-2 c = rows_laid (flat_out c)

pub lay_other_spec : {M : Type 1} → statement M
lay_other_spec =
    tie.close
    (tie.spec
    has-row-numbers-requires
    length-of-requires
    lay-list-requires
    same_length
    returns
    lay-flat-requires
    same-length-2
    returns-2)
