-- `mask::list::write_other` meets its contract: a list is copied, any other form that is no runs written chunk by chunk.
-- By what acceptance gives of each; all rows stand before what stays. Assumes nothing.
use Prim.Native.Nat.{ℕ}
use mathlib.Core.Path.{◌≡◌, sym, ap, ◌∙◌}
use mathlib.Core.Bool.{Bool, true}
use mathlib.Core.List.{List}
use native.Mathlib.Nat.{zero-add}
use native.Mathlib.Omega.{arith}
use lib.ListN.{length}
use Rattle.rows.specs.Rows.{count, splice}
use Rattle.rows.specs.Lists.{set_rows}
use Rattle.rows.proofs.ListLaws.{rows_listed, rows_count}
use Rattle.rules.specs.Operand.{Operand, lent, rows_of, length_of, count_of}
use Rattle.rules.proofs.OperandLaws.{accepted_count}
use Rattle.operand.specs.Flat.{has_row_numbers, Flat}
use Rattle.operand.proofs.NumberLaws.{accepted_list, list_rows, list_count}
use Rattle.operand.proofs.FlatLaws.{accepted_flat, flat_rows}
use Rattle.mask.proofs.ListOutLaws.{list_front}
use borrow.Author.Rules.{rules}
use Rattle.mask.proofs.list.write_other.Statement.{statement}
use Rattle.mask.proofs.list.write_other.Tie as tie

-- ---- the places, each from the one after it: a list, or any other form

abbrev entry : tie.After-slice_known-1 → tie.Start
entry c = c.before.before.before

abbrev start : tie.After-has_row_numbers → tie.Start
start c = entry c.before

abbrev copying : tie.After-copy_list → tie.Then-has_row_numbers
copying c = c.before.before

abbrev copied : tie.After-slice_known-then-has_row_numbers-1 → tie.After-copy_list
copied c = c.before.before

abbrev listing : tie.After-list_flat → tie.Else-has_row_numbers
listing c = c.before.before

abbrev listed : tie.After-slice_known-2-1 → tie.After-list_flat
listed c = c.before.before

-- ---- the operand, and what is known of it, of either kind

module _ (c : tie.Start) where
  abbrev operand : Operand
  operand = lent c.args.form c.args.words.now c.args.rows.now

  abbrev out : List ℕ
  out = c.args.out.now

  -- what is to be written
  abbrev entries : List ℕ
  entries = set_rows 0 (rows_of operand)

module _ (c : tie.Then-has_row_numbers) where
  abbrev copies : tie.Start
  copies = start c.before

  numbered : has_row_numbers copies.args.form ≡ true
  numbered = sym c.before.has_row_numbers.ensures ∙ c.if-has_row_numbers.true

  same : entries copies ≡ copies.args.rows.now
  same =
      let o = operand copies in
      let len = length_of copies.args.form in
      ap (set_rows 0) (list_rows o numbered)
      ∙ rows_listed len 0 len copies.args.rows.now (zero-add len) (accepted_list o numbered copies.requires.0)

module _ (c : tie.Else-has_row_numbers) where
  abbrev lists : tie.Start
  lists = start c.before

  accepted : Flat (operand lists)
  accepted = accepted_flat (operand lists) (sym c.before.has_row_numbers.ensures ∙ c.if-has_row_numbers.false) lists.requires.2 lists.requires.0

-- ---- the answers

has-row-numbers-requires : tie.Need-has_row_numbers-requires
has-row-numbers-requires c κs = search rules

copy-list-requires : tie.Need-copy_list-requires
copy-list-requires c κs =
    let t = c.before in
    omega (arith, list_count (operand (copies t)) (numbered t), (copies t).requires.1)

same_length : tie.Need-shape_of-out-then-has_row_numbers
same_length c = search rules

returns : tie.Need-returns-then-has_row_numbers
returns c =
    let t = copying (copied c) in
    let s = copies t in
    let o = operand s in
    (copied c).copy_list.ensures
    ∙ ap (splice 0 (out s)) (sym (same t))
    ∙ list_front (out s) (entries s) (count_of o) (ap length (same t) ∙ sym (list_count o (numbered t))) s.requires.1

list-flat-requires : tie.Need-list_flat-requires
list-flat-requires c κs =
    let e = c.before in
    let s = lists e in
    let o = operand s in
    (accepted e, omega (arith, ap count (flat_rows o (accepted e)), accepted_count o s.requires.0, s.requires.1))

same-length-2 : tie.Need-shape_of-out
same-length-2 c = search rules

returns-2 : tie.Need-returns
returns-2 c =
    let e = listing (listed c) in
    let s = lists e in
    let o = operand s in
    (listed c).list_flat.ensures
    ∙ ap (λ (z : List Bool). splice 0 (out s) (set_rows 0 z)) (sym (flat_rows o (accepted e)))
    ∙ list_front (out s) (entries s) (count_of o) (rows_count 0 (rows_of o) ∙ accepted_count o s.requires.0) s.requires.1

pub write_other_spec : {M : Type 1} → statement M
write_other_spec =
    tie.close
    (tie.spec
    has-row-numbers-requires
    copy-list-requires
    same_length
    returns
    list-flat-requires
    same-length-2
    returns-2)
