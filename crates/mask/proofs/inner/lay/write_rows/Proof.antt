-- `mask::inner::lay::write_rows` meets its contract: rows laid from bit 0 on, the last word cleared before, are the rows written.
-- By the law of whole words. Assumes nothing.
use mathlib.Core.Path.{◌≡◌, ap, ◌∙◌}
use mathlib.Core.Bool.{Bool}
use mathlib.Core.List.{List}
use Prim.Native.Nat.{ℕ, ◌^◌}
use Rattle.rows.specs.Laid.{laid, last_cleared, written}
use Rattle.rows.proofs.LaidLaws.{below_all}
use Rattle.rows.proofs.WrittenLaws.{laid_written}
use Rattle.rules.specs.Operand.{Operand, lent, rows_of, length_of}
use Rattle.rules.proofs.OperandLaws.{accepted_length}
use borrow.Author.Rules.{rules}
use Rattle.mask.proofs.inner.lay.write_rows.Statement.{statement}
use Rattle.mask.proofs.inner.lay.write_rows.Tie as tie

-- ---- the places, each from the one after it

abbrev entry : tie.After-slice_known-1 → tie.Start
entry c = c.before.before.before

abbrev given : tie.After-length_of → tie.After-slice_known-1
given c = c.before.before

abbrev measured : tie.After-clear_last → tie.After-length_of
measured c = c.before

abbrev cleared : tie.After-lay_rows-arg-1 → tie.After-clear_last
cleared c = c.before.before.before

abbrev laid_out : tie.After-slice_known-3-1 → tie.After-lay_rows
laid_out c = c.before.before

-- ---- what is lent, and what is known once the last word is cleared

module _ (c : tie.After-slice_known-1) where
  abbrev operand : Operand
  operand = lent (entry c).args.form (entry c).args.words.now (entry c).args.rows.now

  abbrev out : List ℕ
  out = (entry c).args.out.now

  abbrev len : ℕ
  len = length_of (entry c).args.form

  whole : laid 0 (rows_of operand) (last_cleared len out) ≡ written len (rows_of operand) out
  whole =
      laid_written len (rows_of operand) out (below_all (2 ^ 64) out (λ i. (c.slice_known-1.given i).fits))
      (accepted_length operand (entry c).requires.0) (entry c).requires.1

module _ (c : tie.After-clear_last) where
  abbrev start : tie.After-slice_known-1
  start = given (measured c)

  abbrev rows : List Bool
  rows = rows_of (operand start)

  zeroed : c.clear_last.new.out ≡ last_cleared (len start) (out start)
  zeroed = c.clear_last.ensures ∙ ap (λ (n : ℕ). last_cleared n (out start)) (measured c).length_of.ensures

rows_laid : (c : tie.After-lay_rows) → c.lay_rows.new.out ≡ laid 0 (rows (cleared c.before)) (cleared c.before).clear_last.new.out
rows_laid c = c.lay_rows.ensures

-- ---- the answers

length-of-requires : tie.Need-length_of-requires
length-of-requires c κs = search rules

clear-last-requires : tie.Need-clear_last-requires
clear-last-requires c κs = search rules

lay-rows-requires : tie.Need-lay_rows-requires
lay-rows-requires c κs = search rules

same_length : tie.Need-shape_of-out
same_length c = search rules

returns : tie.Need-returns
returns c =
    let l = laid_out c in
    let k = cleared l.before in
    rows_laid l ∙ ap (laid 0 (rows k)) (zeroed k) ∙ whole (start k)

pub write_rows_spec : {M : Type 1} → statement M
write_rows_spec =
    tie.close
    (tie.spec
    length-of-requires
    clear-last-requires
    lay-rows-requires
    same_length
    returns)
