-- `intersect_by_rank::inner::compose::compose_accepted` meets its contract.
-- The composition laid from bit 0 on, where the last word was cleared, is the composition written. Assumes nothing.
use Prim.Native.Nat.{ℕ, ◌^◌}
use mathlib.Core.Path.{◌≡◌, ap, ◌∙◌}
use mathlib.Core.Bool.{Bool}
use mathlib.Core.List.{List}
use native.Mathlib.Omega.{arith}
use Rattle.rows.specs.Laid.{laid, last_cleared, written}
use Rattle.rows.proofs.LaidLaws.{below_all}
use Rattle.rows.proofs.WrittenLaws.{laid_written}
use Rattle.rules.specs.Operand.{Operand, lent, length_of}
use Rattle.rules.specs.Compose.{result}
use Rattle.rules.proofs.OperandLaws.{accepted_limit}
use Rattle.rules.proofs.ComposeLaws.{result_length}
use Rattle.intersect_by_rank.proofs.inner.compose.compose_accepted.Statement.{statement}
use Rattle.intersect_by_rank.proofs.inner.compose.compose_accepted.Tie as tie
use borrow.Author.Rules.{rules}

-- ---- the places, each from the one after it

abbrev words-lent : tie.After-slice_known-1 → tie.After-shared_slice_known-2-1
words-lent c = c.before.before.before

abbrev entry : tie.After-slice_known-1 → tie.Start
entry c = (words-lent c).before.before

abbrev given : tie.After-length_of → tie.After-slice_known-1
given c = c.before.before

abbrev measured : tie.After-clear_last → tie.After-length_of
measured c = c.before

abbrev cleared : tie.After-lay_composition-arg-1 → tie.After-clear_last
cleared c = c.before.before.before

abbrev laid_out : tie.After-slice_known-3-1 → tie.After-lay_composition
laid_out c = c.before.before

-- ---- the operands, and what is known once the last word is cleared

module _ (c : tie.After-slice_known-1) where
  abbrev self : Operand
  self = lent (entry c).args.s.form (entry c).args.swords.now (entry c).args.srows.now

  abbrev rank : Operand
  rank = lent (entry c).args.r.form (entry c).args.rwords.now (entry c).args.rrows.now

  abbrev rows : List Bool
  rows = result self rank

  abbrev out : List ℕ
  out = (entry c).args.out.now

  abbrev len : ℕ
  len = length_of (entry c).args.s.form

  whole : laid 0 rows (last_cleared len out) ≡ written len rows out
  whole =
      laid_written len rows out (below_all (2 ^ 64) out (λ i. (c.slice_known-1.given i).fits))
      (result_length self rank (entry c).requires.0) (entry c).requires.3

module _ (c : tie.After-clear_last) where
  abbrev start : tie.After-slice_known-1
  start = given (measured c)

  zeroed : c.clear_last.new.out ≡ last_cleared (len start) (out start)
  zeroed = c.clear_last.ensures ∙ ap (λ (n : ℕ). last_cleared n (out start)) (measured c).length_of.ensures

module _ (c : tie.After-lay_composition) where
  abbrev here : tie.After-clear_last
  here = cleared c.before

  rows_laid : c.lay_composition.new.out ≡ laid 0 (rows (start here)) here.clear_last.new.out
  rows_laid = c.lay_composition.ensures.1

-- ---- the answers

length-of-requires : tie.Need-length_of-requires
length-of-requires c κs = search rules

clear-last-requires : tie.Need-clear_last-requires
clear-last-requires c κs = rw c.length_of.ensures (entry (given c)).requires.3

lay-composition-requires : tie.Need-lay_composition-requires
lay-composition-requires c κs =
    let q = start (cleared c) in
    let p = (entry q).requires in
    (p.0, p.1, p.2, (omega (arith, p.3), omega (arith, accepted_limit (self q) p.0.self)))

same_length : tie.Need-shape_of-out
same_length c = search rules

returns : tie.Need-returns
returns c =
    let l = laid_out c in
    let k = here l in
    (l.lay_composition.ensures.0, rows_laid l ∙ ap (laid 0 (rows (start k))) (zeroed k) ∙ whole (start k))

pub compose_accepted_spec : {M : Type 1} → statement M
compose_accepted_spec =
    tie.close
    (tie.spec
    length-of-requires
    clear-last-requires
    lay-composition-requires
    same_length
    returns)
