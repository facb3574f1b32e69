-- `recover::inner::whole::recover_within` meets its contract.
-- The recovery laid from bit 0 on, where the last word was cleared, is the recovery written. Assumes nothing.
use Prim.Native.Nat.{ℕ, ◌^◌, ◌≤◌}
use mathlib.Core.Path.{◌≡◌, sym, ap, ap₂, ◌∙◌}
use mathlib.Core.Bool.{Bool}
use mathlib.Core.List.{List}
use native.Mathlib.Omega.{arith}
use lib.ListN.{length}
use borrow.Author.Rules.{rules}
use Rattle.rows.specs.Rows.{count}
use Rattle.rows.specs.Laid.{laid, last_cleared, written}
use Rattle.rows.proofs.LaidLaws.{below_all}
use Rattle.rows.proofs.WrittenLaws.{laid_written}
use Rattle.rules.specs.Operand.{Operand, lent, count_of}
use Rattle.rules.specs.Answer.{accepted}
use Rattle.rules.specs.Recover.{recovery}
use Rattle.rules.proofs.OperandLaws.{accepted_few}
use Rattle.rules.proofs.Recoveries.{recovery_length, recovery_count}
use Rattle.recover.proofs.inner.whole.recover_within.Statement.{statement}
use Rattle.recover.proofs.inner.whole.recover_within.Tie as tie
use Rattle.rules.specs.Answer.{no_route}

-- ---- the places, each from the one after it

abbrev words-lent : tie.After-slice_known-1 → tie.After-shared_slice_known-2-1
words-lent c = c.before.before.before

abbrev entry : tie.After-slice_known-1 → tie.Start
entry c = (words-lent c).before.before

abbrev given : tie.After-clear_last → tie.After-slice_known-1
given c = c.before.before

abbrev cleared : tie.After-lay_recovery → tie.After-clear_last
cleared c = c.before.before.before.before

abbrev laid_out : tie.After-slice_known-3-1 → tie.After-lay_recovery
laid_out c = c.before.before

-- ---- the operands, and what is known once the last word is cleared

module _ (c : tie.After-slice_known-1) where
  abbrev s : tie.Start
  s = entry c

  abbrev self : Operand
  self = lent s.args.s.form s.args.swords.now s.args.srows.now

  abbrev other : Operand
  other = lent s.args.k.form s.args.kwords.now s.args.krows.now

  abbrev rows : List Bool
  rows = recovery self other

  abbrev out : List ℕ
  out = s.args.out.now

  few : s.args.s.count ≤ 1048576
  few = omega (arith, s.requires.1, accepted_few self s.requires.0.self)

  kept_few : s.args.k.count ≤ 1048576
  kept_few = omega (arith, s.requires.2, accepted_few other s.requires.0.kept)

  whole : laid 0 rows (last_cleared s.args.s.count out) ≡ written (count_of self) rows out
  whole =
      ap (λ (n : ℕ). laid 0 rows (last_cleared n out)) s.requires.1
      ∙ laid_written (count_of self) rows out (below_all (2 ^ 64) out (λ i. (c.slice_known-1.given i).fits)) (recovery_length self other s.requires.0) s.requires.3

  -- the second mask's count and self's are the result's count and length
  answer_is : accepted s.args.k.count no_route s.args.s.count ≡ accepted (count rows) no_route (length rows)
  answer_is =
      ap₂ (λ (n len : ℕ). accepted n no_route len) (s.requires.2 ∙ sym (recovery_count self other s.requires.0)) (s.requires.1 ∙ sym (recovery_length self other s.requires.0))

-- ---- the answers

clear-last-requires : tie.Need-clear_last-requires
clear-last-requires c κs =
    let g = c.before in
    omega (arith, (s g).requires.1, (s g).requires.3)

lay-recovery-requires : tie.Need-lay_recovery-requires
lay-recovery-requires c κs =
    let g = given c.before.before.before in
    let p = (s g).requires in
    (p.0, p.1, (omega (arith, p.3), omega (arith, accepted_few (self g) p.0.self)))

accepted-requires : tie.Need-accepted-requires
accepted-requires c κs =
    let g = given (cleared (laid_out c)) in
    (kept_few g, few g)

same_length : tie.Need-shape_of-out
same_length c = search rules

returns : tie.Need-returns
returns c =
    let l = laid_out c.before in
    let k = cleared l in
    let g = given k in
    (c.accepted.ensures ∙ answer_is g, l.lay_recovery.ensures ∙ ap (laid 0 (rows g)) k.clear_last.ensures ∙ whole g)

pub recover_within_spec : {M : Type 1} → statement M
recover_within_spec =
    tie.close
    (tie.spec
    clear-last-requires
    lay-recovery-requires
    accepted-requires
    same_length
    returns)
