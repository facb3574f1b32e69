-- `operand::inner::checks::ascends` meets its contract.
-- A turn by what a list's climbing says of its first two entries. Assumes nothing.
use mathlib.Core.Path.{◌≡◌, sym, ap, ◌∙◌}
use mathlib.Core.Bool.{Bool, false, ◌&&◌, and-true, and-false}
use Prim.Native.Nat.{suc, ◌+◌, ◌-◌, ◌≤◌, ◌<◌}
use native.Mathlib.Omega.{arith}
use borrow.Author.Tests.{lt-ltb, le-ltb}
use lib.Dec.{ltb}
use lib.ListN.{drop, get_or}
use Rattle.rules.specs.Operand.{climbs}
use Rattle.operand.proofs.ClimbLaws.{climbs_step, climbs_end}
use Rattle.operand.proofs.inner.checks.ascends.Goals as goal
use Rattle.operand.proofs.inner.checks.ascends.Goals.{then-rows-i, else-rows-i}

pub loop-i-preserved : goal.loop-i-preserved
loop-i-preserved c =
    let rows = c.args.rows.now in
    let l = c.loop-i in
    let e = get_or rows (l.i - 1) 0 in
    let f = get_or rows l.i 0 in
    let k : suc (l.i - 1) ≡ l.i = omega arith in
    let k2 : l.i + 1 - 1 ≡ l.i = omega arith in
    let step : climbs rows ≡ (l.fine && (ltb e f && climbs (drop l.i rows))) =
    l.invariant.1 ∙ ap (λ (b : Bool). l.fine && b) (climbs_step rows (l.i - 1) (omega arith) ∙ rw k) in
    let falls : f ≤ e → climbs rows ≡ false = λ h. step ∙ rw (le-ltb e f h) (and-false l.fine) in
    let rises : e < f → climbs rows ≡ (l.fine && climbs (drop l.i rows)) = λ h. step ∙ rw (lt-ltb e f h) in (
      omega arith,
      elim c.if-rows-i.branch [
        | then-rows-i w ↦ rw w.fine-is (falls (omega (arith, w.if-rows-i.true)))
        | else-rows-i w ↦ rw (w.fine-is, k2) (rises (omega (arith, w.if-rows-i.false)))
      ],
    )

pub returns : goal.returns
returns c =
    let l = c.loop-i in
    sym (l.invariant.1 ∙ ap (λ (b : Bool). l.fine && b) (climbs_end c.args.rows.now (l.i - 1) (omega arith)) ∙ and-true l.fine)
