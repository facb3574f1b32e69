-- `operand::inner::checks::runs_fit` meets its contract: the tests on all numbers are the test run by run.
-- By the laws of numbers that climb in pairs. Assumes nothing.
use mathlib.Core.Path.{◌≡◌, sym, ap, ◌∙◌}
use Prim.Native.Nat.{ℕ, suc, ◌+◌}
use native.Mathlib.Omega.{arith}
use Rattle.rows.proofs.TableLaws.{is_true, is_false}
use Rattle.rules.specs.Operand.{last_below}
use Rattle.operand.proofs.WeighLaws.{odd_unfit, falling_unfit, last_decides}
use Rattle.operand.proofs.inner.checks.runs_fit.Goals as goal

pub returns-then-runs-ne0 : goal.returns-then-runs-ne0
returns-then-runs-ne0 c = sym (odd_unfit c.args.length c.args.runs.now c.if-runs-ne0.true)

pub returns-then-not-ascends : goal.returns-then-not-ascends
returns-then-not-ascends c = sym (falling_unfit c.args.length c.args.runs.now (is_false (sym c.ascends.ensures ∙ c.if-not-ascends.true)))

pub returns : goal.returns
returns c =
    let a = c.args in
    let climbing = is_true (sym c.ascends.ensures ∙ c.if-not-ascends.false) in
    let next : a.length + 1 ≡ suc a.length = omega arith in
    c.last_below.ensures ∙ ap (λ (n : ℕ). last_below n a.runs.now) next ∙ last_decides a.length a.runs.now (omega (arith, c.if-runs-ne0.false)) climbing
