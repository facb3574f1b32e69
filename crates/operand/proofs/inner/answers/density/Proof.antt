-- `operand::inner::answers::density` meets its contract: one division of two numbers that the format holds is their quotient, rounded once.
-- By the test on the length, and by the law of the quotient, whose two numbers are left to the goal. Assumes nothing.
use mathlib.Core.Path.{◌≡◌, sym, ◌∙◌}
use Prim.Native.Nat.{ℕ, ◌^◌, ◌≤◌}
use native.Mathlib.Decide.{ℕ_discrete}
use native.Mathlib.Omega.{arith}
use lib.Dec.{T, leb, le→leb}
use lib.Ieee.{of_bits, in_float}
use Rattle.rows.proofs.TableLaws.{chosen, passed_over}
use Rattle.rules.specs.Answer.{no_density, density_of}
use Rattle.operand.proofs.Quotient.{quotient}
use Rattle.operand.proofs.inner.answers.density.Statement.{statement}
use Rattle.operand.proofs.inner.answers.density.Tie as tie

-- a number within the limit is one that the format holds
small : (k : ℕ) → k ≤ 1048576 → T (leb k (2 ^ 53))
small k h = le→leb k (2 ^ 53) (omega arith)

returns : tie.Need-returns-then-length-eq0
unfolding of_bits density_of
returns c = sym (chosen (ℕ_discrete c.before.args.length 0) no_density _ c.if-length-eq0.true)

int-to-float-result : tie.Need-int_to_float-result
unfolding in_float
int-to-float-result c = search (small, arith)

int-to-float-result-2 : tie.Need-int_to_float-result-2
unfolding in_float
int-to-float-result-2 c = search (small, arith)

returns-2 : tie.Need-returns
unfolding density_of
returns-2 c =
    let length = c.before.before.before.args.length in
    let n : length ≡ 0 → ⊥ = c.before.before.if-length-eq0.false in
    quotient _ _ (omega arith) (omega arith) (omega (arith, n)) ∙ sym (passed_over (ℕ_discrete length 0) no_density _ n)

pub density_spec : {M : Type 1} → statement M
density_spec = tie.close (tie.spec returns int-to-float-result int-to-float-result-2 returns-2)
