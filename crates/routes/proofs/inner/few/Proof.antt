-- `routes::inner::few` meets its contract: the product fits, and the test is the definition's.
-- A factor of 32 bits times a count of at most 2^20. Assumes nothing.
use native.Mathlib.Nat.{mul-le-mul_right}
use native.Mathlib.Omega.{arith}
use borrow.Author.Rules.{rules}
use Rattle.routes.proofs.inner.few.Statement.{statement}
use Rattle.routes.proofs.inner.few.Tie as tie

mul-result : tie.Need-overflow_mul-result
mul-result c =
    let a = c.args in
    omega (arith, mul-le-mul_right {m = a.factor} {n = 4294967296} a.count (omega arith))

returns : tie.Need-returns
returns c = search rules

pub few_spec : {M : Type 1} → statement M
few_spec = tie.close (tie.spec mul-result returns)
