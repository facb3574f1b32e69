-- `operand::inner::checks::run_fits` meets its contract: each return is one of the three tests, those before it passed.
-- By the tests' truth values. Assumes nothing.
use native.Mathlib.Omega.{arith}
use borrow.Author.Tests.{lt-ltb, le-ltb, le-leb, lt-leb}
use Rattle.operand.proofs.inner.checks.run_fits.Statement.{statement}
use Rattle.operand.proofs.inner.checks.run_fits.Tie as tie

returns : tie.Need-returns-then-first-least
returns c =
    let a = c.before.args in
    rw (lt-leb a.least a.first (omega arith))

returns-2 : tie.Need-returns-then-past-first
returns-2 c =
    let a = c.before.before.args in
    rw (le-leb a.least a.first (omega arith), le-ltb a.first a.past (omega arith))

returns-3 : tie.Need-returns
returns-3 c =
    let a = c.before.before.args in
    rw (le-leb a.least a.first (omega arith), lt-ltb a.first a.past (omega arith))

pub run_fits_spec : {M : Type 1} → statement M
run_fits_spec = tie.close (tie.spec returns returns-2 returns-3)
