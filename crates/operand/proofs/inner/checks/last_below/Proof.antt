-- `operand::inner::checks::last_below` meets its contract.
-- Assumes nothing.
use mathlib.Core.Path.{sym}
use Prim.Native.Nat.{◌-◌}
use native.Mathlib.Omega.{arith}
use lib.ListN.{length}
use Rattle.operand.proofs.ClimbLaws.{last_at, last_none}
use borrow.Author.Rules.{rules}
use Rattle.operand.proofs.inner.checks.last_below.Statement.{statement}
use Rattle.operand.proofs.inner.checks.last_below.Tie as tie

returns : tie.Need-returns-then-n-eq0
returns c = sym (last_none c.before.args.length c.before.args.rows.now c.if-n-eq0.true)

sub-result : tie.Need-overflow_sub-result
sub-result c = search rules

mul-result : tie.Need-offset_bounds-rows-n
mul-result c = search rules

shared-slice-read-result : tie.Need-bounds-rows-n
shared-slice-read-result c = search rules

cast-result : tie.Need-overflow_cast-result
cast-result c = omega (arith, c.shared_slice_known-1.given (length c.before.before.args.rows.now - 1))

returns-2 : tie.Need-returns
returns-2 c = sym (last_at c.before.before.args.length c.before.before.args.rows.now (omega arith))

pub last_below_spec : {M : Type 1} → statement M
last_below_spec =
    tie.close
    (tie.spec returns sub-result mul-result shared-slice-read-result cast-result returns-2)
