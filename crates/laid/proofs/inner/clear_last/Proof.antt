-- `laid::inner::clear_last` meets its contract: the last of ceil(bits / 64) words is word (bits - 1) / 64.
-- By the two cases of the number of bits. Assumes nothing.
use mathlib.Core.Path.{◌≡◌, refl, sym, subst}
use Prim.Native.Nat.{ℕ, suc, ◌-◌, ◌/◌}
use native.Mathlib.Omega.{arith}
use lib.ListN.{set}
use borrow.Author.Rules.{rules}
use Rattle.rows.specs.Laid.{last_cleared}
use Rattle.laid.proofs.inner.clear_last.Statement.{statement}
use Rattle.laid.proofs.inner.clear_last.Tie as tie

returns : tie.Need-returns-then-bits-eq0
returns c = search rules

sub-last : tie.Need-overflow_sub-last
sub-last c = search rules

mul-out : tie.Need-offset_bounds-out-last
mul-out c = search rules

slice-write-out : tie.Need-bounds-out-last
slice-write-out c = search rules

same_length : tie.Need-shape_of-out
same_length c = search rules

returns-2 : tie.Need-returns
returns-2 c =
    let a = c.before.args in
    let out = a.out.now in
    let e : a.bits ≡ suc (a.bits - 1) = omega arith in
    subst (λ (n : ℕ). set out ((a.bits - 1) / 64) 0 ≡ last_cleared n out) (sym e) refl

pub clear_last_spec : {M : Type 1} → statement M
clear_last_spec =
    tie.close (tie.spec returns sub-last mul-out slice-write-out same_length returns-2)
