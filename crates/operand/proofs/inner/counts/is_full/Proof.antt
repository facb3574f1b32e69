-- `operand::inner::counts::is_full` meets its contract: the first return is the definition's first test, the second its second.
-- By what `length_of` ensures. Assumes nothing.
use mathlib.Core.Path.{◌≡◌, sym, ap, ◌∙◌}
use mathlib.Core.Bool.{Bool, ◌&&◌}
use native.Mathlib.Omega.{arith}
use lib.Dec.{eqb}
use borrow.Author.Tests.{lt-ltb, le-ltb}
use borrow.Author.Rules.{rules}
use Rattle.rules.specs.Operand.{length_of}
use Rattle.operand.proofs.inner.counts.is_full.Statement.{statement}
use Rattle.operand.proofs.inner.counts.is_full.Tie as tie

length-of-requires : tie.Need-length_of-length-requires
length-of-requires c κs = search rules

returns : tie.Need-returns-then-length-eq0
returns c =
    let o = c.before.before.args.operand in
    let none : length_of o.form ≡ 0 = sym c.before.length_of-length.ensures ∙ c.if-length-eq0.true in
    sym (ap (λ (b : Bool). b && eqb o.count (length_of o.form)) (le-ltb 0 (length_of o.form) (omega arith)))

returns-2 : tie.Need-returns
returns-2 c =
    let o = c.before.before.before.args.operand in
    let long = c.before.before.length_of-length.ensures in
    ap (eqb o.count) long
    ∙ sym (ap (λ (b : Bool). b && eqb o.count (length_of o.form)) (lt-ltb 0 (length_of o.form) (omega (arith, long, c.before.if-length-eq0.false))))

pub is_full_spec : {M : Type 1} → statement M
is_full_spec = tie.close (tie.spec length-of-requires returns returns-2)
