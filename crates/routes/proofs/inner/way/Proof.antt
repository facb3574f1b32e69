-- `routes::inner::way` meets its contract: each return is a side of the definition's test.
-- By what `few` ensures of count and length. Assumes nothing.
use Prim.Native.Nat.{◌*◌}
use mathlib.Core.Path.{sym, ap, ◌∙◌}
use lib.Dec.{ltb}
use Rattle.routes.proofs.RouteLaws.{picked, passed}
use borrow.Author.Rules.{rules}
use Rattle.routes.proofs.inner.way.Statement.{statement}
use Rattle.routes.proofs.inner.way.Tie as tie

length-of-requires : tie.Need-length_of-requires
length-of-requires c κs = search rules

few-requires : tie.Need-few-requires
few-requires c κs = search rules

returns : tie.Need-returns-then-few
returns c =
    let f = c.before in
    let a = f.before.before.args in
    sym (picked _ _ (sym (f.few.ensures ∙ ap (ltb (a.factors.sparse * a.s.count)) f.before.length_of.ensures) ∙ c.if-few.true))

returns-2 : tie.Need-returns
returns-2 c =
    let f = c.before in
    let a = f.before.before.args in
    sym (passed _ _ (sym (f.few.ensures ∙ ap (ltb (a.factors.sparse * a.s.count)) f.before.length_of.ensures) ∙ c.if-few.false))

pub way_spec : {M : Type 1} → statement M
way_spec = tie.close (tie.spec length-of-requires few-requires returns returns-2)
