-- `turns::inner::write_end` meets its contract.
-- No row is carried and nothing is written, or one is and the end is one store. Assumes nothing.
use mathlib.Core.Path.{sym, ap, ◌∙◌}
use native.Mathlib.Omega.{arith}
use lib.ListN.{length}
use Rattle.rows.specs.Rows.{splice}
use Rattle.rows.proofs.SpliceLaws.{splice_nil, splice_one}
use borrow.Author.Rules.{rules}
use Rattle.turns.proofs.WrittenLaws.{no_end, one_end}
use Rattle.turns.proofs.inner.write_end.Statement.{statement}
use Rattle.turns.proofs.inner.write_end.Tie as tie

returns : tie.Need-returns-then-carry-eq0
returns c =
    let a = c.before.args in
    sym (ap (splice a.k a.out.now) (no_end a.carry a.past c.if-carry-eq0.true) ∙ splice_nil a.k a.out.now)

mul-out : tie.Need-offset_bounds-out-k
mul-out c = search rules

slice-write-out : tie.Need-bounds-out-k
slice-write-out c =
    let a = c.before.args in
    omega (arith, ap length (one_end a.carry a.past (omega arith)))

same_length : tie.Need-shape_of-out
same_length c = search rules

returns-2 : tie.Need-returns
returns-2 c =
    let a = c.before.args in
    sym (ap (splice a.k a.out.now) (one_end a.carry a.past (omega arith)) ∙ splice_one a.k a.out.now a.past)

pub write_end_spec : {M : Type 1} → statement M
write_end_spec = tie.close (tie.spec returns mul-out slice-write-out same_length returns-2)
