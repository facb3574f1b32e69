-- `turns::inner::write_gap` meets its contract.
-- The row follows on and nothing is written, or it does not and two entries are stored. Assumes nothing.
use mathlib.Core.Path.{◌≡◌, sym, ap, ◌∙◌}
use mathlib.Core.List.{[], ◌∷◌}
use native.Mathlib.Omega.{arith}
use lib.ListN.{length, length-set}
use borrow.Author.Rules.{rules}
use Rattle.rows.specs.Rows.{splice}
use Rattle.rows.proofs.SpliceLaws.{splice_nil}
use Rattle.turns.specs.Gaps.{between}
use Rattle.turns.proofs.ListTurnLaws.{between_none, between_two, two_written}
use Rattle.turns.proofs.inner.write_gap.Statement.{statement}
use Rattle.turns.proofs.inner.write_gap.Tie as tie

two : (c : tie.Else-row-past) → between c.before.args.past c.before.args.row ≡ c.before.args.past ∷ c.before.args.row ∷ []
two c = between_two c.before.args.past c.before.args.row c.if-row-past.false

returns : tie.Need-returns-then-row-past
returns c =
    let a = c.before.args in
    let none = between_none a.past a.row c.if-row-past.true in
    (omega (arith, ap length none), sym (ap (splice a.k a.out.now) none ∙ splice_nil a.k a.out.now))

mul-out : tie.Need-offset_bounds-out-k
mul-out c = search rules

slice-write-out : tie.Need-bounds-out-k
slice-write-out c = omega (arith, ap length (two c))

add-out : tie.Need-overflow_add-out
add-out c = search rules

mul-out-2 : tie.Need-offset_bounds-out-k-2
mul-out-2 c = search rules

slice-write-out-2 : tie.Need-bounds-out-k-2
slice-write-out-2 c =
    let a = c.before.args in
    omega (arith, ap length (two c), length-set a.out.now a.k a.past)

add-result : tie.Need-overflow_add-result
add-result c = search rules

same_length : tie.Need-shape_of-out
same_length c = search rules

returns-2 : tie.Need-returns
returns-2 c =
    let a = c.before.args in (
      omega (arith, ap length (two c)),
      sym
          (ap (splice a.k a.out.now) (two c)
          ∙ two_written a.k a.past a.row a.out.now (omega (arith, ap length (two c)))),
    )

pub write_gap_spec : {M : Type 1} → statement M
write_gap_spec =
    tie.close
    (tie.spec
    returns
    mul-out
    slice-write-out
    add-out
    mul-out-2
    slice-write-out-2
    add-result
    same_length
    returns-2)
