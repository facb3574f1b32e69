-- `mask::list::copy_list` meets its contract: the rows are copied over the front of `out`.
-- By the law of one row more. Assumes nothing.
use Rattle.std.proofs.Common.{ℕ, List, refl, sym, ap, ap₂, ◌∙◌, arith, length-set}
use Rattle.std.proofs.Math.ListN.{get_or, set}
use native.Mathlib.Nat.{zero-add}
use native.Mathlib.Numerals.{add-one}
use lib.Seq.{take_all}
use Rattle.rows.specs.Rows.{splice}
use Rattle.rows.proofs.SpliceLaws.{splice_nil, splice_turn}
use Rattle.mask.proofs.list.copy_list.Goals as goal

pub loop-i-init : goal.loop-i-init
loop-i-init c = (refl, sym (splice_nil 0 c.args.out.now))

pub loop-i-preserved : goal.loop-i-preserved
loop-i-preserved c =
    let a = c.args in
    let l = c.loop-i in
    let y = get_or a.rows.now l.i 0 in (
      length-set l.out l.i y ∙ l.invariant.0,
      rw (add-one l.i) (ap₂ (λ (o : List ℕ) (k : ℕ). set o k y) l.invariant.1 (sym (zero-add l.i)) ∙ splice_turn 0 a.out.now a.rows.now l.i 0 (omega arith)),
    )

pub returns : goal.returns
returns c =
    let a = c.args in
    let l = c.loop-i in
    l.invariant.1 ∙ ap (splice 0 a.out.now) (take_all l.i a.rows.now (omega arith))
