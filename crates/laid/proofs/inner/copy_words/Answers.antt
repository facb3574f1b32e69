-- `laid::inner::copy_words` meets its contract.
-- By the law of one word more.
use Rattle.std.proofs.Common.{ℕ, List, ◌+◌, refl, sym, ap, ◌∙◌, arith, length-set}
use Rattle.std.proofs.Math.ListN.{get_or, set}
use native.Mathlib.Numerals.{add-one}
use Rattle.rows.proofs.SpliceLaws.{splice_nil, splice_turn}
use Rattle.laid.proofs.inner.copy_words.Goals as goal

pub loop-i-init : goal.loop-i-init
loop-i-init c = (refl, sym (splice_nil c.args.first c.args.out.now))

pub loop-i-preserved : goal.loop-i-preserved
loop-i-preserved c =
    let a = c.args in
    let l = c.loop-i in
    let at = a.first + l.i in
    let w = get_or a.words.now l.i 0 in (
      length-set l.out at w ∙ l.invariant.0,
      rw (add-one l.i) (ap (λ (o : List ℕ). set o at w) l.invariant.1 ∙ splice_turn a.first a.out.now a.words.now l.i 0 (omega arith)),
    )
