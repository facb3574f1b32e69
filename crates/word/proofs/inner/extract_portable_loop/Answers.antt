-- `word::inner::extract_portable_loop` meets its contract.
-- A turn takes the mask's lowest set digit, so that one fewer is left; where none is left, nothing is left of the mask.
use Rattle.std.proofs.Common.{◌≡◌, ℕ, ◌^◌, ◌<◌, min, ⊎_elim, eq-zero-or-pos, ap, ◌∙◌, arith}
use lib.Bits.{bit_and}
use lib.Count.{ones}
use Rattle.network.proofs.LowestLaws.{and_pred, ones_clear, ones_zero}
use Rattle.word.proofs.CollectingLaws.{collecting_none, collecting_turn, collecting_end}
use Rattle.word.proofs.inner.extract_portable_loop.Goals as goal

-- a number is 0 where no digit is set
none : (m : ℕ) → m < 2 ^ 64 → ones m ≡ 0 → m ≡ 0
none m h e = ⊎_elim (λ (z : m ≡ 0). z) (λ (l : 0 < m). absurd (omega (arith, ones_clear 64 m h l))) (eq-zero-or-pos m)

pub loop-k-init : goal.loop-k-init
loop-k-init c = (collecting_none 64 c.args.source c.args.mask c.ranges.mask.fits, omega arith)

pub loop-k-preserved : goal.loop-k-preserved
loop-k-preserved c =
    let l = c.loop-k in
    let left : 0 < l.m = ⊎_elim (λ (z : l.m ≡ 0). absurd (omega (arith, ap ones z, ones_zero))) (λ (p : 0 < l.m). p) (eq-zero-or-pos l.m) in
    let given : c.any.result ≡ min (bit_and c.args.source _) 1 = c.any.ensures ∙ ap (λ (n : ℕ). min (bit_and c.args.source n) 1) c.lowest.ensures in (
      collecting_turn 64 _ _ _ l.m _ c.any.result left given l.invariant.0,
      omega (arith, l.invariant.1, ap ones (and_pred 64 l.m l.invariant.0.small left), ones_clear 64 l.m l.invariant.0.small left),
    )

pub returns : goal.returns
returns c =
    let l = c.loop-k in
    collecting_end 64 _ _ _ _ _ (none l.m l.invariant.0.small (omega arith)) l.invariant.0
