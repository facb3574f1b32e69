-- `word::forms::deposit_two_holes` meets its contract: the holes are the mask's complement, so there are at most two.
-- Assumes nothing.
use Rattle.std.proofs.Common.{◌≡◌, ℕ, ◌+◌, ◌-◌, ◌^◌, ◌<◌, sym, ap, ◌∙◌, ap₂, arith, rules}
use lib.Bits.{bit_and}
use Rattle.network.specs.Lowest.{past_hole}
use Rattle.network.proofs.DealtLaws.{pdep_dealt}
use Rattle.word.proofs.HoleLaws.{two_holes, ones_comp}
use Rattle.word.proofs.forms.deposit_two_holes.Statement.{statement}
use Rattle.word.proofs.forms.deposit_two_holes.Tie as tie

past-hole-requires : tie.Need-past_hole-once-requires
past-hole-requires c κs = search rules

past-hole-requires-2 : tie.Need-past_hole-twice-requires
past-hole-requires-2 c κs = search rules

returns : tie.Need-returns
returns c =
    let start = c.before.before.before in
    let m : ℕ = start.args.mask in
    let s : ℕ = start.args.source in
    let l : m < 2 ^ 64 = start.ranges.mask.fits in
    let h : ℕ = 2 ^ 64 - 1 - m in
    let e : m + h + 1 ≡ 2 ^ 64 = omega arith in
    ap (λ (n : ℕ). bit_and n m)
    (ap (λ r. r.source) c.before.past_hole-twice.ensures
    ∙ ap₂ (λ (x y : ℕ). past_hole 64 x 0 y) (ap (λ r. r.holes) c.before.before.past_hole-once.ensures) (ap (λ r. r.source) c.before.before.past_hole-once.ensures))
    ∙ two_holes 64 s m h e (omega (arith, ones_comp 64 m h e, start.requires)) ∙ sym (pdep_dealt 64 s m)

pub deposit_two_holes_spec : {M : Type 1} → statement M
deposit_two_holes_spec = tie.close (tie.spec past-hole-requires past-hole-requires-2 returns)
