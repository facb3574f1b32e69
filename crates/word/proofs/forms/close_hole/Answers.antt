-- `word::forms::close_hole` meets its contract.
-- The hole's wrapping minus one is the digits below the hole.
use Rattle.std.proofs.Common.{◌≡◌, ℕ, ◌+◌, ◌-◌, ◌/◌, ◌%◌, ◌^◌, ap, ◌∙◌, ap₂, arith}
use lib.Bits.{bit_and, bit_or, bit_xor}
use Rattle.network.specs.Lowest.{closed, without_lowest}
use Rattle.network.proofs.LowestLaws.{xor_low}
use Rattle.word.proofs.HoleLaws.{under, below_hole}
use Rattle.word.proofs.CloseLaws.{closed_is}
use Rattle.word.proofs.forms.close_hole.Goals as goal

pub returns : goal.returns
returns c =
    let s : ℕ = c.args.source in
    let h : ℕ = c.args.holes in
    let below : ℕ = (c.lowest-hole.result + (2 ^ 64 - 1)) % 2 ^ 64 in
    let b : below ≡ under 64 h = below_hole h below (omega arith) (omega arith) in
    let moved : bit_or (bit_and s below) (bit_and (s / 2) (2 ^ 64 - 1 - below)) ≡ closed 64 h s =
    ap (λ (n : ℕ). bit_or (bit_and s n) (bit_and (s / 2) (2 ^ 64 - 1 - n))) b ∙ closed_is 64 h s c.ranges.source.fits in
    let left : bit_xor h c.lowest-hole.result / 2 ≡ without_lowest 64 h / 2 =
    ap (λ (n : ℕ). n / 2) (ap (bit_xor h) c.lowest-hole.ensures ∙ xor_low 64 h c.ranges.holes.fits) in
    ap₂ (λ (x y : ℕ). record { source = x; holes = y }) moved left
