-- `word::forms::past_hole` meets its contract.
-- The hole's wrapping minus one is the digits below the hole.
use Rattle.std.proofs.Common.{◌≡◌, ℕ, ◌+◌, ◌-◌, ◌*◌, ◌%◌, ◌^◌, sym, ap, ◌∙◌, ap₂, add-zero, arith}
use lib.Bits.{bit_and, bit_or, bit_xor}
use Rattle.network.specs.Lowest.{past_hole, without_lowest}
use Rattle.network.proofs.LowestLaws.{xor_low}
use Rattle.word.proofs.HoleLaws.{under, below_hole, past_hole_is}
use Rattle.word.proofs.forms.past_hole.Goals as goal

pub returns : goal.returns
returns c =
    let s : ℕ = c.args.source in
    let h : ℕ = c.args.holes in
    let below : ℕ = (c.lowest-hole.result + (2 ^ 64 - 1)) % 2 ^ 64 in
    let b : below ≡ under 64 h = below_hole h below (omega arith) (omega arith) in
    let moved : bit_or (bit_and s below) (bit_and ((s * 2) % 2 ^ 64) (2 ^ 64 - 1 - below)) ≡ past_hole 64 h 0 s =
    ap (λ (n : ℕ). bit_or (bit_and s n) (bit_and ((s * 2) % 2 ^ 64) (2 ^ 64 - 1 - n))) b
    ∙ ap (λ (n : ℕ). bit_or (bit_and s (under 64 h)) (bit_and (n % 2 ^ 64) (2 ^ 64 - 1 - under 64 h))) (sym (add-zero (s * 2)))
    ∙ past_hole_is 64 h 0 s c.ranges.source.fits (omega arith) in
    let left : bit_xor h c.lowest-hole.result ≡ without_lowest 64 h = ap (bit_xor h) c.lowest-hole.ensures ∙ xor_low 64 h c.ranges.holes.fits in
    ap₂ (λ (x y : ℕ). record { source = x; holes = y }) moved left
