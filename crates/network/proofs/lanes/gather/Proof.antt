-- `network::lanes::gather` meets its contract. The invariant: the bytes so far. Assumes nothing.
use Rattle.std.proofs.Common.{◌≡◌, ℕ, ◌-◌, ◌*◌, ◌/◌, ◌%◌, ◌^◌, ◌<◌, ◌≤◌, sym, refl, ap, ◌∙◌, ap₂, add-one, arith, shl_exact}
use lib.Bits.{bit_and, bit_or, and_mask, or_shifted_r}
use Rattle.network.specs.Lanes.{gathered}
use Rattle.network.proofs.GatherLaws.{gathered_lt, gathered_top}
use Rattle.network.proofs.lanes.gather.Statement.{statement}
use Rattle.network.proofs.lanes.gather.Tie as tie

abbrev invariant-loop : tie.invariant-loop-byte
invariant-loop source from result₀ byte₀ result byte = (byte ≤ 8) × (result ≡ gathered byte source from)

abbrev decreases-loop : tie.decreases-loop-byte
decreases-loop source from result₀ byte₀ result byte = 8 - byte

loop-holds : tie.Need-loop-byte-init invariant-loop decreases-loop
unfolding gathered
loop-holds c = (omega arith, refl)

mul-at : tie.Need-overflow_mul-at invariant-loop decreases-loop
mul-at c = omega arith

cast-at : tie.Need-overflow_cast-at invariant-loop decreases-loop
cast-at c = omega arith

shr-at : tie.Need-overflow_shr-at invariant-loop decreases-loop
shr-at c = omega arith

shr-result : tie.Need-overflow_shr-result invariant-loop decreases-loop
shr-result c =
    let j : ℕ = c.before.loop-byte.byte in
    let f : ℕ = c.before.before.args.from in
    omega (arith, c.before.before.requires j, and_mask (f / 2 ^ (8 * j)) 8)

mul-result : tie.Need-overflow_mul-result invariant-loop decreases-loop
mul-result c = omega arith

cast-result : tie.Need-overflow_cast-result invariant-loop decreases-loop
cast-result c = omega arith

shl-result : tie.Need-overflow_shl-result invariant-loop decreases-loop
shl-result c = omega arith

add-byte : tie.Need-overflow_step-byte invariant-loop decreases-loop
add-byte c = omega arith

loop-less : tie.Need-loop-byte-smaller invariant-loop decreases-loop
loop-less c = omega arith

loop-again : tie.Need-loop-byte-preserved invariant-loop decreases-loop
loop-again c =
    let at = c.before.loop-byte in
    let j : ℕ = at.byte in
    let s : ℕ = c.before.before.args.source in
    let f : ℕ = c.before.before.args.from in
    let v : ℕ = (s / 2 ^ (f / 2 ^ (8 * j) % 256)) % 256 in
    let lt : v < 256 = omega arith in
    let e : bit_and (s / 2 ^ bit_and (f / 2 ^ (8 * j)) 255) 255 ≡ v = and_mask (s / 2 ^ bit_and (f / 2 ^ (8 * j)) 255) 8 ∙ ap (λ (n : ℕ). (s / 2 ^ n) % 256) (and_mask (f / 2 ^ (8 * j)) 8) in (
      omega arith,
      ap₂ (λ (m n : ℕ). bit_or m ((n * 2 ^ (8 * j)) % 2 ^ 64)) at.invariant.1 e ∙ ap (bit_or (gathered j s f)) (shl_exact {a = v} 8 (8 * j) 64 lt (omega arith))
          ∙ or_shifted_r v (8 * j) (gathered j s f) (gathered_lt j s f) ∙ sym (gathered_top j s f) ∙ ap (λ (n : ℕ). gathered n s f) (sym (add-one j)),
    )

returns : tie.Need-returns invariant-loop decreases-loop
returns c =
    let at = c.before.loop-byte in
    let e : at.byte ≡ 8 = omega arith in
    at.invariant.1 ∙ ap (λ (n : ℕ). gathered n c.before.before.args.source c.before.before.args.from) e

pub gather_spec : {M : Type 1} → statement M
gather_spec =
    tie.close
    (tie.spec
    invariant-loop
    decreases-loop
    loop-holds
    mul-at
    cast-at
    shr-at
    shr-result
    mul-result
    cast-result
    shl-result
    add-byte
    loop-less
    loop-again
    returns)
