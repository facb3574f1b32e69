-- `network::lanes::join` meets its contract. The invariant: the bytes so far. Assumes nothing.
use Rattle.std.proofs.Common.{◌≡◌, ℕ, ◌-◌, ◌*◌, ◌/◌, ◌%◌, ◌^◌, ◌≤◌, sym, refl, ap, ◌∙◌, ap₂, add-one, arith}
use lib.Bits.{bit_or, and_mask}
use Rattle.network.specs.Lanes.{joined}
use Rattle.network.proofs.lanes.join.Statement.{statement}
use Rattle.network.proofs.lanes.join.Tie as tie

abbrev invariant-loop : tie.invariant-loop-byte
invariant-loop packed to result₀ byte₀ result byte = (byte ≤ 8) × (result ≡ joined 64 byte packed to)

abbrev decreases-loop : tie.decreases-loop-byte
decreases-loop packed to result₀ byte₀ result byte = 8 - byte

loop-holds : tie.Need-loop-byte-init invariant-loop decreases-loop
unfolding joined
loop-holds c = (omega arith, refl)

mul-at : tie.Need-overflow_mul-at invariant-loop decreases-loop
mul-at c = omega arith

cast-at : tie.Need-overflow_cast-at invariant-loop decreases-loop
cast-at c = omega arith

shr-at : tie.Need-overflow_shr-at invariant-loop decreases-loop
shr-at c = omega arith

mul-result : tie.Need-overflow_mul-result invariant-loop decreases-loop
mul-result c = omega arith

cast-result : tie.Need-overflow_cast-result invariant-loop decreases-loop
cast-result c = omega arith

shr-result : tie.Need-overflow_shr-result invariant-loop decreases-loop
shr-result c = omega arith

shl-result : tie.Need-overflow_shl-result invariant-loop decreases-loop
shl-result c =
    let j : ℕ = c.before.loop-byte.byte in
    let t : ℕ = c.before.before.args.to in
    omega (arith, c.before.before.requires j, and_mask (t / 2 ^ (8 * j)) 8)

add-byte : tie.Need-overflow_step-byte invariant-loop decreases-loop
add-byte c = omega arith

loop-less : tie.Need-loop-byte-smaller invariant-loop decreases-loop
loop-less c = omega arith

loop-again : tie.Need-loop-byte-preserved invariant-loop decreases-loop
unfolding joined
loop-again c =
    let at = c.before.loop-byte in
    let j : ℕ = at.byte in
    let p : ℕ = c.before.before.args.packed in
    let t : ℕ = c.before.before.args.to in (
      omega arith,
      ap₂ (λ (m n : ℕ). bit_or at.result ((m * 2 ^ n) % 2 ^ 64)) (and_mask (p / 2 ^ (8 * j)) 8) (and_mask (t / 2 ^ (8 * j)) 8)
          ∙ ap (λ (r : ℕ). bit_or r ((p / 2 ^ (8 * j) % 256 * 2 ^ (t / 2 ^ (8 * j) % 256)) % 2 ^ 64)) at.invariant.1
          ∙ ap (λ (n : ℕ). joined 64 n p t) (sym (add-one j)),
    )

returns : tie.Need-returns invariant-loop decreases-loop
returns c =
    let at = c.before.loop-byte in
    let e : at.byte ≡ 8 = omega arith in
    at.invariant.1 ∙ ap (λ (n : ℕ). joined 64 n c.before.before.args.packed c.before.before.args.to) e

pub join_spec : {M : Type 1} → statement M
join_spec =
    tie.close
    (tie.spec
    invariant-loop
    decreases-loop
    loop-holds
    mul-at
    cast-at
    shr-at
    mul-result
    cast-result
    shr-result
    shl-result
    add-byte
    loop-less
    loop-again
    returns)
