-- `network::lanes::parity` meets its contract. The invariant: the parity of p from len on is what is asked. Assumes nothing.
use Rattle.std.proofs.Common.{◌≡◌, ℕ, ◌-◌, ◌*◌, ◌%◌, ◌^◌, ◌<◌, ◌≤◌, ◌⊎◌, sym, refl, ap, ◌∙◌, ap₂, inl, inr, ⊎_elim, mod-eq_of_lt, arith}
use lib.Bits.{bit_xor, xor_lt}
use Rattle.network.specs.Lanes.{each, parity8, up8}
use Rattle.network.proofs.NetworkLaws.{Length, parity_turn, parity_last}
use Rattle.network.proofs.lanes.parity.Statement.{statement}
use Rattle.network.proofs.lanes.parity.Tie as tie

small : (k : ℕ) → Length k → 8 ≤ k → ⊥
small k (inl e) h = omega arith
small k (inr (inl e)) h = omega arith
small k (inr (inr e)) h = omega arith

below_eight : (k : ℕ) → Length k ⊎ (k ≡ 8) → k < 8 → Length k
below_eight k (inl l) h = l
below_eight k (inr e) h = absurd (omega arith)

-- the next length: the measure falls, it is one of the lengths or 8, and nothing is shifted out
doubled : (k : ℕ) → Length k → (8 - (k * 2) % 2 ^ 32 < 8 - k) × (Length ((k * 2) % 2 ^ 32) ⊎ ((k * 2) % 2 ^ 32 ≡ 8)) × ((k * 2) % 2 ^ 32 ≡ k * 2)
doubled k (inl e) = let m : (k * 2) % 2 ^ 32 ≡ k * 2 = mod-eq_of_lt (omega arith) in (omega arith, inl (inr (inl (omega arith))), m)
doubled k (inr (inl e)) = let m : (k * 2) % 2 ^ 32 ≡ k * 2 = mod-eq_of_lt (omega arith) in (omega arith, inl (inr (inr (omega arith))), m)
doubled k (inr (inr e)) = let m : (k * 2) % 2 ^ 32 ≡ k * 2 = mod-eq_of_lt (omega arith) in (omega arith, inr (omega arith), m)

abbrev invariant-loop : tie.invariant-loop-len
invariant-loop zeros shift p₀ len₀ p len = (p < 2 ^ 64) × (Length len ⊎ (len ≡ 8)) × (each (parity8 len) 8 p ≡ each (parity8 shift) 8 zeros)

abbrev decreases-loop : tie.decreases-loop-len
decreases-loop zeros shift p₀ len₀ p len = 8 - len

loop-holds : tie.Need-loop-len-init invariant-loop decreases-loop
loop-holds c = (c.ranges.zeros.fits, inl c.requires, refl)

up-requires : tie.Need-up-p-requires invariant-loop decreases-loop
up-requires c κs = omega arith

loop-less : tie.Need-loop-len-smaller invariant-loop decreases-loop
loop-less c =
    let at = c.before.before.loop-len in
    (doubled at.len (below_eight at.len at.invariant.1 (omega arith))).0

loop-again : tie.Need-loop-len-preserved invariant-loop decreases-loop
loop-again c =
    let at = c.before.before.loop-len in
    let l : Length at.len = below_eight at.len at.invariant.1 (omega arith) in
    let d = doubled at.len l in
    let e : bit_xor at.p c.up-p.result ≡ bit_xor at.p (each (up8 at.len) 8 at.p) = ap (bit_xor at.p) c.up-p.ensures in (
      xor_lt 64 at.p c.up-p.result at.invariant.0 (omega arith),
      d.1,
      ap₂ (λ (k n : ℕ). each (parity8 k) 8 n) d.2 e ∙ parity_turn at.p at.len at.invariant.0 l ∙ at.invariant.2,
    )

returns : tie.Need-returns invariant-loop decreases-loop
returns c =
    let at = c.before.loop-len in
    let e : at.len ≡ 8 = ⊎_elim (λ (l : Length at.len). absurd (small at.len l (omega arith))) (λ (e : at.len ≡ 8). e) at.invariant.1 in
    sym (parity_last at.p at.invariant.0) ∙ ap (λ (k : ℕ). each (parity8 k) 8 at.p) (sym e) ∙ at.invariant.2

pub parity_spec : {M : Type 1} → statement M
parity_spec =
    tie.close (tie.spec invariant-loop decreases-loop loop-holds up-requires loop-less loop-again returns)
