-- `network::lanes::one_stage` meets its contract: what is left, what is packed and where it landed, in every byte.
-- Each operation acts on each byte by itself. Assumes nothing.
use Rattle.std.proofs.Common.{◌≡◌, ℕ, ◌-◌, ◌^◌, ◌<◌, ap, ◌∙◌, ap₂, inl, inr, arith, rules}
use lib.Bits.{bit_and, bit_xor}
use Rattle.network.specs.Lanes.{each, each2, parity8, down8, landed8}
use Rattle.network.proofs.NetworkLaws.{Length, landed_is, packed_is, zeros_is}
use Rattle.network.proofs.lanes.one_stage.Statement.{statement}
use Rattle.network.proofs.lanes.one_stage.Tie as tie

small : (k : ℕ) → Length k → k < 8
small k (inl e) = omega arith
small k (inr (inl e)) = omega arith
small k (inr (inr e)) = omega arith

parity-requires : tie.Need-parity-p-requires
parity-requires c κs = search rules

down-requires : tie.Need-down-landed-requires
down-requires c κs = small c.before.args.shift c.before.requires

down-requires-2 : tie.Need-down-requires
down-requires-2 c κs = small c.before.before.args.shift c.before.before.requires

returns : tie.Need-returns
returns c =
    let start = c.before.before.before in
    let z : ℕ = start.args.zeros in
    let q : ℕ = start.args.packed in
    let k : ℕ = start.args.shift in
    let hz : z < 2 ^ 64 = start.ranges.zeros.fits in
    let hq : q < 2 ^ 64 = start.ranges.packed.fits in
    let p : c.before.before.parity-p.result ≡ each (parity8 k) 8 z = c.before.before.parity-p.ensures in
    let l : c.before.down-landed.result ≡ each2 (landed8 k) 8 z q =
    c.before.down-landed.ensures ∙ ap (λ (n : ℕ). each (down8 k) 8 (bit_and q n)) p ∙ landed_is k z q hz hq in (
      ap (bit_xor (bit_and z (2 ^ 64 - 1 - c.before.before.parity-p.result))) c.down.ensures
          ∙ ap (λ (n : ℕ). bit_xor (bit_and z (2 ^ 64 - 1 - n)) (each (down8 k) 8 (bit_and z (2 ^ 64 - 1 - n)))) p ∙ zeros_is k z q hz hq,
      ap₂ (λ (m n : ℕ). bit_xor q (bit_xor (bit_and q m) n)) p l ∙ packed_is k z q hz hq,
      l,
    )

pub one_stage_spec : {M : Type 1} → statement M
one_stage_spec = tie.close (tie.spec parity-requires down-requires down-requires-2 returns)
