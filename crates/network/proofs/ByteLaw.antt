-- One byte of the network gives the deposit on 8 digits.
-- By a test that antt computes at each of the 256 mask bytes: the stages pack the mask byte's bits at its low end, and undoing them deposits
-- each source that it has room for. This is no instance of a law over the width: three stages, by 1, 2 and 4, move a bit by at most 7, which
-- is what a byte needs, so the width goes with the number of stages, and the code has no other network. Assumes nothing.
use Rattle.std.proofs.Common.{◌≡◌, ℕ, ◌-◌, ◌%◌, ◌^◌, ◌<◌, Bool, T, eqb, ap, ◌∙◌, mod-lt, eqb→eq, pow_pos}
use lib.Bits.{bit_and, and_mask}
use lib.Count.{ones, ones_in}
use Rattle.network.specs.Lanes.{parity8, parity_from, zeros8, landed8, packed8, zeros_at, packed_at, landed_at, undo}
use Rattle.network.proofs.DealtLaws.{dealt, dealt_room}
use Rattle.rows.proofs.EveryBelow.{both, both_left, both_right, all_below, at_below}

abbrev pub net : ℕ → ℕ → ℕ → ℕ → ℕ → ℕ
net l₀ l₁ l₂ b r = bit_and (undo 8 1 l₀ (undo 8 2 l₁ (undo 8 4 l₂ r))) b

-- the test at the mask byte b, of c set bits, whose stages land at l₀, l₁ and l₂ and leave p
test : ℕ → ℕ → ℕ → ℕ → ℕ → ℕ → Bool
test c l₀ l₁ l₂ p b = both (eqb p (2 ^ c - 1)) (all_below (2 ^ c) (λ s. eqb (net l₀ l₁ l₂ b s) (dealt 8 s b)))

test_at : ℕ → Bool
test_at b = test (ones b) (landed_at 0 b) (landed_at 1 b) (landed_at 2 b) (packed_at 3 b) b

passed : T (all_below 256 test_at)
unfolding test_at test ones ones_in dealt parity8 parity_from zeros8 landed8 packed8 zeros_at packed_at landed_at
passed = tt

-- what the test says
passes : (c l₀ l₁ l₂ p b : ℕ) → T (test c l₀ l₁ l₂ p b) → (p ≡ 2 ^ c - 1) × ((s : ℕ) → s < 2 ^ c → net l₀ l₁ l₂ b s ≡ dealt 8 s b)
unfolding test
passes c l₀ l₁ l₂ p b t =
    let f : ℕ → Bool = λ s. eqb (net l₀ l₁ l₂ b s) (dealt 8 s b) in
    let e : Bool = eqb p (2 ^ c - 1) in
    let a : Bool = all_below (2 ^ c) f in
    (eqb→eq p (2 ^ c - 1) (both_left e a t), λ s h. eqb→eq (net l₀ l₁ l₂ b s) (dealt 8 s b) (at_below (2 ^ c) f (both_right e a t) s h))

-- the network on one byte is the deposit on 8 digits
pub byte_law : (a b : ℕ) → b < 256 → net (landed_at 0 b) (landed_at 1 b) (landed_at 2 b) b (bit_and a (packed_at 3 b)) ≡ dealt 8 a b
unfolding test_at
byte_law a b h =
    let q = passes (ones b) (landed_at 0 b) (landed_at 1 b) (landed_at 2 b) (packed_at 3 b) b (at_below 256 test_at passed b h) in
    let room : bit_and a (packed_at 3 b) ≡ a % 2 ^ ones b = ap (bit_and a) q.0 ∙ and_mask a (ones b) in
    ap (net (landed_at 0 b) (landed_at 1 b) (landed_at 2 b) b) room ∙ q.1 (a % 2 ^ ones b) (mod-lt a (pow_pos (ones b))) ∙ dealt_room 8 a b h
