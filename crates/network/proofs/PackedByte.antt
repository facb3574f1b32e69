-- One byte of the network, its stages done, gives the extract on 8 digits.
-- By a test that antt computes at each of the 256 mask bytes: the stages pack each deposit into it to its source. What a source byte has at the
-- mask's bits is the deposit of its extract. As for the deposit (ByteLaw), the width goes with the number of stages. Assumes nothing.
use Rattle.std.proofs.Common.{◌≡◌, ℕ, ◌^◌, ◌<◌, Bool, T, eqb, sym, ap, ◌∙◌, subst, mod-eq_of_lt, eqb→eq}
use lib.Bits.{bit_and}
use lib.Count.{ones, ones_in}
use Rattle.network.specs.Lanes.{parity8, parity_from, zeros8, landed8, packed8, zeros_at, packed_at, landed_at, move}
use Rattle.network.proofs.DealtLaws.{dealt, ones_low}
use Rattle.network.proofs.CollectedLaws.{collected, collected_lt, dealt_collected}
use Rattle.rows.proofs.EveryBelow.{all_below, at_below}

abbrev pub packing : ℕ → ℕ → ℕ → ℕ → ℕ
packing l₀ l₁ l₂ r = move 8 4 l₂ (move 8 2 l₁ (move 8 1 l₀ r))

-- the test at the mask byte b, of c set bits, whose stages land at l₀, l₁ and l₂
test : ℕ → ℕ → ℕ → ℕ → ℕ → Bool
test c l₀ l₁ l₂ b = all_below (2 ^ c) (λ s. eqb (packing l₀ l₁ l₂ (dealt 8 s b)) s)

test_at : ℕ → Bool
test_at b = test (ones b) (landed_at 0 b) (landed_at 1 b) (landed_at 2 b) b

passed : T (all_below 256 test_at)
unfolding test_at test ones ones_in dealt parity8 parity_from zeros8 landed8 packed8 zeros_at packed_at landed_at
passed = tt

-- what the test says
passes : (c l₀ l₁ l₂ b : ℕ) → T (test c l₀ l₁ l₂ b) → (s : ℕ) → s < 2 ^ c → packing l₀ l₁ l₂ (dealt 8 s b) ≡ s
unfolding test
passes c l₀ l₁ l₂ b t s h =
    eqb→eq (packing l₀ l₁ l₂ (dealt 8 s b)) s (at_below (2 ^ c) (λ (s : ℕ). eqb (packing l₀ l₁ l₂ (dealt 8 s b)) s) t s h)

-- the stages done on one byte are the extract on 8 digits
pub packed_byte : (a b : ℕ) → b < 256 → packing (landed_at 0 b) (landed_at 1 b) (landed_at 2 b) (bit_and a b) ≡ collected 8 a b
unfolding test_at
packed_byte a b h =
    let few : ones_in 8 b ≡ ones b = ones_low 8 b ∙ ap ones (mod-eq_of_lt h) in
    ap (packing (landed_at 0 b) (landed_at 1 b) (landed_at 2 b)) (sym (dealt_collected 8 a b h))
    ∙ passes (ones b) (landed_at 0 b) (landed_at 1 b) (landed_at 2 b) b (at_below 256 test_at passed b h) (collected 8 a b)
    (subst (λ (n : ℕ). collected 8 a b < 2 ^ n) few (collected_lt 8 a b))
