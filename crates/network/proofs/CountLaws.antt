-- The counts of a word's bytes, all at once, as the code has them: of pairs of digits, of nibbles, of bytes.
-- By recursion over the number of lanes, from lanes of k digits to lanes of k + k for any k; no sum passes its lane. Assumes nothing.
use Rattle.std.proofs.Common.{◌≡◌, ℕ, zero, suc, ◌+◌, ◌-◌, ◌*◌, ◌/◌, ◌%◌, ◌^◌, ◌<◌, ◌≤◌, sym, refl, ap, ◌∙◌, ap₂, add-zero, mod-lt, mod-eq_of_lt, mul_assoc, add-mul, pow-suc, div-add-mod', arith, pow_pos, pow-add, shr-shr}
use native.Mathlib.Nat.{mod-le}
use lib.Arith.{digits_div, digits_mod}
use lib.Pow.{ones_lt, split, mod-pow-add}
use lib.Bits.{bit_and, and_block, and_mask, and_le_r, and_zero_r}
use lib.Count.{ones, ones_in, ones_cat, ones-le}
use Rattle.network.specs.Lanes.{each2, each, in_each}
use Rattle.network.proofs.DealtLaws.{ones_low}

-- in each of n lanes of k digits of x, the count of its set digits
unfoldable counted : ℕ → ℕ → ℕ → ℕ
counted k zero x = zero
counted k (suc n) x = counted k n (x / 2 ^ k) * 2 ^ k + ones (x % 2 ^ k)

-- the mask of the lower lane in each of n pairs of lanes of k digits
unfoldable lower : ℕ → ℕ → ℕ
lower k zero = zero
lower k (suc n) = (lower k n * 2 ^ k + 0) * 2 ^ k + (2 ^ k - 1)

abbrev twice : ℕ → ℕ
twice zero = zero
twice (suc n) = suc (suc (twice n))

-- ---- sums of numbers that are written by their digits to the base p
add_lanes : (a b p u v : ℕ) → (a * p * p + u) + (b * p * p + v) ≡ (a + b) * p * p + (v + u)
add_lanes a b p u v = omega (arith, ap (λ (n : ℕ). n * p) (add-mul a b p), add-mul (a * p) (b * p) p)

add_shifted : (z p h l : ℕ) → (z * p + h) * p + l + (z * p + h) ≡ ((z + z / p) * p + (z % p + h)) * p + (h + l)
add_shifted z p h l =
    let e : (z + z / p) * p + (z % p + h) ≡ z * p + h + z = omega (arith, add-mul z (z / p) p, div-add-mod' z p) in
    omega (arith, ap (λ (n : ℕ). n * p) e, add-mul (z * p + h) z p)

-- a lane holds its own count
holds : (k : ℕ) → k < 2 ^ k
holds zero = omega arith
holds (suc k) = omega (arith, holds k, pow-suc 2 k)

module _ (k : ℕ) where
  -- the mask on one pair of lanes, u above v
  kept : (z m u v : ℕ) → u < 2 ^ k → v < 2 ^ k → bit_and ((z * 2 ^ k + u) * 2 ^ k + v) ((m * 2 ^ k + 0) * 2 ^ k + (2 ^ k - 1)) ≡ bit_and z m * 2 ^ k * 2 ^ k + v
  kept z m u v hu hv =
      and_block k (z * 2 ^ k + u) (m * 2 ^ k + 0) v (2 ^ k - 1) hv (ones_lt k)
      ∙ ap₂ (λ (p q : ℕ). p * 2 ^ k + q)
      (and_block k z m u 0 hu (pow_pos k) ∙ ap (λ (p : ℕ). bit_and z m * 2 ^ k + p) (and_zero_r u) ∙ add-zero (bit_and z m * 2 ^ k))
      (and_mask v k ∙ mod-eq_of_lt hv)

  -- a lane of k + k digits has the counts of its two halves
  halves : (n x : ℕ) → counted (k + k) (suc n) x ≡ counted (k + k) n (x / 2 ^ k / 2 ^ k) * 2 ^ k * 2 ^ k + (ones (x / 2 ^ k % 2 ^ k) + ones (x % 2 ^ k))
  unfolding counted
  halves n x =
      ap₂ (λ (p q : ℕ). p + q)
      (ap₂ (λ (y p : ℕ). counted (k + k) n y * p) (sym (shr-shr x k k)) (pow-add 2 k k) ∙ sym (mul_assoc (counted (k + k) n (x / 2 ^ k / 2 ^ k)) (2 ^ k) (2 ^ k)))
      (ap ones (mod-pow-add x k k) ∙ ones_cat k (x / 2 ^ k % 2 ^ k) (x % 2 ^ k) (mod-lt x (pow_pos k)))

  count_le : (x : ℕ) → ones (x % 2 ^ k) ≤ k
  count_le x = ones-le k (x % 2 ^ k) (mod-lt x (pow_pos k))

  count_lt : (x : ℕ) → ones (x % 2 ^ k) < 2 ^ k
  count_lt x = omega (arith, count_le x, holds k)

  lowest_le : (n x : ℕ) → counted k n x % 2 ^ k ≤ k
  unfolding counted
  lowest_le zero x = omega (arith, mod-le 0 (2 ^ k))
  lowest_le (suc n) x = omega (arith, digits_mod (counted k n (x / 2 ^ k)) (count_lt x), count_le x)

  -- each lane and its neighbour, added
  neighbours : (n x : ℕ) → bit_and (counted k (twice n) x) (lower k n) + bit_and (counted k (twice n) x / 2 ^ k) (lower k n) ≡ counted (k + k) n x
  unfolding counted lower
  neighbours zero x = omega (arith, and_zero_r (0 / 2 ^ k))
  neighbours (suc n) x =
      let y : ℕ = x / 2 ^ k / 2 ^ k in
      let z : ℕ = counted k (twice n) y in
      let m : ℕ = lower k n in
      let h : ℕ = ones (x / 2 ^ k % 2 ^ k) in
      let l : ℕ = ones (x % 2 ^ k) in
      ap₂ (λ (p q : ℕ). p + q) (kept z m h l (count_lt (x / 2 ^ k)) (count_lt x))
      (ap (λ (c : ℕ). bit_and c (lower k (suc n))) (digits_div (z * 2 ^ k + h) (count_lt x) ∙ ap (λ (c : ℕ). c * 2 ^ k + h) (sym (split z k)))
      ∙ kept (z / 2 ^ k) m (z % 2 ^ k) h (mod-lt z (pow_pos k)) (count_lt (x / 2 ^ k)))
      ∙ add_lanes (bit_and z m) (bit_and (z / 2 ^ k) m) (2 ^ k) l h ∙ ap (λ (s : ℕ). s * 2 ^ k * 2 ^ k + (h + l)) (neighbours n y) ∙ sym (halves n x)

  -- where a lane holds the sum of two, the mask may come after the sum
  neighbours_fit : k + k < 2 ^ k → (n x : ℕ) → bit_and (counted k (twice n) x + counted k (twice n) x / 2 ^ k) (lower k n) ≡ counted (k + k) n x
  unfolding counted lower
  neighbours_fit f zero x = and_zero_r (0 + 0 / 2 ^ k)
  neighbours_fit f (suc n) x =
      let y : ℕ = x / 2 ^ k / 2 ^ k in
      let z : ℕ = counted k (twice n) y in
      let h : ℕ = ones (x / 2 ^ k % 2 ^ k) in
      let l : ℕ = ones (x % 2 ^ k) in
      ap (λ (c : ℕ). bit_and ((z * 2 ^ k + h) * 2 ^ k + l + c) (lower k (suc n))) (digits_div (z * 2 ^ k + h) (count_lt x))
      ∙ ap (λ (c : ℕ). bit_and c (lower k (suc n))) (add_shifted z (2 ^ k) h l)
      ∙ kept (z + z / 2 ^ k) (lower k n) (z % 2 ^ k + h) (h + l) (omega (arith, lowest_le (twice n) y, count_le (x / 2 ^ k))) (omega (arith, count_le x, count_le (x / 2 ^ k)))
      ∙ ap (λ (s : ℕ). s * 2 ^ k * 2 ^ k + (h + l)) (neighbours_fit f n y) ∙ sym (halves n x)

-- a pair of digits is its count and its upper digit
pairs : (n x : ℕ) → x < 4 ^ n → counted 2 n x + bit_and (x / 2) (lower 1 n) ≡ x
unfolding counted lower ones_in
pairs zero x h = omega (arith, and_zero_r (x / 2))
pairs (suc n) x h =
    let y : ℕ = x / 4 in
    let e : x / 2 ≡ (y / 2 * 2 + y % 2) * 2 + x / 2 % 2 = omega arith in
    let c : ones_in 2 x ≡ ones (x % 4) = ones_low 2 x in
    omega (arith, ap (λ (v : ℕ). bit_and v (lower 1 (suc n))) e, kept 1 (y / 2) (lower 1 n) (y % 2) (x / 2 % 2) (omega arith) (omega arith), pairs n y (omega (arith, pow-suc 4 n)))

bytes : (n x : ℕ) → counted 8 n x ≡ each ones n x
unfolding counted each2
bytes zero x = refl
bytes (suc n) x = ap (λ (p : ℕ). p * 256 + ones (x % 256)) (bytes n (x / 256))

-- ---- as the code has them, at its four masks
abbrev pub nib : ℕ → ℕ → ℕ → ℕ → ℕ
nib m k₁ k₂ k₃ = bit_and (m - bit_and (m / 2) k₁) k₂ + bit_and ((m - bit_and (m / 2) k₁) / 4) k₃

pub nib_lt : (m k₁ k₂ k₃ : ℕ) → k₂ ≡ in_each 8 0x33 → k₃ ≡ in_each 8 0x33 → nib m k₁ k₂ k₃ < 2 ^ 63
unfolding in_each
nib_lt m k₁ k₂ k₃ e₂ e₃ = omega (arith, and_le_r (m - bit_and (m / 2) k₁) k₂, and_le_r ((m - bit_and (m / 2) k₁) / 4) k₃)

pub counts_word : (m k₁ k₂ k₃ k₄ : ℕ) → m < 2 ^ 64 → k₁ ≡ in_each 8 0x55 → k₂ ≡ in_each 8 0x33 → k₃ ≡ in_each 8 0x33 → k₄ ≡ in_each 8 0x0f
    → bit_and (nib m k₁ k₂ k₃ + nib m k₁ k₂ k₃ / 16) k₄ ≡ each ones 8 m
unfolding in_each lower
counts_word m k₁ k₂ k₃ k₄ h e₁ e₂ e₃ e₄ =
    let p : m - bit_and (m / 2) k₁ ≡ counted 2 32 m = omega (arith, ap (bit_and (m / 2)) e₁, pairs 32 m h) in
    let n : nib m k₁ k₂ k₃ ≡ counted 4 16 m =
    ap₂ (λ (k l : ℕ). nib m k₁ k l) e₂ e₃ ∙ ap (λ (q : ℕ). bit_and q (lower 2 16) + bit_and (q / 4) (lower 2 16)) p ∙ neighbours 2 16 m in
    ap₂ (λ (q k : ℕ). bit_and (q + q / 16) k) n e₄ ∙ neighbours_fit 4 (omega arith) 8 m ∙ bytes 8 m
