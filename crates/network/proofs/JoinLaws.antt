-- The bytes of an extract joined: each goes to the count of the mask's set digits below it, and together they are the extract of the word.
-- By recursion over the bytes, from the split law. Assumes nothing.
use Rattle.std.proofs.Common.{◌≡◌, ℕ, zero, suc, ◌+◌, ◌*◌, ◌/◌, ◌%◌, ◌^◌, ◌<◌, ◌≤◌, sym, refl, ap, ◌∙◌, ap₂, add-zero, mod-lt, zero-add, mul-suc, div-one, arith, pow_pos, shl_exact}
use lib.Pow.{mod-pow-add}
use lib.Bits.{bit_or, or_shifted_r}
use lib.Count.{ones, ones_in, ones_cat, ones-le}
use Rattle.network.specs.Lanes.{each2, before, joined}
use Rattle.network.proofs.DealtLaws.{ones_low}
use Rattle.network.proofs.CollectedLaws.{collected, collected_lt, collected_fits, collected_low, collected_split, ones_in_le}
use Rattle.network.proofs.LaneLaws.{Bounded}
use Rattle.network.proofs.GatherLaws.{byte_suc}

-- byte j of what f gives
each2_byte : (f : ℕ → ℕ → ℕ) → Bounded f → (n x y j : ℕ) → j < n → each2 f n x y / 2 ^ (8 * j) % 256 ≡ f (x / 2 ^ (8 * j) % 256) (y / 2 ^ (8 * j) % 256)
unfolding each2
each2_byte f hf zero x y j h = absurd (omega arith)
each2_byte f hf (suc n) x y zero h =
    let v : ℕ = f (x % 256) (y % 256) in
    let l : v < 256 = hf (x % 256) (y % 256) (omega arith) (omega arith) in
    let z : ℕ = each2 f n (x / 256) (y / 256) in
    let lo : (z * 256 + v) % 256 ≡ v = omega arith in
    ap (λ (u : ℕ). u % 256) (div-one (z * 256 + v)) ∙ lo ∙ sym (ap₂ (λ (p q : ℕ). f (p % 256) (q % 256)) (div-one x) (div-one y))
each2_byte f hf (suc n) x y (suc j) h =
    let v : ℕ = f (x % 256) (y % 256) in
    let l : v < 256 = hf (x % 256) (y % 256) (omega arith) (omega arith) in
    let z : ℕ = each2 f n (x / 256) (y / 256) in
    let hi : (z * 256 + v) / 256 ≡ z = omega arith in
    ap (λ (u : ℕ). u % 256) (sym (byte_suc (z * 256 + v) j)) ∙ ap (λ (u : ℕ). u / 2 ^ (8 * j) % 256) hi ∙ each2_byte f hf n (x / 256) (y / 256) j (omega arith)
    ∙ ap₂ (λ (p q : ℕ). f (p % 256) (q % 256)) (byte_suc x j) (byte_suc y j)

-- the set digits of a run, and of the rest
ones_in_split : (j k m : ℕ) → ones_in (j + k) m ≡ ones_in j (m / 2 ^ k) + ones_in k m
ones_in_split j k m =
    ones_low (j + k) m ∙ ap ones (mod-pow-add m j k) ∙ ones_cat k (m / 2 ^ k % 2 ^ j) (m % 2 ^ k) (mod-lt m (pow_pos k))
    ∙ ap₂ (λ (u v : ℕ). u + v) (sym (ones_low j (m / 2 ^ k))) (sym (ones_low k m))

-- byte j of the sums below each byte
before_byte : (n a m j : ℕ) → j < n → a + 8 * n ≤ 64 → before n a m / 2 ^ (8 * j) % 256 ≡ a + ones_in (8 * j) m
unfolding before ones_in
before_byte zero a m j h l = absurd (omega arith)
before_byte (suc n) a m zero h l =
    let k : 8 * suc n ≡ 8 * n + 8 = mul-suc 8 n in
    let z : ℕ = before n (a + ones (m % 256)) (m / 256) * 256 + a in
    let lo : z % 256 ≡ a = omega arith in
    ap (λ (u : ℕ). u % 256) (div-one z) ∙ lo ∙ sym (add-zero a)
before_byte (suc n) a m (suc j) h l =
    let k : 8 * suc n ≡ 8 * n + 8 = mul-suc 8 n in
    let o : ones (m % 256) ≤ 8 = ones-le 8 (m % 256) (omega arith) in
    let y : ℕ = before n (a + ones (m % 256)) (m / 256) in
    let hi : (y * 256 + a) / 256 ≡ y = omega arith in
    let i : y / 2 ^ (8 * j) % 256 ≡ a + ones (m % 256) + ones_in (8 * j) (m / 256) =
    before_byte n (a + ones (m % 256)) (m / 256) j (omega arith) (omega arith) in
    let c : ones_in (8 * suc j) m ≡ ones_in (8 * j) (m / 256) + ones (m % 256) =
    ap (λ (n : ℕ). ones_in n m) (mul-suc 8 j) ∙ ones_in_split (8 * j) 8 m ∙ ap (λ (n : ℕ). ones_in (8 * j) (m / 256) + n) (ones_low 8 m) in
    ap (λ (u : ℕ). u % 256) (sym (byte_suc (y * 256 + a) j)) ∙ ap (λ (u : ℕ). u / 2 ^ (8 * j) % 256) hi ∙ omega (arith, i, c)

pub joined_is : (n s m : ℕ) → n ≤ 8 → joined 64 n (each2 (λ a b. collected 8 a b) 8 s m) (before 8 0 m) ≡ collected (8 * n) s m
unfolding joined collected
joined_is zero s m h = refl
joined_is (suc n) s m h =
    let at : ℕ = 8 * n in
    let v : ℕ = collected 8 (s / 2 ^ at) (m / 2 ^ at) in
    let o : ℕ = ones_in at m in
    let p : each2 (λ a b. collected 8 a b) 8 s m / 2 ^ at % 256 ≡ v =
    each2_byte (λ a b. collected 8 a b) (λ a b ha hb. collected_fits 8 a b) 8 s m n (omega arith) ∙ collected_low 8 (s / 2 ^ at) (m / 2 ^ at) in
    let x : before 8 0 m / 2 ^ at % 256 ≡ o = before_byte 8 0 m n (omega arith) (omega arith) ∙ zero-add o in
    ap₂ (λ (u w : ℕ). bit_or (joined 64 n (each2 (λ a b. collected 8 a b) 8 s m) (before 8 0 m)) ((u * 2 ^ w) % 2 ^ 64)) p x
    ∙ ap₂ bit_or (joined_is n s m (omega arith)) (shl_exact {a = v} 8 o 64 (collected_fits 8 (s / 2 ^ at) (m / 2 ^ at)) (omega (arith, ones_in_le at m)))
    ∙ or_shifted_r v o (collected at s m) (collected_lt at s m) ∙ sym (collected_split at 8 s m) ∙ ap (λ (w : ℕ). collected w s m) (sym (mul-suc 8 n))
