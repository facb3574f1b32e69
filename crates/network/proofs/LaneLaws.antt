-- Operations on a word that act on each byte by itself: bit operations, complement, masked shifts.
-- By recursion over the number of bytes, from the library's block laws. Assumes nothing.
use Rattle.std.proofs.Common.{◌≡◌, ℕ, zero, suc, ◌+◌, ◌-◌, ◌*◌, ◌/◌, ◌%◌, ◌^◌, ◌<◌, sym, refl, ap, ◌∙◌, subst, ap₂, lt_of_lt_of_le, lt_of_le_of_lt, mod-lt, mod-eq_of_lt, mul_assoc, add-mul, add_comm, pow-suc, zero-mul, mul_right_comm, arith, pow_pos, pow_mono, pow-add, shr-shr, shr_lt}
use lib.Arith.{digits_lt, digits_div}
use lib.Pow.{split, field, mod-mod-pow}
use lib.Bits.{bit_and, bit_or, bit_xor, and_block, or_block, xor_block, and_mod, and_high, and_le_r, and_zero_r}
use Rattle.network.specs.Lanes.{each2}

abbrev pub Bounded : (ℕ → ℕ → ℕ) → Type 0
Bounded f = (a b : ℕ) → a < 256 → b < 256 → f a b < 256

low : (n : ℕ) → n % 256 < 256
low n = omega arith

module _ (f : ℕ → ℕ → ℕ) (hf : Bounded f) where
  pub each2_lt : (n x y : ℕ) → each2 f n x y < 256 ^ n
  unfolding each2
  each2_lt zero x y = omega arith
  each2_lt (suc n) x y =
      let p : 256 ^ suc n ≡ 256 ^ n * 256 = pow-suc 256 n in omega (arith, each2_lt n (x / 256) (y / 256), hf (x % 256) (y % 256) (low x) (low y))

  -- a function of each byte of what f gives
  pub each2_comp : (h : ℕ → ℕ) (n x y : ℕ) → each2 (λ a b. h b) n (each2 f n x y) (each2 f n x y) ≡ each2 (λ a b. h (f a b)) n x y
  unfolding each2
  each2_comp h zero x y = refl
  each2_comp h (suc n) x y =
      let v : ℕ = f (x % 256) (y % 256) in
      let l : v < 256 = hf (x % 256) (y % 256) (low x) (low y) in
      let z : ℕ = each2 f n (x / 256) (y / 256) in
      let hi : (z * 256 + v) / 256 ≡ z = omega arith in
      let lo : (z * 256 + v) % 256 ≡ v = omega arith in
      ap₂ (λ (p q : ℕ). each2 (λ a b. h b) n p p * 256 + h q) hi lo ∙ ap (λ (p : ℕ). p * 256 + h v) (each2_comp h n (x / 256) (y / 256))

  -- the complement
  pub each2_not : (n x y : ℕ) → each2 f n x y + each2 (λ a b. 255 - f a b) n x y + 1 ≡ 256 ^ n
  unfolding each2
  each2_not zero x y = refl
  each2_not (suc n) x y =
      let p : 256 ^ suc n ≡ 256 ^ n * 256 = pow-suc 256 n in omega (arith, each2_not n (x / 256) (y / 256), hf (x % 256) (y % 256) (low x) (low y))

  module _ (g : ℕ → ℕ → ℕ) (hg : Bounded g) (op : ℕ → ℕ → ℕ)
      (block : (k a b r s : ℕ) → r < 2 ^ k → s < 2 ^ k → op (a * 2 ^ k + r) (b * 2 ^ k + s) ≡ op a b * 2 ^ k + op r s) (z : op 0 0 ≡ 0) where
    pub each2_op : (n x y : ℕ) → op (each2 f n x y) (each2 g n x y) ≡ each2 (λ a b. op (f a b) (g a b)) n x y
    unfolding each2
    each2_op zero x y = z
    each2_op (suc n) x y =
        block 8 (each2 f n (x / 256) (y / 256)) (each2 g n (x / 256) (y / 256)) (f (x % 256) (y % 256)) (g (x % 256) (y % 256)) (hf (x % 256) (y % 256) (low x) (low y)) (hg (x % 256) (y % 256) (low x) (low y))
        ∙ ap (λ (p : ℕ). p * 256 + op (f (x % 256) (y % 256)) (g (x % 256) (y % 256))) (each2_op n (x / 256) (y / 256))

pub each2_and : (f g : ℕ → ℕ → ℕ) → Bounded f → Bounded g → (n x y : ℕ) → bit_and (each2 f n x y) (each2 g n x y) ≡ each2 (λ a b. bit_and (f a b) (g a b)) n x y
each2_and f g hf hg = each2_op f hf g hg bit_and and_block refl

pub each2_or : (f g : ℕ → ℕ → ℕ) → Bounded f → Bounded g → (n x y : ℕ) → bit_or (each2 f n x y) (each2 g n x y) ≡ each2 (λ a b. bit_or (f a b) (g a b)) n x y
each2_or f g hf hg = each2_op f hf g hg bit_or or_block refl

pub each2_xor : (f g : ℕ → ℕ → ℕ) → Bounded f → Bounded g → (n x y : ℕ) → bit_xor (each2 f n x y) (each2 g n x y) ≡ each2 (λ a b. bit_xor (f a b) (g a b)) n x y
each2_xor f g hf hg = each2_op f hf g hg bit_xor xor_block refl

pub each2_ext : (f g : ℕ → ℕ → ℕ) → ((a b : ℕ) → a < 256 → b < 256 → f a b ≡ g a b) → (n x y : ℕ) → each2 f n x y ≡ each2 g n x y
unfolding each2
each2_ext f g e zero x y = refl
each2_ext f g e (suc n) x y = ap₂ (λ (p q : ℕ). p * 256 + q) (each2_ext f g e n (x / 256) (y / 256)) (e (x % 256) (y % 256) (low x) (low y))

-- a word is its own bytes
pub each2_snd : (n x y : ℕ) → y < 256 ^ n → each2 (λ a b. b) n x y ≡ y
unfolding each2
each2_snd zero x y h = omega arith
each2_snd (suc n) x y h = let p : 256 ^ suc n ≡ 256 ^ n * 256 = pow-suc 256 n in omega (arith, each2_snd n (x / 256) (y / 256) (omega arith))

pub each2_fst : (n x y : ℕ) → x < 256 ^ n → each2 (λ a b. a) n x y ≡ x
unfolding each2
each2_fst zero x y h = omega arith
each2_fst (suc n) x y h = let p : 256 ^ suc n ≡ 256 ^ n * 256 = pow-suc 256 n in omega (arith, each2_fst n (x / 256) (y / 256) (omega arith))

-- a function of the second word alone
pub each2_only : (f : ℕ → ℕ) (n x x' y : ℕ) → each2 (λ a b. f b) n x y ≡ each2 (λ a b. f b) n x' y
unfolding each2
each2_only f zero x x' y = refl
each2_only f (suc n) x x' y = ap (λ (p : ℕ). p * 256 + f (y % 256)) (each2_only f n (x / 256) (x' / 256) (y / 256))

-- the same number in each byte
pub each2_const : (c x y : ℕ) → c * 0x0101_0101_0101_0101 ≡ each2 (λ a b. c) 8 x y
unfolding each2
each2_const c x y = omega arith

scale : (a v p : ℕ) → (a * 256 + v) * p ≡ a * p * 256 + v * p
scale a v p = add-mul (a * 256) v p ∙ ap (λ (n : ℕ). n + v * p) (mul_right_comm a 256 p)

pub each2_scale : (f : ℕ → ℕ → ℕ) (p n x y : ℕ) → each2 f n x y * p ≡ each2 (λ a b. f a b * p) n x y
unfolding each2
each2_scale f p zero x y = zero-mul p
each2_scale f p (suc n) x y =
    scale (each2 f n (x / 256) (y / 256)) (f (x % 256) (y % 256)) p ∙ ap (λ (q : ℕ). q * 256 + f (x % 256) (y % 256) * p) (each2_scale f p n (x / 256) (y / 256))

-- ---- shifts, with a mask in each byte

-- digits above the mask do not count
pub and_trunc : (e n c : ℕ) → c < 2 ^ e → bit_and (n % 2 ^ e) c ≡ bit_and n c
and_trunc e n c h =
    let t : bit_and n c % 2 ^ e ≡ bit_and (n % 2 ^ e) (c % 2 ^ e) = and_mod n c e in
    ap (bit_and (n % 2 ^ e)) (sym (mod-eq_of_lt h)) ∙ sym t ∙ mod-eq_of_lt (lt_of_le_of_lt (and_le_r n c) h)

shift_swap : (z k : ℕ) → z / 2 ^ k / 256 ≡ z / 256 / 2 ^ k
shift_swap z k = shr-shr z k 8 ∙ ap (λ (e : ℕ). z / 2 ^ e) (add_comm k 8) ∙ sym (shr-shr z 8 k)

module _ (j k : ℕ) (e : j + k ≡ 8) where
  -- the byte of z / 2 ^ k that the mask c keeps is that of z
  kept : (z c : ℕ) → c < 2 ^ j → bit_and (z / 2 ^ k % 256) c ≡ bit_and (z % 256 / 2 ^ k) c
  kept z c h =
      let q : z / 2 ^ k % 256 % 2 ^ j ≡ z / 2 ^ k % 2 ^ j = ap (λ (w : ℕ). z / 2 ^ k % 2 ^ w % 2 ^ j) (sym (add_comm k j ∙ e)) ∙ mod-mod-pow (z / 2 ^ k) k j in
      let r : z % 256 / 2 ^ k ≡ z / 2 ^ k % 2 ^ j = ap (λ (w : ℕ). z % 2 ^ w / 2 ^ k) (sym e) ∙ field z j k in
      sym (and_trunc j (z / 2 ^ k % 256) c h) ∙ ap (λ (n : ℕ). bit_and n c) (q ∙ sym r)

  pub each2_shr : (f g : ℕ → ℕ → ℕ) → Bounded f → ((a b : ℕ) → a < 256 → b < 256 → g a b < 2 ^ j) → (n x y : ℕ)
      → bit_and (each2 f n x y / 2 ^ k) (each2 g n x y) ≡ each2 (λ a b. bit_and (f a b / 2 ^ k) (g a b)) n x y
  unfolding each2
  each2_shr f g hf hg zero x y = and_zero_r (0 / 2 ^ k)
  each2_shr f g hf hg (suc n) x y =
      let v : ℕ = f (x % 256) (y % 256) in
      let l : v < 256 = hf (x % 256) (y % 256) (low x) (low y) in
      let c : ℕ = g (x % 256) (y % 256) in
      let h : c < 2 ^ j = hg (x % 256) (y % 256) (low x) (low y) in
      let z' : ℕ = each2 f n (x / 256) (y / 256) in
      let c' : ℕ = each2 g n (x / 256) (y / 256) in
      let z : ℕ = z' * 256 + v in
      let hi : z / 256 ≡ z' = omega arith in
      let lo : z % 256 ≡ v = omega arith in
      let hc : c < 256 = lt_of_lt_of_le h (pow_mono {j = 8} (omega arith)) in
      ap (λ (n : ℕ). bit_and n (c' * 256 + c)) (sym (split (z / 2 ^ k) 8)) ∙ and_block 8 (z / 2 ^ k / 256) c' (z / 2 ^ k % 256) c (low (z / 2 ^ k)) hc
      ∙ ap₂ (λ (p q : ℕ). bit_and p c' * 256 + q) (shift_swap z k ∙ ap (λ (n : ℕ). n / 2 ^ k) hi) (kept z c h ∙ ap (λ (n : ℕ). bit_and (n / 2 ^ k) c) lo)
      ∙ ap (λ (p : ℕ). p * 256 + bit_and (v / 2 ^ k) c) (each2_shr f g hf hg n (x / 256) (y / 256))

  both : 2 ^ j * 2 ^ k ≡ 256
  both = sym (pow-add 2 j k) ∙ ap (λ (w : ℕ). 2 ^ w) e

  -- a byte moved up by k: what leaves it, and what stays
  moved : (v : ℕ) → v * 2 ^ k ≡ v / 2 ^ j * 256 + v % 2 ^ j * 2 ^ k
  moved v =
      ap (λ (n : ℕ). n * 2 ^ k) (sym (split v j)) ∙ add-mul (v / 2 ^ j * 2 ^ j) (v % 2 ^ j) (2 ^ k)
      ∙ ap (λ (n : ℕ). n + v % 2 ^ j * 2 ^ k) (mul_assoc (v / 2 ^ j) (2 ^ j) (2 ^ k) ∙ ap (λ (n : ℕ). v / 2 ^ j * n) both)

  stays_lt : (v c : ℕ) → c < 2 ^ k → v % 2 ^ j * 2 ^ k + c < 256
  stays_lt v c h = subst (λ (n : ℕ). v % 2 ^ j * 2 ^ k + c < n) both (digits_lt (mod-lt v (pow_pos j)) h)

  stays : (v : ℕ) → (v * 2 ^ k) % 256 ≡ v % 2 ^ j * 2 ^ k
  stays v =
      let s : v % 2 ^ j * 2 ^ k + 0 < 256 = stays_lt v 0 (pow_pos k) in
      let m : v * 2 ^ k ≡ v / 2 ^ j * 256 + v % 2 ^ j * 2 ^ k = moved v in
      omega arith

  high_part : (v c : ℕ) → c < 2 ^ k → bit_and (v % 2 ^ j * 2 ^ k + c) (256 - 2 ^ k) ≡ (v * 2 ^ k) % 256
  high_part v c h =
      ap (λ (w : ℕ). bit_and (v % 2 ^ j * 2 ^ k + c) (2 ^ w - 2 ^ k)) (sym e) ∙ and_high (v % 2 ^ j * 2 ^ k + c) j k
      ∙ ap (λ (n : ℕ). n % 2 ^ j * 2 ^ k) (digits_div (v % 2 ^ j) h) ∙ ap (λ (n : ℕ). n * 2 ^ k) (mod-eq_of_lt (mod-lt v (pow_pos j))) ∙ sym (stays v)

  out_lt : (v : ℕ) → v < 256 → v / 2 ^ j < 2 ^ k
  out_lt v h = shr_lt k j (subst (λ (n : ℕ). v < n) (ap (λ (w : ℕ). 2 ^ w) (sym (add_comm k j ∙ e))) h)

  pub each2_shl : (f : ℕ → ℕ → ℕ) → Bounded f → (n x y c : ℕ) → c < 2 ^ k
      → bit_and (each2 f n x y * 2 ^ k + c) (each2 (λ a b. 256 - 2 ^ k) n x y) ≡ each2 (λ a b. (f a b * 2 ^ k) % 256) n x y
  unfolding each2
  each2_shl f hf zero x y c h = and_zero_r (0 * 2 ^ k + c)
  each2_shl f hf (suc n) x y c h =
      let v : ℕ = f (x % 256) (y % 256) in
      let l : v < 256 = hf (x % 256) (y % 256) (low x) (low y) in
      let z : ℕ = each2 f n (x / 256) (y / 256) in
      let u : ℕ = each2 (λ a b. 256 - 2 ^ k) n (x / 256) (y / 256) in
      let o : ℕ = v / 2 ^ j in
      let s : ℕ = v % 2 ^ j * 2 ^ k + c in
      let sl : s < 256 = stays_lt v c h in
      let m : v * 2 ^ k ≡ o * 256 + v % 2 ^ j * 2 ^ k = moved v in
      let whole : (z * 256 + v) * 2 ^ k + c ≡ (z * 2 ^ k + o) * 256 + s = omega (arith, scale z v (2 ^ k)) in
      let ml : 256 - 2 ^ k < 256 = omega (arith, pow_pos k) in
      ap (λ (n : ℕ). bit_and n (u * 256 + (256 - 2 ^ k))) whole ∙ and_block 8 (z * 2 ^ k + o) u s (256 - 2 ^ k) sl ml
      ∙ ap₂ (λ (p q : ℕ). p * 256 + q) (each2_shl f hf n (x / 256) (y / 256) o (out_lt v l)) (high_part v c h)

-- a function of the first word alone, by the second
pub each2_first : (f : ℕ → ℕ) (n x y : ℕ) → each2 (λ a b. f b) n x x ≡ each2 (λ a b. f a) n x y
unfolding each2
each2_first f zero x y = refl
each2_first f (suc n) x y = ap (λ (p : ℕ). p * 256 + f (x % 256)) (each2_first f n (x / 256) (y / 256))

-- a function of the bytes of two words that are made so
pub each2_comp2 : (f g h : ℕ → ℕ → ℕ) → Bounded f → Bounded g → (n x y : ℕ) → each2 h n (each2 f n x y) (each2 g n x y) ≡ each2 (λ a b. h (f a b) (g a b)) n x y
unfolding each2
each2_comp2 f g h hf hg zero x y = refl
each2_comp2 f g h hf hg (suc n) x y =
    let v : ℕ = f (x % 256) (y % 256) in
    let u : ℕ = g (x % 256) (y % 256) in
    let l : v < 256 = hf (x % 256) (y % 256) (low x) (low y) in
    let m : u < 256 = hg (x % 256) (y % 256) (low x) (low y) in
    let z : ℕ = each2 f n (x / 256) (y / 256) in
    let q : ℕ = each2 g n (x / 256) (y / 256) in
    let zh : (z * 256 + v) / 256 ≡ z = omega arith in
    let zl : (z * 256 + v) % 256 ≡ v = omega arith in
    let qh : (q * 256 + u) / 256 ≡ q = omega arith in
    let ql : (q * 256 + u) % 256 ≡ u = omega arith in
    ap₂ (λ (i j : ℕ). each2 h n i j * 256 + h ((z * 256 + v) % 256) ((q * 256 + u) % 256)) zh qh
    ∙ ap₂ (λ (i j : ℕ). each2 h n z q * 256 + h i j) zl ql ∙ ap (λ (p : ℕ). p * 256 + h v u) (each2_comp2 f g h hf hg n (x / 256) (y / 256))
