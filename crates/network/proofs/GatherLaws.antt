-- The source bits of each byte: the set bits below it by one product, and the 8 digits of the source from there on.
-- By recursion over the bytes; no sum passes a byte. Assumes nothing.
use Rattle.std.proofs.Common.{◌≡◌, ℕ, zero, suc, ◌+◌, ◌*◌, ◌/◌, ◌%◌, ◌^◌, ◌<◌, ◌≤◌, sym, refl, ap, ◌∙◌, subst, ap₂, mul_assoc, add-mul, pow-suc, mul-one, mul-suc, mul-add, mul_right_comm, div-one, arith, pow-add, shr-shr}
use native.Mathlib.Nat.{mod-one, zero-div, add-mul-mod_self_right}
use lib.Arith.{mod-mul}
use lib.Count.{ones, ones-le}
use Rattle.network.specs.Lanes.{each2, each, before, gathered}

-- ---- a loop over the bytes, from the lowest
width_suc : (n : ℕ) → 2 ^ (8 * suc n) ≡ 2 ^ (8 * n) * 256
width_suc n = ap (λ (e : ℕ). 2 ^ e) (mul-suc 8 n) ∙ pow-add 2 (8 * n) 8

pub byte_suc : (x n : ℕ) → x / 256 / 2 ^ (8 * n) ≡ x / 2 ^ (8 * suc n)
byte_suc x n = shr-shr x 8 (8 * n) ∙ ap (λ (e : ℕ). x / 2 ^ e) (let e : 8 + 8 * n ≡ 8 * suc n = omega (arith, mul-suc 8 n) in e)

pub gathered_lt : (n s x : ℕ) → gathered n s x < 2 ^ (8 * n)
unfolding gathered
gathered_lt zero s x = omega arith
gathered_lt (suc n) s x = omega (arith, width_suc n, gathered_lt n s (x / 256))

regroup : (t p g v : ℕ) → (t * p + g) * 256 + v ≡ t * (p * 256) + (g * 256 + v)
regroup t p g v = let e : t * (p * 256) ≡ t * p * 256 = sym (mul_assoc t p 256) in omega arith

pub gathered_top : (n s x : ℕ) → gathered (suc n) s x ≡ (s / 2 ^ (x / 2 ^ (8 * n) % 256)) % 256 * 2 ^ (8 * n) + gathered n s x
unfolding gathered
gathered_top zero s x =
    let e : x / 1 ≡ x = div-one x in
    let f : s / 2 ^ (x / 1 % 256) ≡ s / 2 ^ (x % 256) = ap (λ (n : ℕ). s / 2 ^ (n % 256)) e in
    omega arith
gathered_top (suc n) s x =
    let v : ℕ = (s / 2 ^ (x % 256)) % 256 in
    let t : ℕ = (s / 2 ^ (x / 256 / 2 ^ (8 * n) % 256)) % 256 in
    ap (λ (g : ℕ). g * 256 + v) (gathered_top n s (x / 256)) ∙ regroup t (2 ^ (8 * n)) (gathered n s (x / 256)) v
    ∙ ap₂ (λ (p q : ℕ). p * q + (gathered n s (x / 256) * 256 + v)) (ap (λ (y : ℕ). (s / 2 ^ (y % 256)) % 256) (byte_suc x n)) (sym (width_suc n))

-- ---- the sums of the bytes of x, after a: each with its own byte, and each without
unfoldable pub incl : ℕ → ℕ → ℕ → ℕ
incl zero a x = zero
incl (suc n) a x = incl n (a + x % 256) (x / 256) * 256 + (a + x % 256)

unfoldable pub excl : ℕ → ℕ → ℕ → ℕ
excl zero a x = zero
excl (suc n) a x = excl n (a + x % 256) (x / 256) * 256 + a

-- no sum passes a byte
unfoldable pub Room : ℕ → ℕ → ℕ → Type 0
Room zero a x = a < 256
Room (suc n) a x = (a < 256) × Room n (a + x % 256) (x / 256)

room_here : (n a x : ℕ) → Room n a x → a < 256
unfolding Room
room_here zero a x r = r
room_here (suc n) a x r = r.0

-- 1 in each of n bytes
unfoldable pub unit : ℕ → ℕ
unit zero = zero
unit (suc n) = unit n * 256 + 1

unit_top : (n : ℕ) → unit n * 256 + 1 ≡ unit n + 256 ^ n
unfolding unit
unit_top zero = refl
unit_top (suc n) = let p : 256 ^ suc n ≡ 256 ^ n * 256 = pow-suc 256 n in omega (arith, unit_top n)

-- a remainder, byte by byte
mod_byte : (q p y : ℕ) → zero < p → y < 256 → (q * 256 + y) % (p * 256) ≡ (q % p) * 256 + y
mod_byte q p y hp hy =
    let e : (q * 256 + y) / 256 ≡ q = omega arith in
    let f : (q * 256 + y) % 256 ≡ y = omega arith in
    mod-mul (q * 256 + y) {m = p} {c = 256} hp (omega arith) ∙ ap₂ (λ (u v : ℕ). (u % p) * 256 + v) e f

pow_pos' : (n : ℕ) → zero < 256 ^ n
pow_pos' zero = omega arith
pow_pos' (suc n) = let p : 256 ^ suc n ≡ 256 ^ n * 256 = pow-suc 256 n in omega (arith, pow_pos' n)

-- (X * 256 + y) times the unit of one byte more
product : (X y u p : ℕ) → u * 256 + 1 ≡ u + p → (X * 256 + y) * (u * 256 + 1) ≡ ((X + y) * u + X * p) * 256 + y
product X y u p e =
    let a : (X * 256 + y) * (u * 256 + 1) ≡ X * 256 * (u * 256 + 1) + y * (u * 256 + 1) = add-mul (X * 256) y (u * 256 + 1) in
    let b : X * 256 * (u * 256 + 1) ≡ X * (u * 256 + 1) * 256 = mul_right_comm X 256 (u * 256 + 1) in
    let c : X * (u * 256 + 1) ≡ X * u + X * p = ap (λ (n : ℕ). X * n) e ∙ mul-add X u p in
    let d : y * (u * 256 + 1) ≡ y * u * 256 + y = mul-add y (u * 256) 1 ∙ ap₂ (λ (m n : ℕ). m + n) (sym (mul_assoc y u 256)) (mul-one y) in
    let f : (X + y) * u ≡ X * u + y * u = add-mul X y u in
    omega arith

pub incl_is : (n a x : ℕ) → Room n a x → ((x + a) * unit n) % 256 ^ n ≡ incl n a x
unfolding incl unit Room
incl_is zero a x r = mod-one ((x + a) * 0)
incl_is (suc n) a x r =
    let X : ℕ = x / 256 in
    let y : ℕ = a + x % 256 in
    let u : ℕ = unit n in
    let p : ℕ = 256 ^ n in
    let hy : y < 256 = room_here n y X r.1 in
    let whole : (x + a) * (u * 256 + 1) ≡ ((X + y) * u + X * p) * 256 + y =
    ap (λ (m : ℕ). m * (u * 256 + 1)) (let s : x + a ≡ X * 256 + y = omega arith in s) ∙ product X y u p (unit_top n) in
    ap₂ (λ (m d : ℕ). m % d) whole (pow-suc 256 n) ∙ mod_byte ((X + y) * u + X * p) p y (pow_pos' n) hy
    ∙ ap (λ (m : ℕ). m * 256 + y) (add-mul-mod_self_right ((X + y) * u) X p ∙ incl_is n y X r.1)

pub excl_is : (n a x : ℕ) → Room n a x → (incl n a x * 256 + a) % 256 ^ n ≡ excl n a x
unfolding incl excl Room
excl_is zero a x r = mod-one (0 * 256 + a)
excl_is (suc n) a x r =
    let X : ℕ = x / 256 in
    let y : ℕ = a + x % 256 in
    ap (λ (d : ℕ). ((incl n y X * 256 + y) * 256 + a) % d) (pow-suc 256 n) ∙ mod_byte (incl n y X * 256 + y) (256 ^ n) a (pow_pos' n) r.0
    ∙ ap (λ (m : ℕ). m * 256 + a) (excl_is n y X r.1)

module _ (n m : ℕ) where
  pub count_low : each ones (suc n) m % 256 ≡ ones (m % 256)
  unfolding each2
  count_low = let h : ones (m % 256) ≤ 8 = ones-le 8 (m % 256) (omega arith) in omega arith

  pub count_high : each ones (suc n) m / 256 ≡ each ones n (m / 256)
  unfolding each2
  count_high = let h : ones (m % 256) ≤ 8 = ones-le 8 (m % 256) (omega arith) in omega arith

pub room_counts : (n a m : ℕ) → a + 8 * n ≤ 64 → Room n a (each ones n m)
unfolding Room
room_counts zero a m h = omega arith
room_counts (suc n) a m h =
    let o : ones (m % 256) ≤ 8 = ones-le 8 (m % 256) (omega arith) in
    let k : 8 * suc n ≡ 8 * n + 8 = mul-suc 8 n in (
      omega arith,
      subst (λ (v : ℕ). Room n (a + v) (each ones (suc n) m / 256)) (sym (count_low n m))
          (subst (λ (v : ℕ). Room n (a + ones (m % 256)) v) (sym (count_high n m)) (room_counts n (a + ones (m % 256)) (m / 256) (omega arith))),
    )

-- the sums without each byte's own, at the counts of a mask
pub excl_before : (n a m : ℕ) → excl n a (each ones n m) ≡ before n a m
unfolding excl before
excl_before zero a m = refl
excl_before (suc n) a m =
    ap₂ (λ (u v : ℕ). excl n (a + u) v * 256 + a) (count_low n m) (count_high n m) ∙ ap (λ (u : ℕ). u * 256 + a) (excl_before n (a + ones (m % 256)) (m / 256))

-- each sum is below 64
pub before_small : (n a m : ℕ) → a + 8 * n ≤ 64 → (j : ℕ) → before n a m / 2 ^ (8 * j) % 256 < 64
unfolding before
before_small zero a m h j = let e : 0 / 2 ^ (8 * j) ≡ 0 = zero-div (2 ^ (8 * j)) in subst (λ (n : ℕ). n % 256 < 64) (sym e) (omega arith)
before_small (suc n) a m h zero =
    let k : 8 * suc n ≡ 8 * n + 8 = mul-suc 8 n in
    let z : ℕ = before n (a + ones (m % 256)) (m / 256) * 256 + a in
    subst (λ (v : ℕ). v % 256 < 64) (sym (div-one z)) (omega arith)
before_small (suc n) a m h (suc j) =
    let k : 8 * suc n ≡ 8 * n + 8 = mul-suc 8 n in
    let o : ones (m % 256) ≤ 8 = ones-le 8 (m % 256) (omega arith) in
    let y : ℕ = before n (a + ones (m % 256)) (m / 256) in
    let hi : (y * 256 + a) / 256 ≡ y = omega arith in
    subst (λ (v : ℕ). v % 256 < 64) (ap (λ (v : ℕ). v / 2 ^ (8 * j)) (sym hi) ∙ byte_suc (y * 256 + a) j)
    (before_small n (a + ones (m % 256)) (m / 256) (omega arith) j)

-- the source bits of each byte
unfoldable pub lows : ℕ → ℕ → ℕ → ℕ
lows zero s m = zero
lows (suc n) s m = lows n (s / 2 ^ ones (m % 256)) (m / 256) * 256 + s % 256

pub lows_lt : (n s m : ℕ) → lows n s m < 256 ^ n
unfolding lows
lows_lt zero s m = omega arith
lows_lt (suc n) s m = let p : 256 ^ suc n ≡ 256 ^ n * 256 = pow-suc 256 n in omega (arith, lows_lt n (s / 2 ^ ones (m % 256)) (m / 256))

pub gathered_lows : (n a s m : ℕ) → a + 8 * n ≤ 64 → gathered n s (before n a m) ≡ lows n (s / 2 ^ a) m
unfolding gathered lows before
gathered_lows zero a s m h = refl
gathered_lows (suc n) a s m h =
    let k : 8 * suc n ≡ 8 * n + 8 = mul-suc 8 n in
    let o : ones (m % 256) ≤ 8 = ones-le 8 (m % 256) (omega arith) in
    let y : ℕ = before n (a + ones (m % 256)) (m / 256) in
    let hi : (y * 256 + a) / 256 ≡ y = omega arith in
    let lo : (y * 256 + a) % 256 ≡ a = omega arith in
    ap₂ (λ (u v : ℕ). gathered n s u * 256 + (s / 2 ^ v) % 256) hi lo
    ∙ ap (λ (u : ℕ). u * 256 + (s / 2 ^ a) % 256) (gathered_lows n (a + ones (m % 256)) s (m / 256) (omega arith) ∙ ap (λ (u : ℕ). lows n u (m / 256)) (sym (shr-shr s a (ones (m % 256)))))
