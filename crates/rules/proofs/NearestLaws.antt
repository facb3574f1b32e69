-- A fraction, rounded: no value of the format is nearer to it. In units of the format's smallest value, rounding takes the nearest
-- multiple of the unit that it chose, and a value of the format that is no such multiple lies below all of them.
-- Assumes nothing.
use mathlib.Core.Path.{◌≡◌, refl, sym, ap, subst, ◌∙◌}
use mathlib.Core.Logic.{◌⊎◌, inl, inr}
use mathlib.Core.Bool.{Bool, not, false, ◌&&◌}
use Prim.Native.Nat.{ℕ, zero, suc, ◌+◌, ◌-◌, ◌*◌, ◌/◌, ◌%◌, ◌^◌, ◌≤◌, ◌<◌, compare, Ordering}
use native.Mathlib.Nat.{mul_assoc, mul_comm, mul-pos, mul-le-mul_right, mul-sub, sub-add_cancel, add-mul, suc-mul, mod-lt, div-add-mod', le_of_lt, lt_of_lt_of_le, le-div_iff_mul-le, zero-mul, mul-one, lt_irrefl}
use native.Mathlib.Decide.{dec_le}
use native.Mathlib.Omega.{arith}
use lib.IntN.{ℤ, pos, negsuc}
use lib.Dec.{T, is_le, compare_is_eq, eqb, ltb, leb, leb→le, nleb→lt, eqb→eq, ltb→lt}
use lib.Pow.{pow-add, pow_pos, pow_mono, pow-lt}
use lib.Ieee.{fin, Format, prec, emax, low, up, down, nearest, fits}
use lib.Ieee.Digits.{size_reaches}
use lib.Ieee.Fits.{and_l, and_r}
use lib.Ieee.Nearest.{closest}
use lib.Ieee.Order.{drop, kept}

-- how far two numbers are apart
abbrev pub far : ℕ → ℕ → ℕ
far a b = (a - b) + (b - a)

pub far_times : (a b c : ℕ) → far a b * c ≡ far (a * c) (b * c)
far_times a b c = simp (add-mul, sub_times)
  where
    sub_times : (x y : ℕ) → (x - y) * c ≡ x * c - y * c
    sub_times x y = mul_comm (x - y) c ∙ mul-sub c x y ∙ simp mul_comm

-- ---- the nearest multiple

-- the whole part of n / u where what is left is at most a half, the next number where it is at least a half
abbrev Side : ℕ → ℕ → ℕ → Type 0
Side n u k = ((k ≡ n / u) × (n % u * 2 ≤ u)) ⊎ ((k ≡ suc (n / u)) × (u ≤ n % u * 2))

closest_side : (n u : ℕ) → Side n u (closest n u)
closest_side n u = go (compare (n % u * 2) u) (leb→le (n % u * 2) u) (nleb→lt (n % u * 2) u) (eqb→eq (n % u * 2) u)
  where
    tie : (d : ℕ) → n / u % 2 ≡ d → d < 2 → n % u * 2 ≡ u → Side n u (n / u + d)
    tie zero e h q = inl (omega arith, omega arith)
    tie (suc zero) e h q = inr (omega arith, omega arith)
    tie (suc (suc d)) e h q = absurd (omega arith)

    go : (o : Ordering) → (T (is_le o) → n % u * 2 ≤ u) → (T (not (is_le o)) → u < n % u * 2) → (T (compare_is_eq o) → n % u * 2 ≡ u) → Side n u (nearest (n / u) o)
    go Ordering.lt h k e = inl (refl, h tt)
    go Ordering.eq h k e = tie (n / u % 2) refl (omega arith) (e tt)
    go Ordering.gt h k e = inr (refl, le_of_lt (k tt))

pub closest_nearest : (n u j : ℕ) → 0 < u → far (closest n u * u) n ≤ far (j * u) n
closest_nearest n u j U = go (closest_side n u) (dec_le j (n / u))
  where
    go : Side n u (closest n u) → Dec (j ≤ n / u) → far (closest n u * u) n ≤ far (j * u) n
    go (inl s) (yes h) = rw s.0 (omega (arith, div-add-mod' n u, mod-lt n U, mul-le-mul_right u h))
    go (inl s) (no h) = rw s.0 (let l : suc (n / u) ≤ j = omega (arith, h) in omega (arith, div-add-mod' n u, mod-lt n U, mul-le-mul_right u l, suc-mul (n / u) u))
    go (inr s) (yes h) = rw s.0 (omega (arith, div-add-mod' n u, mod-lt n U, mul-le-mul_right u h, suc-mul (n / u) u))
    go (inr s) (no h) = rw s.0 (let l : suc (n / u) ≤ j = omega (arith, h) in omega (arith, div-add-mod' n u, mod-lt n U, mul-le-mul_right u l, suc-mul (n / u) u))

-- ---- in units: n / den of them, rounded by a format of p digits

module _ (p n den : ℕ) (P : 0 < p) (D : 0 < den) where
  abbrev unit : ℕ
  unit = 2 ^ drop p n den

  abbrev rounded : ℕ
  rounded = kept p n den * unit

  multiple_nearest : (q : ℕ) → far (rounded * den) n ≤ far (q * unit * den) n
  multiple_nearest q =
      let times : (z : ℕ) → z * (den * unit) ≡ z * unit * den = λ z. ap (λ (y : ℕ). z * y) (mul_comm den unit) ∙ sym (mul_assoc z unit den) in
      rw (← times (kept p n den), ← times q) (closest_nearest n (den * unit) q (mul-pos D (pow_pos (drop p n den))))

  -- what is below a multiple that is no further than the fraction is further from it
  below_nearest : (q x : ℕ) → x ≤ q * unit → q * unit * den ≤ n → far (rounded * den) n ≤ far (x * den) n
  below_nearest q x h k = omega (arith, multiple_nearest q, mul-le-mul_right den h)

  -- where digits are dropped, 2 ^ (p - 1) of the unit are no further
  reached : 0 < drop p n den → 2 ^ (p - 1) * unit * den ≤ n
  reached h =
      (le-div_iff_mul-le D).0
      (subst (λ (z : ℕ). z ≤ n / den) (pow-add 2 (p - 1) (drop p n den)) (size_reaches (n / den) (p - 1 + drop p n den) (omega arith)))

  -- m * 2 ^ j units, with m of p digits: multiples of the unit, or below 2 ^ (p - 1) of it
  pub kept_nearest : (m j : ℕ) → m < 2 ^ p → far (rounded * den) n ≤ far (m * 2 ^ j * den) n
  kept_nearest m j small = go (dec_le (drop p n den) j)
    where
      go : Dec (drop p n den ≤ j) → far (rounded * den) n ≤ far (m * 2 ^ j * den) n
      go (yes h) =
          let k = drop p n den in
          let e : m * 2 ^ (j - k) * 2 ^ k ≡ m * 2 ^ j = mul_assoc m (2 ^ (j - k)) (2 ^ k) ∙ ap (λ (z : ℕ). m * z) (sym (pow-add 2 (j - k) k) ∙ ap (λ (z : ℕ). 2 ^ z) (sub-add_cancel h)) in
          rw (← e) (multiple_nearest (m * 2 ^ (j - k)))
      go (no h) =
          let k = drop p n den in
          let low : m * 2 ^ j ≤ 2 ^ p * 2 ^ j = mul-le-mul_right (2 ^ j) (le_of_lt small) in
          let same : 2 ^ p * 2 ^ j ≡ 2 ^ (p + j) = sym (pow-add 2 p j) in
          let up : 2 ^ (p + j) ≤ 2 ^ (p - 1 + k) = pow_mono (omega (arith, h)) in
          below_nearest (2 ^ (p - 1)) (m * 2 ^ j) (omega (arith, pow-add 2 (p - 1) k)) (reached (omega (arith, h)))

-- ---- a value that the format holds is m * 2 ^ j units, with m of as many digits as the format keeps

middle : (a b c d : Bool) → T (a && b && c && d) → T b × T c
middle a b c d t = let u = and_l (a && b && c) d t in (and_r a b (and_l (a && b) c u), and_r (a && b) c u)

pub record InUnits (f : Format) (m : ℕ) (e : ℤ) : Type 0 where
  pub digits : m < 2 ^ prec f
  pub j : ℕ
  pub is : m * up e * 2 ^ low f ≡ m * 2 ^ j * down e

pub in_units : (f : Format) (m : ℕ) (e : ℤ) → T (fits f (fin false m e)) → InUnits f m e
unfolding fits
in_units f zero e t = record { digits = pow_pos (prec f); j = 0; is = simp zero-mul }
in_units f (suc m) e t =
    let both = middle (eqb (suc m % 2) 1) (ltb (suc m) (2 ^ prec f)) (leb (down e) (2 ^ low f)) (ltb (suc m * up e) (2 ^ suc (emax f) * down e)) t in
    go e (ltb→lt (suc m) (2 ^ prec f) both.0) (leb→le (down e) (2 ^ low f) both.1)
  where
    within : (k : ℕ) → 2 ^ suc k ≤ 2 ^ low f → Dec (suc k ≤ low f) → suc k ≤ low f
    within k l (yes h) = h
    within k l (no h) = absurd (lt_irrefl (2 ^ low f) (lt_of_lt_of_le (pow-lt (omega (arith, h))) l))

    go : (e : ℤ) → suc m < 2 ^ prec f → down e ≤ 2 ^ low f → InUnits f (suc m) e
    go (pos k) h l = record { digits = h; j = k + low f; is = mul_assoc (suc m) (2 ^ k) (2 ^ low f) ∙ ap (λ (z : ℕ). suc m * z) (sym (pow-add 2 k (low f))) ∙ sym (mul-one (suc m * 2 ^ (k + low f))) }
    go (negsuc k) h l =
        let j : ℕ = low f - suc k in
        let all : 2 ^ low f ≡ 2 ^ j * 2 ^ suc k = ap (λ (z : ℕ). 2 ^ z) (sym (sub-add_cancel (within k l (dec_le (suc k) (low f))))) ∙ pow-add 2 j (suc k) in
        record { digits = h; j = j; is = ap (λ (z : ℕ). z * 2 ^ low f) (mul-one (suc m)) ∙ ap (λ (z : ℕ). suc m * z) all ∙ sym (mul_assoc (suc m) (2 ^ j) (2 ^ suc k)) }
