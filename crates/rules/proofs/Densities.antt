-- What pins a density, whatever `density_of` is defined by: it is a value of the format, none is nearer to the quotient of count and length,
-- it is that quotient where the format has it, and densities stand in the order of their quotients. By the kit's laws on rounding.
-- Assumes nothing.
use Prim.Native.Nat.{ℕ, ◌*◌, ◌^◌, ◌≤◌, ◌<◌}
use native.Mathlib.Nat.{mul_assoc, mul_comm, mul_right_comm, zero-mul, mul-le-mul_right, le_of_mul-le-mul_right, le_of_eq, le_trans}
use native.Mathlib.Decide.{ℕ_discrete}
use native.Mathlib.Omega.{arith}
use mathlib.Core.Path.{◌≡◌, refl, sym, ap, ap₂, ◌∙◌}
use mathlib.Core.Bool.{true, false}
use lib.Dec.{T}
use lib.IntN.{ℤ}
use lib.Pow.{pow_pos}
use lib.Ieee.{Float, nan, inf, fin, binary64, prec, low, up, down, round, fits, lt, eq, le}
use lib.Ieee.Exact.{HasValue}
use lib.Ieee.Fits.{down_pos, round-fits}
use lib.Ieee.Order.{round_mono}
use lib.Ieee.Scale.{finite, grid, round_val, round_under}
use Rattle.rows.specs.Table.{choose}
use Rattle.rows.proofs.TableLaws.{passed_over}
use Rattle.rules.specs.Answer.{no_density, density_of}
use Rattle.rules.proofs.NearestLaws.{far, far_times, kept_nearest, in_units}

-- the choice at a length above 0
above_0 : (len : ℕ) → 0 < len → (y : Float) → choose (ℕ_discrete len 0) no_density y ≡ y
above_0 len h y = passed_over (ℕ_discrete len 0) no_density y (λ e. omega arith)

-- ---- the nearest value

-- d is a value of the format, m * 2 ^ e, which is the fraction m * up e / down e; and no other value k * 2 ^ i is nearer to n / len:
-- both distances are told in parts of len * down e * down i. A value below 0 is further than 0 is
pub record Nearest (n len : ℕ) (d : Float) : Type 0 where
  pub m : ℕ
  pub e : ℤ
  pub is : d ≡ fin false m e
  pub held : T (fits binary64 (fin false m e))
  pub nearest : (k : ℕ) (i : ℤ) → T (fits binary64 (fin false k i)) → far (m * up e * len) (n * down e) * down i ≤ far (k * up i * len) (n * down i) * down e

-- a value from 0 to 1 is finite
between : (d : Float) → T (le (round binary64 false 0 1) d) → T (le d (round binary64 false 1 1)) → T (finite d)
unfolding round le lt eq
between nan l h = absurd h
between (inf true) l h = absurd l
between (inf false) l h = absurd h
between (fin s m e) l h = tt

-- so the quotient, in units of the format's smallest value, has the density's value
in_range_lem : (n len : ℕ) → 0 < len → n ≤ len → HasValue (round binary64 false n len) false (grid binary64 n len) (2 ^ low binary64)
in_range_lem n len L h =
    round_val binary64 n len
    (round_under binary64 n len (between (round binary64 false n len) (round_mono binary64 0 1 n len (omega arith) L (omega arith)) (round_mono binary64 n len 1 1 L (omega arith) (omega arith))))

-- distances of x / b and y / d from n / len, by the same distances in units
by_units : (x b y d n len u g v : ℕ) → 0 < u → x * u ≡ g * b → y * u ≡ v * d → far (g * len) (n * u) ≤ far (v * len) (n * u)
    → far (x * len) (n * b) * d ≤ far (y * len) (n * d) * b
by_units x b y d n len u g v U p q h =
    le_of_mul-le-mul_right (le_trans (le_of_eq (scaled x b g d p)) (le_trans (mul-le-mul_right (b * d) h) (le_of_eq (ap (λ (z : ℕ). far (v * len) (n * u) * z) (mul_comm b d) ∙ sym (scaled y d v b q))))) U
  where
    scaled : (x b g d : ℕ) → x * u ≡ g * b → far (x * len) (n * b) * d * u ≡ far (g * len) (n * u) * (b * d)
    scaled x b g d p =
        mul_right_comm (far (x * len) (n * b)) d u
        ∙ ap (λ (z : ℕ). z * d)
        (far_times (x * len) (n * b) u
        ∙ ap₂ far (mul_right_comm x len u ∙ ap (λ (z : ℕ). z * len) p ∙ mul_right_comm g b len) (mul_right_comm n b u)
        ∙ sym (far_times (g * len) (n * u) b))
        ∙ mul_assoc (far (g * len) (n * u)) b d

-- of a rounded quotient
rounded_nearest : (n len : ℕ) → 0 < len → (d : Float) → HasValue d false (grid binary64 n len) (2 ^ low binary64) → T (fits binary64 d) → Nearest n len d
rounded_nearest n len L nan v t = absurd v
rounded_nearest n len L (inf s) v t = absurd v
rounded_nearest n len L (fin true m e) v t = absurd (let z : ◌≡◌ {A = ℕ} 0 1 = cc in omega arith)
rounded_nearest n len L (fin false m e) v t =
    record {
      m = m;
      e = e;
      is = refl;
      held = t;
      nearest = λ k i w.
          let o = in_units binary64 k i w in
          by_units (m * up e) (down e) (k * up i) (down i) n len (2 ^ low binary64) (grid binary64 n len) (k * 2 ^ o.j) (pow_pos (low binary64)) v.1 o.is
          (kept_nearest (prec binary64) (n * 2 ^ low binary64) len (omega arith) L k o.j o.digits);
    }

-- the density differs from the quotient by no more than any other value of the format does
pub density_nearest : (n len : ℕ) → 0 < len → n ≤ len → Nearest n len (density_of n len)
unfolding density_of
density_nearest n len L h = rw (above_0 len L (round binary64 false n len)) (rounded_nearest n len L (round binary64 false n len) (in_range_lem n len L h) (round-fits binary64 false n len))

-- nothing is nearer than what is equal
none_apart : (a b c d x y : ℕ) → far a b * d ≤ far x y * c → x ≡ y → 0 < d → a ≡ b
none_apart a b c d x y h e D =
    let zero : far x y * c ≡ 0 * c = ap (λ (z : ℕ). z * c) (omega arith) in
    let none : far a b ≤ 0 = le_of_mul-le-mul_right (omega (arith, zero-mul c, zero-mul d)) D in
    omega arith

-- where a value of the format is the quotient, the density is: `HasValue x false n len` says that x is n / len
pub density_exact : (n len : ℕ) → 0 < len → n ≤ len → (x : Float) → T (fits binary64 x) → HasValue x false n len → HasValue (density_of n len) false n len
density_exact n len L h nan t v = absurd v
density_exact n len L h (inf s) t v = absurd v
density_exact n len L h (fin true k i) t v = absurd (let z : ◌≡◌ {A = ℕ} 0 1 = cc in omega arith)
density_exact n len L h (fin false k i) t v =
    let d = density_nearest n len L h in
    rw d.is
    (refl, none_apart (d.m * up d.e * len) (n * down d.e) (down d.e) (down i) (k * up i * len) (n * down i) (d.nearest k i t) v.1 (down_pos i))

-- ---- the order

-- densities stand in the order of their quotients: of a / b and c / d the larger has the density that is no smaller
pub density_order : (a b c d : ℕ) → 0 < b → 0 < d → a * d ≤ c * b → T (le (density_of a b) (density_of c d))
unfolding density_of
density_order a b c d B D h = rw (above_0 b B (round binary64 false a b), above_0 d D (round binary64 false c d)) (round_mono binary64 a b c d B D h)
