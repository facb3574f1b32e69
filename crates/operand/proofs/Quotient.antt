-- One division of two whole numbers that the format holds is their quotient, rounded once. By the values of the two
-- numbers in the format, crosswise.
-- Assumes nothing.
use mathlib.Core.Path.{◌≡◌, sym, ap, ◌∙◌, subst}
use mathlib.Core.Bool.{true, false}
use Prim.Native.Nat.{ℕ, ◌*◌, ◌^◌, ◌≤◌, ◌<◌}
use native.Mathlib.Nat.{mul_assoc, mul_comm, mul-one, mul-pos, zero-mul, lt_irrefl}
use native.Mathlib.Omega.{arith}
use lib.IntN.{ℤ, pos}
use lib.Ieee.{Float, nan, inf, fin, Format, binary64, up, down, round, div, of_int}
use lib.Ieee.Exact.{HasValue}
use lib.Ieee.Back.{round_whole}
use lib.Ieee.Fits.{down_pos}
use lib.Ieee.Scale.{round_same}
use borrow.Author.Tests.{ne_eqb}

not_zero : (n : ℕ) (d : ℤ) (b : ℕ) → 0 < b → n * up d * 1 ≡ b * down d → n ≡ 0 → ⊥
not_zero n d b B h z =
    lt_irrefl 0
    (subst (λ (k : ℕ). 0 < k) (sym h ∙ ap (λ (k : ℕ). k * up d * 1) z ∙ ap (λ (k : ℕ). k * 1) (zero-mul (up d)))
    (mul-pos B (down_pos d)))

cross : (x y de dd a b : ℕ) → x * 1 ≡ a * de → y * 1 ≡ b * dd → x * dd * b ≡ a * (y * de)
cross x y de dd a b h k =
    ap (λ (z : ℕ). z * dd * b) (sym (mul-one x) ∙ h)
    ∙ mul_assoc (a * de) dd b
    ∙ mul_assoc a de (dd * b)
    ∙ ap (λ (z : ℕ). a * z) (mul_comm de (dd * b) ∙ ap (λ (z : ℕ). z * de) (mul_comm dd b ∙ sym k ∙ mul-one y))

pub div_at : (f : Format) (x y : Float) (a b : ℕ) → 0 < b → HasValue x false a 1 → HasValue y false b 1 → div f x y ≡ round f false a b
unfolding div
div_at f nan y a b B v w = absurd v
div_at f (inf s) y a b B v w = absurd v
div_at f (fin true m e) y a b B v w = absurd (let z : ◌≡◌ {A = ℕ} 0 1 = cc in omega arith)
div_at f (fin false m e) nan a b B v w = absurd w
div_at f (fin false m e) (inf t) a b B v w = absurd w
div_at f (fin false m e) (fin true n d) a b B v w = absurd (let z : ◌≡◌ {A = ℕ} 0 1 = cc in omega arith)
div_at f (fin false m e) (fin false n d) a b B v w =
    rw (ne_eqb n 0 (not_zero n d b B w.1))
    (round_same f false (m * up e * down d) (n * up d * down e) a b
    (mul-pos (subst (λ (k : ℕ). 0 < k) (sym w.1 ∙ mul-one (n * up d)) (mul-pos B (down_pos d))) (down_pos e)) B (cross (m * up e) (n * up d) (down e) (down d) a b v.1 w.1))

pub quotient : (a b : ℕ) → a ≤ 2 ^ 53 → b ≤ 2 ^ 53 → 0 < b → div binary64 (of_int binary64 (pos a)) (of_int binary64 (pos b)) ≡ round binary64 false a b
unfolding of_int
quotient a b A B P = div_at binary64 (round binary64 false a 1) (round binary64 false b 1) a b P (round_whole binary64 false a A) (round_whole binary64 false b B)
