-- PEXT digit by digit: its bound, one set digit of the mask at a time, a run of digits at a time, and the way back by the deposit; and it is the
-- published PEXT.
-- By recursion over the width; the published loop comes in by the law that it is recovery. Assumes nothing.
use Rattle.std.proofs.Common.{◌≡◌, ℕ, zero, suc, ◌+◌, ◌*◌, ◌/◌, ◌%◌, ◌^◌, ◌<◌, ◌≤◌, min, sym, refl, ap, ◌∙◌, subst, ap₂, ⊎_elim, lt_of_lt_of_le, mod-lt, suc-add, pow-suc, zero-add, div-one, one-add, arith, pow_pos, pow_mono, shr-shr}
use native.Mathlib.Nat.{min-zero}
use lib.Bits.{bit_and, and_zero_r, and_mask}
use lib.Count.{ones, ones_in, ones-le}
use Rattle.rows.specs.Rows.{recover}
use Rattle.rows.specs.Word.{bits_of, word_of}
use Rattle.rows.specs.Pdep.{pext}
use Rattle.rows.proofs.WordLaws.{digit_is_one}
use Rattle.rows.proofs.PdepLaws.{pext_is}
use Rattle.network.specs.Lowest.{lowest_set, without_lowest}
use Rattle.network.proofs.DigitLaws.{digit, mod_digit, and_by}
use Rattle.network.proofs.LowestLaws.{lowest_set_even, lowest_set_odd, without_lowest_even, without_lowest_odd, without_lowest_lt, lowest_and_rest}
use Rattle.network.proofs.LowestLaws.{ones_none, ones_clear_sub}
use Rattle.network.proofs.DealtLaws.{dealt, dealt_even, dealt_odd, regroup_odd, ones_low}

-- PEXT, digit by digit from the lowest: where the mask's lowest digit is set the source's lowest digit goes below what the rest gives; where it
-- is clear the rest gives all
unfoldable pub collected : ℕ → ℕ → ℕ → ℕ
collected zero s m = zero
collected (suc w) s m = collected w (s / 2) (m / 2) * 2 ^ (m % 2) + (m % 2) * (s % 2)

pub collected_even : (w s m : ℕ) → m % 2 ≡ 0 → collected (suc w) s m ≡ collected w (s / 2) (m / 2)
unfolding collected
collected_even w s m e = ap (λ (d : ℕ). collected w (s / 2) (m / 2) * 2 ^ d + d * (s % 2)) e ∙ omega arith

pub collected_odd : (w s m : ℕ) → m % 2 ≡ 1 → collected (suc w) s m ≡ collected w (s / 2) (m / 2) * 2 + s % 2
unfolding collected
collected_odd w s m e = ap (λ (d : ℕ). collected w (s / 2) (m / 2) * 2 ^ d + d * (s % 2)) e ∙ omega arith

-- no more digits than the mask has set
pub collected_lt : (w s m : ℕ) → collected w s m < 2 ^ ones_in w m
unfolding collected ones_in
collected_lt zero s m = omega arith
collected_lt (suc w) s m =
    let i : collected w (s / 2) (m / 2) < 2 ^ ones_in w (m / 2) = collected_lt w (s / 2) (m / 2) in
    ⊎_elim
    (λ (x : m % 2 ≡ 0).
    let c : ones_in (suc w) m ≡ ones_in w (m / 2) = omega arith in
    omega (arith, collected_even w s m x, ap (λ (n : ℕ). 2 ^ n) c))
    (λ (x : m % 2 ≡ 1).
    let c : ones_in (suc w) m ≡ suc (ones_in w (m / 2)) = omega arith in
    omega (arith, collected_odd w s m x, ap (λ (n : ℕ). 2 ^ n) c ∙ pow-suc 2 (ones_in w (m / 2)))) (digit m)

pub ones_in_le : (w m : ℕ) → ones_in w m ≤ w
ones_in_le w m = subst (λ (n : ℕ). n ≤ w) (sym (ones_low w m)) (ones-le w (m % 2 ^ w) (mod-lt m (pow_pos w)))

pub collected_fits : (w s m : ℕ) → collected w s m < 2 ^ w
collected_fits w s m = lt_of_lt_of_le (collected_lt w s m) (pow_mono (ones_in_le w m))

-- digits past the width do not count
pub collected_low : (w s m : ℕ) → collected w (s % 2 ^ w) (m % 2 ^ w) ≡ collected w s m
unfolding collected
collected_low zero s m = refl
collected_low (suc w) s m =
    let half : (n : ℕ) → n % 2 ^ suc w / 2 ≡ n / 2 % 2 ^ w = λ n. omega (arith, mod_digit w n) in
    let last : (n : ℕ) → n % 2 ^ suc w % 2 ≡ n % 2 = λ n. omega (arith, mod_digit w n) in
    ap₂ (λ (u v : ℕ). collected w u v * 2 ^ (m % 2 ^ suc w % 2) + (m % 2 ^ suc w % 2) * (s % 2 ^ suc w % 2)) (half s) (half m)
    ∙ ap₂ (λ (u v : ℕ). collected w (s / 2 % 2 ^ w) (m / 2 % 2 ^ w) * 2 ^ v + v * u) (last s) (last m)
    ∙ ap (λ (n : ℕ). n * 2 ^ (m % 2) + (m % 2) * (s % 2)) (collected_low w (s / 2) (m / 2))

-- ---- the lowest set digit of the mask gives the lowest digit
pub collected_no_mask : (w s : ℕ) → collected w s 0 ≡ 0
unfolding collected
collected_no_mask zero s = refl
collected_no_mask (suc w) s = collected_even w s 0 refl ∙ collected_no_mask w (s / 2)

peel_even : (w s m : ℕ) → m % 2 ≡ 0
    → collected w (s / 2) (m / 2) ≡ collected w (s / 2) (without_lowest w (m / 2)) * 2 + min (bit_and (s / 2) (lowest_set w (m / 2))) 1
    → collected (suc w) s m ≡ collected (suc w) s (without_lowest (suc w) m) * 2 + min (bit_and s (lowest_set (suc w) m)) 1
peel_even w s m x ih =
    let k : ℕ = without_lowest w (m / 2) in
    let l : ℕ = lowest_set w (m / 2) in
    let c : without_lowest (suc w) m ≡ k * 2 = without_lowest_even w m x in
    let ch : without_lowest (suc w) m / 2 ≡ k = omega arith in
    let d : lowest_set (suc w) m ≡ l * 2 = lowest_set_even w m x in
    let rest : collected (suc w) s (without_lowest (suc w) m) ≡ collected w (s / 2) k =
    collected_even w s (without_lowest (suc w) m) (omega arith) ∙ ap (collected w (s / 2)) ch in
    let hit : bit_and s (lowest_set (suc w) m) ≡ bit_and (s / 2) l * 2 + min (s % 2) 0 =
    and_by s (lowest_set (suc w) m) (s / 2) l (s % 2) 0 refl (omega arith) refl (omega arith) in
    omega (arith, collected_even w s m x, min-zero (s % 2))

peel_odd : (w s m : ℕ) → m % 2 ≡ 1 → collected (suc w) s m ≡ collected (suc w) s (without_lowest (suc w) m) * 2 + min (bit_and s (lowest_set (suc w) m)) 1
peel_odd w s m x =
    let c : without_lowest (suc w) m ≡ m / 2 * 2 = without_lowest_odd w m x in
    let ch : without_lowest (suc w) m / 2 ≡ m / 2 = omega arith in
    let rest : collected (suc w) s (without_lowest (suc w) m) ≡ collected w (s / 2) (m / 2) =
    collected_even w s (without_lowest (suc w) m) (omega arith) ∙ ap (collected w (s / 2)) ch in
    let hit : bit_and s (lowest_set (suc w) m) ≡ s % 2 = ap (bit_and s) (lowest_set_odd w m x) ∙ and_mask s 1 in
    omega (arith, collected_odd w s m x)

pub collected_peel : (w s m : ℕ) → collected w s m ≡ collected w s (without_lowest w m) * 2 + min (bit_and s (lowest_set w m)) 1
unfolding collected lowest_set without_lowest
collected_peel zero s m = sym (ap (λ (n : ℕ). 0 + min n 1) (and_zero_r s))
collected_peel (suc w) s m = ⊎_elim (λ x. peel_even w s m x (collected_peel w (s / 2) (m / 2))) (peel_odd w s m) (digit m)

-- a mask of at most one set digit, and of at most two
one_collected : (w s m : ℕ) → m < 2 ^ w → ones m ≤ 1 → min (bit_and s m) 1 ≡ collected w s m
one_collected w s m h l =
    let none : without_lowest w m ≡ 0 = ones_none w (without_lowest w m) (without_lowest_lt w m h) (omega (arith, ones_clear_sub w m h)) in
    let same : lowest_set w m ≡ m = omega (arith, lowest_and_rest w m h) in
    let rest : collected w s (without_lowest w m) ≡ 0 = ap (collected w s) none ∙ collected_no_mask w s in
    omega (arith, collected_peel w s m, ap (λ (n : ℕ). min (bit_and s n) 1) same)

pub two_collected : (w s m : ℕ) → m < 2 ^ w → ones m ≤ 2 → min (bit_and s (without_lowest w m)) 1 * 2 + min (bit_and s (lowest_set w m)) 1 ≡ collected w s m
two_collected w s m h l =
    omega (arith, one_collected w s (without_lowest w m) (without_lowest_lt w m h) (omega (arith, ones_clear_sub w m h)), collected_peel w s m)

-- ---- a run of k digits, and the rest above what they give
pub collected_split : (k w s m : ℕ) → collected (k + w) s m ≡ collected w (s / 2 ^ k) (m / 2 ^ k) * 2 ^ ones_in k m + collected k s m
unfolding collected ones_in
collected_split zero w s m = ap (λ (n : ℕ). collected n s m) (zero-add w) ∙ sym (omega (arith, ap₂ (collected w) (div-one s) (div-one m)))
collected_split (suc k) w s m =
    let e : suc k + w ≡ suc (k + w) = suc-add k w in
    let half : (n : ℕ) → n / 2 / 2 ^ k ≡ n / 2 ^ suc k = λ n. shr-shr n 1 k ∙ ap (λ (j : ℕ). n / 2 ^ j) (one-add k) in
    let a : ℕ = collected w (s / 2 ^ suc k) (m / 2 ^ suc k) in
    let g : collected w (s / 2 / 2 ^ k) (m / 2 / 2 ^ k) ≡ a = ap₂ (collected w) (half s) (half m) in
    let q : ℕ = collected k (s / 2) (m / 2) in
    let i : collected (k + w) (s / 2) (m / 2) ≡ a * 2 ^ ones_in k (m / 2) + q =
    collected_split k w (s / 2) (m / 2) ∙ ap (λ (n : ℕ). n * 2 ^ ones_in k (m / 2) + q) g in
    ap (λ (n : ℕ). collected n s m) e
    ∙ ⊎_elim
    (λ (x : m % 2 ≡ 0).
    let c : ones_in (suc k) m ≡ ones_in k (m / 2) = omega arith in
    collected_even (k + w) s m x ∙ i ∙ sym (ap₂ (λ (u v : ℕ). a * 2 ^ u + v) c (collected_even k s m x)))
    (λ (x : m % 2 ≡ 1).
    let c : 2 ^ ones_in (suc k) m ≡ 2 ^ ones_in k (m / 2) * 2 =
    let d : ones_in (suc k) m ≡ suc (ones_in k (m / 2)) = omega arith in ap (λ (n : ℕ). 2 ^ n) d ∙ pow-suc 2 (ones_in k (m / 2)) in
    collected_odd (k + w) s m x ∙ ap (λ (n : ℕ). n * 2 + s % 2) i ∙ regroup_odd a (2 ^ ones_in k (m / 2)) q (s % 2)
    ∙ sym (ap₂ (λ (u v : ℕ). a * u + v) c (collected_odd k s m x))) (digit m)

-- ---- what is collected, dealt again, is the source's digits at the mask's
pub dealt_collected : (w s m : ℕ) → m < 2 ^ w → dealt w (collected w s m) m ≡ bit_and s m
unfolding dealt collected
dealt_collected zero s m h = let z : m ≡ 0 = omega arith in sym (ap (bit_and s) z ∙ and_zero_r s)
dealt_collected (suc w) s m h =
    let p : 2 ^ suc w ≡ 2 ^ w * 2 = pow-suc 2 w in
    let i : dealt w (collected w (s / 2) (m / 2)) (m / 2) ≡ bit_and (s / 2) (m / 2) = dealt_collected w (s / 2) (m / 2) (omega arith) in
    ⊎_elim
    (λ (x : m % 2 ≡ 0).
    dealt_even w (collected (suc w) s m) m x ∙ ap (λ (n : ℕ). dealt w n (m / 2) * 2) (collected_even w s m x)
    ∙ omega (arith, i, and_by s m (s / 2) (m / 2) (s % 2) 0 refl refl refl x, min-zero (s % 2)))
    (λ (x : m % 2 ≡ 1).
    let c : collected (suc w) s m ≡ collected w (s / 2) (m / 2) * 2 + s % 2 = collected_odd w s m x in
    let hi : collected (suc w) s m / 2 ≡ collected w (s / 2) (m / 2) = omega arith in
    let lo : collected (suc w) s m % 2 ≡ s % 2 = omega arith in
    dealt_odd w (collected (suc w) s m) m x ∙ ap₂ (λ (u v : ℕ). dealt w u (m / 2) * 2 + v) hi lo
    ∙ omega (arith, i, and_by s m (s / 2) (m / 2) (s % 2) 1 refl refl refl x)) (digit m)

-- ---- the published PEXT is the same, by the law that it is recovery
recovered_even : (w s m : ℕ) → m % 2 ≡ 0 → word_of (recover (bits_of (suc w) m) (bits_of (suc w) s)) ≡ word_of (recover (bits_of w (m / 2)) (bits_of w (s / 2)))
unfolding bits_of word_of
recovered_even w s m e = rw e

recovered_odd : (w s m : ℕ) → m % 2 ≡ 1
    → word_of (recover (bits_of (suc w) m) (bits_of (suc w) s)) ≡ word_of (recover (bits_of w (m / 2)) (bits_of w (s / 2))) * 2 + s % 2
unfolding bits_of word_of
recovered_odd w s m e =
    rw e (ap (λ (d : ℕ). word_of (recover (bits_of w (m / 2)) (bits_of w (s / 2))) * 2 + d) (digit_is_one (s % 2) (omega arith)))

recovered_collected : (w s m : ℕ) → word_of (recover (bits_of w m) (bits_of w s)) ≡ collected w s m
unfolding bits_of word_of collected
recovered_collected zero s m = refl
recovered_collected (suc w) s m =
    let i : word_of (recover (bits_of w (m / 2)) (bits_of w (s / 2))) ≡ collected w (s / 2) (m / 2) = recovered_collected w (s / 2) (m / 2) in
    ⊎_elim
    (λ (x : m % 2 ≡ 0). recovered_even w s m x ∙ i ∙ sym (collected_even w s m x))
    (λ (x : m % 2 ≡ 1). recovered_odd w s m x ∙ ap (λ (n : ℕ). n * 2 + s % 2) i ∙ sym (collected_odd w s m x)) (digit m)

pub pext_collected : (w s m : ℕ) → pext w s m ≡ collected w s m
pext_collected w s m = pext_is w s m ∙ recovered_collected w s m
