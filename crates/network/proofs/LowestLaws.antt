-- The lowest set digit of a word: by the word and its negative, and the word without it.
-- By recursion over the width, on the lowest digit. Assumes nothing.
use Rattle.std.proofs.Common.{◌≡◌, ℕ, zero, suc, ◌+◌, ◌-◌, ◌*◌, ◌/◌, ◌%◌, ◌^◌, ◌<◌, refl, ap, ⊎_elim, eq-zero-or-pos, pow-suc, arith}
use lib.Bits.{bit_and, bit_xor, and_self, xor_zero_r}
use lib.Count.{ones, ones_step}
use Rattle.network.specs.Lowest.{lowest_set, without_lowest}
use Rattle.network.proofs.DigitLaws.{digit, and_at, xor_at}

-- ---- each definition, at a lowest digit that is known
pub lowest_set_even : (w n : ℕ) → n % 2 ≡ 0 → lowest_set (suc w) n ≡ lowest_set w (n / 2) * 2
unfolding lowest_set
lowest_set_even w n e = rw e

pub lowest_set_odd : (w n : ℕ) → n % 2 ≡ 1 → lowest_set (suc w) n ≡ 1
unfolding lowest_set
lowest_set_odd w n e = rw e

pub without_lowest_even : (w n : ℕ) → n % 2 ≡ 0 → without_lowest (suc w) n ≡ without_lowest w (n / 2) * 2
unfolding without_lowest
without_lowest_even w n e = rw e

pub without_lowest_odd : (w n : ℕ) → n % 2 ≡ 1 → without_lowest (suc w) n ≡ n / 2 * 2
unfolding without_lowest
without_lowest_odd w n e = rw e

pub lowest_set_zero : (w : ℕ) → lowest_set w 0 ≡ 0
unfolding lowest_set
lowest_set_zero zero = refl
lowest_set_zero (suc w) = ap (λ (x : ℕ). x * 2) (lowest_set_zero w)

-- a number and its complement have no digit in common
pub and_comp : (w a b : ℕ) → a + b + 1 ≡ 2 ^ w → bit_and a b ≡ 0
and_comp zero a b e = let z : a ≡ 0 = omega arith in rw z
and_comp (suc w) a b e =
    let p : 2 ^ suc w ≡ 2 ^ w * 2 = pow-suc 2 w in
    let ih : bit_and (a / 2) (b / 2) ≡ 0 = and_comp w (a / 2) (b / 2) (omega arith) in
    ⊎_elim (λ (x : a % 2 ≡ 0). omega (arith, and_at a b 0 1 x (omega arith))) (λ (x : a % 2 ≡ 1). omega (arith, and_at a b 1 0 x (omega arith))) (digit a)

-- a number and its negative have the lowest set digit in common
pub and_neg : (w m r : ℕ) → m < 2 ^ w → r + m ≡ 2 ^ w → bit_and m r ≡ lowest_set w m
unfolding lowest_set
and_neg zero m r h e = let z : m ≡ 0 = omega arith in rw z
and_neg (suc w) m r h e =
    let p : 2 ^ suc w ≡ 2 ^ w * 2 = pow-suc 2 w in
    ⊎_elim
    (λ (x : m % 2 ≡ 0). omega (arith, and_at m r 0 0 x (omega arith), and_neg w (m / 2) (r / 2) (omega arith) (omega arith), lowest_set_even w m x))
    (λ (x : m % 2 ≡ 1). omega (arith, and_at m r 1 1 x (omega arith), and_comp w (m / 2) (r / 2) (omega arith), lowest_set_odd w m x)) (digit m)

-- a number and one less: the lowest set digit goes
pub and_pred : (w m : ℕ) → m < 2 ^ w → 0 < m → bit_and m (m - 1) ≡ without_lowest w m
and_pred zero m h l = absurd (omega arith)
and_pred (suc w) m h l =
    let p : 2 ^ suc w ≡ 2 ^ w * 2 = pow-suc 2 w in
    ⊎_elim
    (λ (x : m % 2 ≡ 0).
    let half : (m - 1) / 2 ≡ m / 2 - 1 = omega arith in
    omega (arith, and_at m (m - 1) 0 1 x (omega arith), ap (bit_and (m / 2)) half, and_pred w (m / 2) (omega arith) (omega arith), without_lowest_even w m x))
    (λ (x : m % 2 ≡ 1).
    let half : (m - 1) / 2 ≡ m / 2 = omega arith in
    omega (arith, and_at m (m - 1) 1 0 x (omega arith), ap (bit_and (m / 2)) half, and_self (m / 2), without_lowest_odd w m x)) (digit m)

-- the same, by the digit itself
pub xor_low : (w m : ℕ) → m < 2 ^ w → bit_xor m (lowest_set w m) ≡ without_lowest w m
unfolding lowest_set without_lowest
xor_low zero m h = let z : m ≡ 0 = omega arith in rw z
xor_low (suc w) m h =
    let p : 2 ^ suc w ≡ 2 ^ w * 2 = pow-suc 2 w in
    ⊎_elim
    (λ (x : m % 2 ≡ 0).
    let l : lowest_set (suc w) m ≡ lowest_set w (m / 2) * 2 = lowest_set_even w m x in
    let half : lowest_set (suc w) m / 2 ≡ lowest_set w (m / 2) = omega arith in
    omega (arith, xor_at m (lowest_set (suc w) m) 0 0 x (omega arith), ap (bit_xor (m / 2)) half, xor_low w (m / 2) (omega arith), without_lowest_even w m x))
    (λ (x : m % 2 ≡ 1).
    let l : lowest_set (suc w) m ≡ 1 = lowest_set_odd w m x in
    let half : lowest_set (suc w) m / 2 ≡ 0 = omega arith in
    omega (arith, xor_at m (lowest_set (suc w) m) 1 1 x (omega arith), ap (bit_xor (m / 2)) half, xor_zero_r (m / 2), without_lowest_odd w m x)) (digit m)

pub without_lowest_lt : (w m : ℕ) → m < 2 ^ w → without_lowest w m < 2 ^ w
unfolding without_lowest
without_lowest_lt zero m h = omega arith
without_lowest_lt (suc w) m h =
    let p : 2 ^ suc w ≡ 2 ^ w * 2 = pow-suc 2 w in
    let ih : without_lowest w (m / 2) < 2 ^ w = without_lowest_lt w (m / 2) (omega arith) in
    ⊎_elim (λ (x : m % 2 ≡ 0). omega (arith, without_lowest_even w m x)) (λ (x : m % 2 ≡ 1). omega (arith, without_lowest_odd w m x)) (digit m)

-- the two together are the word
pub lowest_and_rest : (w m : ℕ) → m < 2 ^ w → lowest_set w m + without_lowest w m ≡ m
unfolding lowest_set without_lowest
lowest_and_rest zero m h = omega arith
lowest_and_rest (suc w) m h =
    let p : 2 ^ suc w ≡ 2 ^ w * 2 = pow-suc 2 w in
    let ih : lowest_set w (m / 2) + without_lowest w (m / 2) ≡ m / 2 = lowest_and_rest w (m / 2) (omega arith) in
    ⊎_elim (λ (x : m % 2 ≡ 0). omega (arith, lowest_set_even w m x, without_lowest_even w m x))
    (λ (x : m % 2 ≡ 1). omega (arith, lowest_set_odd w m x, without_lowest_odd w m x)) (digit m)

pub lowest_set_lt : (w m : ℕ) → lowest_set w m < 2 ^ w
unfolding lowest_set
lowest_set_lt zero m = omega arith
lowest_set_lt (suc w) m =
    let p : 2 ^ suc w ≡ 2 ^ w * 2 = pow-suc 2 w in
    let ih : lowest_set w (m / 2) < 2 ^ w = lowest_set_lt w (m / 2) in
    ⊎_elim (λ (x : m % 2 ≡ 0). omega (arith, lowest_set_even w m x)) (λ (x : m % 2 ≡ 1). omega (arith, lowest_set_odd w m x)) (digit m)

-- one set digit fewer
pub ones_clear : (w m : ℕ) → m < 2 ^ w → 0 < m → ones (without_lowest w m) + 1 ≡ ones m
ones_clear zero m h l = absurd (omega arith)
ones_clear (suc w) m h l =
    let p : 2 ^ suc w ≡ 2 ^ w * 2 = pow-suc 2 w in
    ⊎_elim
    (λ (x : m % 2 ≡ 0).
    let c : without_lowest (suc w) m ≡ without_lowest w (m / 2) * 2 = without_lowest_even w m x in
    let half : without_lowest (suc w) m / 2 ≡ without_lowest w (m / 2) = omega arith in
    omega (arith, ones_step m, ones_step (without_lowest (suc w) m), ap ones half, ones_clear w (m / 2) (omega arith) (omega arith)))
    (λ (x : m % 2 ≡ 1).
    let c : without_lowest (suc w) m ≡ m / 2 * 2 = without_lowest_odd w m x in
    let half : without_lowest (suc w) m / 2 ≡ m / 2 = omega arith in
    omega (arith, ones_step m, ones_step (without_lowest (suc w) m), ap ones half)) (digit m)

-- a word with no set digit is 0
pub ones_none : (w m : ℕ) → m < 2 ^ w → ones m ≡ 0 → m ≡ 0
ones_none zero m h e = omega arith
ones_none (suc w) m h e =
    let p : 2 ^ suc w ≡ 2 ^ w * 2 = pow-suc 2 w in
    let s : ones m ≡ m % 2 + ones (m / 2) = ones_step m in
    let ih : m / 2 ≡ 0 = ones_none w (m / 2) (omega arith) (omega arith) in
    omega arith

pub without_lowest_zero : (w : ℕ) → without_lowest w 0 ≡ 0
unfolding without_lowest
without_lowest_zero zero = refl
without_lowest_zero (suc w) = ap (λ (x : ℕ). x * 2) (without_lowest_zero w)

pub ones_zero : ones 0 ≡ 0
unfolding ones
ones_zero = refl

-- one set digit fewer, or none still
pub ones_clear_sub : (w m : ℕ) → m < 2 ^ w → ones (without_lowest w m) ≡ ones m - 1
ones_clear_sub w m h =
    ⊎_elim (λ (z : m ≡ 0). rw (z, without_lowest_zero w, ones_zero)) (λ (p : 0 < m). omega (arith, ones_clear w m h p)) (eq-zero-or-pos m)
