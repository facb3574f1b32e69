-- PDEP digit by digit: one set digit of the mask at a time, a run of digits at a time; and it is the published PDEP.
-- By recursion over the width; the published loop comes in by the law that it is composition. Assumes nothing.
use Rattle.std.proofs.Common.{◌≡◌, ℕ, zero, suc, ◌+◌, ◌-◌, ◌*◌, ◌/◌, ◌%◌, ◌^◌, ◌<◌, ◌≤◌, max, Bool, List, ◌∷◌, sym, refl, ap, ◌∙◌, ap₂, ⊎_elim, add-zero, mul_assoc, suc-add, pow-suc, zero-add, zero-mul, div-one, one-add, arith, pow_pos, shr-shr}
use native.Mathlib.Nat.{max-zero, mod-one}
use lib.Arith.{bin_ind}
use lib.Bits.{bit_and, bit_or, or_step, or_zero_r}
use lib.Count.{ones, ones_in, ones_step}
use Rattle.rows.specs.Rows.{compose}
use Rattle.rows.specs.Word.{is_one, bits_of, word_of}
use Rattle.rows.specs.Pdep.{pdep}
use Rattle.rows.proofs.RowLaws.{count_le_length}
use Rattle.rows.proofs.WordLaws.{bits_of_length, digit_is_one}
use Rattle.rows.proofs.FitLaws.{take_bits, compose_cut}
use Rattle.rows.proofs.PdepLaws.{pdep_is}
use Rattle.network.specs.Lowest.{lowest_set, without_lowest}
use Rattle.network.proofs.DigitLaws.{digit, mod_digit, or_at}
use Rattle.network.proofs.LowestLaws.{and_pred, without_lowest_lt, ones_none, ones_clear_sub, lowest_set_even, lowest_set_odd, without_lowest_even, without_lowest_odd}

-- PDEP, digit by digit from the lowest: where the mask's lowest digit is set it takes the source's lowest digit, and the rest of the source goes on to
-- the rest of the mask; where it is clear the digit is 0, and the whole source goes on
unfoldable pub dealt : ℕ → ℕ → ℕ → ℕ
dealt zero s m = zero
dealt (suc w) s m = dealt w (s / 2 ^ (m % 2)) (m / 2) * 2 + (m % 2) * (s % 2)

pub dealt_even : (w s m : ℕ) → m % 2 ≡ 0 → dealt (suc w) s m ≡ dealt w s (m / 2) * 2
unfolding dealt
dealt_even w s m e =
    ap (λ (d : ℕ). dealt w (s / 2 ^ d) (m / 2) * 2 + d * (s % 2)) e
    ∙ ap (λ (x : ℕ). dealt w x (m / 2) * 2 + 0 * (s % 2)) (div-one s) ∙ omega arith

pub dealt_odd : (w s m : ℕ) → m % 2 ≡ 1 → dealt (suc w) s m ≡ dealt w (s / 2) (m / 2) * 2 + s % 2
unfolding dealt
dealt_odd w s m e = ap (λ (d : ℕ). dealt w (s / 2 ^ d) (m / 2) * 2 + d * (s % 2)) e ∙ omega arith

pub dealt_no_mask : (w s : ℕ) → dealt w s 0 ≡ 0
unfolding dealt
dealt_no_mask zero s = refl
dealt_no_mask (suc w) s = omega (arith, dealt_even w s 0 refl, dealt_no_mask w s)

pub dealt_no_source : (w m : ℕ) → dealt w 0 m ≡ 0
unfolding dealt
dealt_no_source zero m = refl
dealt_no_source (suc w) m =
    let ih : dealt w 0 (m / 2) ≡ 0 = dealt_no_source w (m / 2) in
    ⊎_elim (λ (x : m % 2 ≡ 0). omega (arith, dealt_even w 0 m x)) (λ (x : m % 2 ≡ 1). omega (arith, dealt_odd w 0 m x)) (digit m)

-- every digit of the mask set
pub dealt_all : (w s : ℕ) → s < 2 ^ w → dealt w s (2 ^ w - 1) ≡ s
unfolding dealt
dealt_all zero s h = omega arith
dealt_all (suc w) s h =
    let p : 2 ^ suc w ≡ 2 ^ w * 2 = pow-suc 2 w in
    let rest : (2 ^ suc w - 1) / 2 ≡ 2 ^ w - 1 = omega (arith, pow_pos w) in
    omega (arith, dealt_odd w s (2 ^ suc w - 1) (omega (arith, pow_pos w)), ap (dealt w (s / 2)) rest, dealt_all w (s / 2) (omega arith))

pub dealt_lt : (w s m : ℕ) → dealt w s m < 2 ^ w
unfolding dealt
dealt_lt zero s m = omega arith
dealt_lt (suc w) s m =
    let p : 2 ^ suc w ≡ 2 ^ w * 2 = pow-suc 2 w in
    ⊎_elim (λ (x : m % 2 ≡ 0). omega (arith, dealt_even w s m x, dealt_lt w s (m / 2))) (λ (x : m % 2 ≡ 1). omega (arith, dealt_odd w s m x, dealt_lt w (s / 2) (m / 2))) (digit m)

-- ---- `or`
-- of two numbers that are written by their lowest digits, one of them even
pub or_even : (a b : ℕ) → bit_or (a * 2) (b * 2) ≡ bit_or a b * 2
or_even a b =
    let ha : a * 2 / 2 ≡ a = omega arith in
    let hb : b * 2 / 2 ≡ b = omega arith in
    omega (arith, or_at (a * 2) (b * 2) 0 0 (omega arith) (omega arith), ap₂ bit_or ha hb)

or_low : (d b : ℕ) → d < 2 → bit_or d (b * 2) ≡ b * 2 + d
or_low d b h =
    let ha : d / 2 ≡ 0 = omega arith in
    let hb : b * 2 / 2 ≡ b = omega arith in
    omega (arith, or_at d (b * 2) d 0 (omega arith) (omega arith), ap₂ bit_or ha hb, max-zero d)

pub or_assoc : (a b c : ℕ) → bit_or (bit_or a b) c ≡ bit_or a (bit_or b c)
or_assoc a =
    bin_ind (λ (n : ℕ). (b c : ℕ) → bit_or (bit_or n b) c ≡ bit_or n (bit_or b c)) (λ b c. refl) go a
  where
    go : (n : ℕ) → ((b c : ℕ) → bit_or (bit_or (n / 2) b) c ≡ bit_or (n / 2) (bit_or b c)) → (b c : ℕ) → bit_or (bit_or n b) c ≡ bit_or n (bit_or b c)
    go n ih b c =
        let e : bit_or n b ≡ bit_or (n / 2) (b / 2) * 2 + max (n % 2) (b % 2) = or_step n b in
        let f : bit_or b c ≡ bit_or (b / 2) (c / 2) * 2 + max (b % 2) (c % 2) = or_step b c in
        let eh : bit_or n b / 2 ≡ bit_or (n / 2) (b / 2) = omega arith in
        let fh : bit_or b c / 2 ≡ bit_or (b / 2) (c / 2) = omega arith in
        let el : bit_or n b % 2 ≡ max (n % 2) (b % 2) = omega arith in
        let fl : bit_or b c % 2 ≡ max (b % 2) (c % 2) = omega arith in
        let g : bit_or (bit_or n b) c ≡ bit_or (bit_or (n / 2) (b / 2)) (c / 2) * 2 + max (max (n % 2) (b % 2)) (c % 2) =
        or_step (bit_or n b) c ∙ ap₂ (λ (x y : ℕ). bit_or x (c / 2) * 2 + max y (c % 2)) eh el in
        let h : bit_or n (bit_or b c) ≡ bit_or (n / 2) (bit_or (b / 2) (c / 2)) * 2 + max (n % 2) (max (b % 2) (c % 2)) =
        or_step n (bit_or b c) ∙ ap₂ (λ (x y : ℕ). bit_or (n / 2) x * 2 + max (n % 2) y) fh fl in
        omega (arith, ih (b / 2) (c / 2))

-- ---- the lowest set digit of the mask takes the lowest digit of the source
peel_even : (w s m : ℕ) → m % 2 ≡ 0 → dealt w s (m / 2) ≡ bit_or (lowest_set w (m / 2) * (s % 2)) (dealt w (s / 2) (without_lowest w (m / 2))) → dealt (suc w) s m ≡ bit_or (lowest_set (suc w) m * (s % 2)) (dealt (suc w) (s / 2) (without_lowest (suc w) m))
peel_even w s m x ih =
    let c : without_lowest (suc w) m ≡ without_lowest w (m / 2) * 2 = without_lowest_even w m x in
    let ch : without_lowest (suc w) m / 2 ≡ without_lowest w (m / 2) = omega arith in
    let l : lowest_set (suc w) m * (s % 2) ≡ lowest_set w (m / 2) * (s % 2) * 2 = ap (λ (n : ℕ). n * (s % 2)) (lowest_set_even w m x) ∙ omega arith in
    let q : dealt (suc w) (s / 2) (without_lowest (suc w) m) ≡ dealt w (s / 2) (without_lowest w (m / 2)) * 2 =
    dealt_even w (s / 2) (without_lowest (suc w) m) (omega arith) ∙ ap (λ (n : ℕ). dealt w (s / 2) n * 2) ch in
    dealt_even w s m x ∙ ap (λ (n : ℕ). n * 2) ih ∙ sym (or_even (lowest_set w (m / 2) * (s % 2)) (dealt w (s / 2) (without_lowest w (m / 2)))) ∙ sym (ap₂ bit_or l q)

peel_odd : (w s m : ℕ) → m % 2 ≡ 1 → dealt (suc w) s m ≡ bit_or (lowest_set (suc w) m * (s % 2)) (dealt (suc w) (s / 2) (without_lowest (suc w) m))
peel_odd w s m x =
    let c : without_lowest (suc w) m ≡ m / 2 * 2 = without_lowest_odd w m x in
    let ch : without_lowest (suc w) m / 2 ≡ m / 2 = omega arith in
    let l : lowest_set (suc w) m * (s % 2) ≡ s % 2 = ap (λ (n : ℕ). n * (s % 2)) (lowest_set_odd w m x) ∙ omega arith in
    let q : dealt (suc w) (s / 2) (without_lowest (suc w) m) ≡ dealt w (s / 2) (m / 2) * 2 =
    dealt_even w (s / 2) (without_lowest (suc w) m) (omega arith) ∙ ap (λ (n : ℕ). dealt w (s / 2) n * 2) ch in
    dealt_odd w s m x ∙ sym (or_low (s % 2) (dealt w (s / 2) (m / 2)) (omega arith)) ∙ sym (ap₂ bit_or l q)

pub peel : (w s m : ℕ) → dealt w s m ≡ bit_or (lowest_set w m * (s % 2)) (dealt w (s / 2) (without_lowest w m))
unfolding dealt lowest_set without_lowest
peel zero s m = sym (ap (λ (x : ℕ). bit_or x 0) (zero-mul (s % 2)))
peel (suc w) s m = ⊎_elim (λ x. peel_even w s m x (peel w s (m / 2))) (peel_odd w s m) (digit m)

-- a mask of at most two set digits
pub two_lowest : (w s m : ℕ) → m < 2 ^ w → ones m ≤ 2 → bit_or (lowest_set w m * (s % 2)) (lowest_set w (without_lowest w m) * (s / 2 % 2)) ≡ dealt w s m
two_lowest w s m h l =
    let m₁ : ℕ = without_lowest w m in
    let m₂ : ℕ = without_lowest w m₁ in
    let h₁ : m₁ < 2 ^ w = without_lowest_lt w m h in
    let none : m₂ ≡ 0 = ones_none w m₂ (without_lowest_lt w m₁ h₁) (omega (arith, ones_clear_sub w m₁ h₁, ones_clear_sub w m h)) in
    let rest : dealt w (s / 2 / 2) m₂ ≡ 0 = ap (dealt w (s / 2 / 2)) none ∙ dealt_no_mask w (s / 2 / 2) in
    sym
    (peel w s m
    ∙ ap (bit_or (lowest_set w m * (s % 2)))
    (peel w (s / 2) m₁ ∙ ap (bit_or (lowest_set w m₁ * (s / 2 % 2))) rest ∙ or_zero_r (lowest_set w m₁ * (s / 2 % 2))))

-- one turn of the loop
pub turn : (w r s m : ℕ) → m < 2 ^ w → 0 < m → bit_or (bit_or r (lowest_set w m * (s % 2))) (dealt w (s / 2) (bit_and m (m - 1))) ≡ bit_or r (dealt w s m)
turn w r s m h l =
    ap (λ (n : ℕ). bit_or (bit_or r (lowest_set w m * (s % 2))) (dealt w (s / 2) n)) (and_pred w m h l)
    ∙ or_assoc r (lowest_set w m * (s % 2)) (dealt w (s / 2) (without_lowest w m)) ∙ ap (bit_or r) (sym (peel w s m))

-- ---- source digits from the mask's count on do not count
pub dealt_room : (w s m : ℕ) → m < 2 ^ w → dealt w (s % 2 ^ ones m) m ≡ dealt w s m
unfolding dealt
dealt_room zero s m h = refl
dealt_room (suc w) s m h =
    let p : 2 ^ suc w ≡ 2 ^ w * 2 = pow-suc 2 w in
    ⊎_elim
    (λ (x : m % 2 ≡ 0).
    let c : ones m ≡ ones (m / 2) = omega (arith, ones_step m) in
    dealt_even w (s % 2 ^ ones m) m x ∙ ap (λ (e : ℕ). dealt w (s % 2 ^ e) (m / 2) * 2) c ∙ ap (λ (n : ℕ). n * 2) (dealt_room w s (m / 2) (omega arith)) ∙ sym (dealt_even w s m x))
    (λ (x : m % 2 ≡ 1).
    let c : ones m ≡ suc (ones (m / 2)) = omega (arith, ones_step m) in
    let d : s % 2 ^ ones m ≡ (s / 2 % 2 ^ ones (m / 2)) * 2 + s % 2 = ap (λ (e : ℕ). s % 2 ^ e) c ∙ mod_digit (ones (m / 2)) s in
    let hi : s % 2 ^ ones m / 2 ≡ s / 2 % 2 ^ ones (m / 2) = omega arith in
    omega (arith, dealt_odd w (s % 2 ^ ones m) m x, ap (λ (n : ℕ). dealt w n (m / 2)) hi, dealt_room w (s / 2) (m / 2) (omega arith), dealt_odd w s m x)) (digit m)

-- ---- a run of k digits, and the rest of the mask with the rest of the source
pub regroup_odd : (a p q d : ℕ) → (a * p + q) * 2 + d ≡ a * (p * 2) + (q * 2 + d)
regroup_odd a p q d = let e : a * (p * 2) ≡ a * p * 2 = sym (mul_assoc a p 2) in omega arith

regroup : (a p q d : ℕ) → (a * p + q) * 2 ≡ a * (p * 2) + (q * 2 + 0)
regroup a p q d = let e : a * (p * 2) ≡ a * p * 2 = sym (mul_assoc a p 2) in omega arith

pub dealt_split : (k w s m : ℕ) → dealt (k + w) s m ≡ dealt w (s / 2 ^ ones_in k m) (m / 2 ^ k) * 2 ^ k + dealt k s m
unfolding dealt ones_in
dealt_split zero w s m =
    ap (λ (n : ℕ). dealt n s m) (zero-add w) ∙ sym (omega (arith, ap₂ (dealt w) (div-one s) (div-one m)))
dealt_split (suc k) w s m =
    let e : suc k + w ≡ suc (k + w) = suc-add k w in
    let p : 2 ^ suc k ≡ 2 ^ k * 2 = pow-suc 2 k in
    let mm : m / 2 / 2 ^ k ≡ m / 2 ^ suc k = shr-shr m 1 k ∙ ap (λ (n : ℕ). m / 2 ^ n) (one-add k) in
    ap (λ (n : ℕ). dealt n s m) e
    ∙ ⊎_elim
    (λ (x : m % 2 ≡ 0).
    let a : ℕ = dealt w (s / 2 ^ ones_in k (m / 2)) (m / 2 / 2 ^ k) in
    let c : ones_in (suc k) m ≡ ones_in k (m / 2) = omega arith in
    let g : dealt w (s / 2 ^ ones_in (suc k) m) (m / 2 ^ suc k) ≡ a = ap₂ (λ (u v : ℕ). dealt w (s / 2 ^ u) v) c (sym mm) in
    dealt_even (k + w) s m x ∙ ap (λ (n : ℕ). n * 2) (dealt_split k w s (m / 2)) ∙ regroup a (2 ^ k) (dealt k s (m / 2)) 0
    ∙ sym (ap₂ (λ (u v : ℕ). u + v) (ap₂ (λ (u v : ℕ). u * v) g p) (dealt_even k s m x ∙ sym (add-zero (dealt k s (m / 2) * 2)))))
    (λ (x : m % 2 ≡ 1).
    let a : ℕ = dealt w (s / 2 / 2 ^ ones_in k (m / 2)) (m / 2 / 2 ^ k) in
    let c : ones_in (suc k) m ≡ 1 + ones_in k (m / 2) = omega arith in
    let ss : s / 2 / 2 ^ ones_in k (m / 2) ≡ s / 2 ^ ones_in (suc k) m = shr-shr s 1 (ones_in k (m / 2)) ∙ ap (λ (n : ℕ). s / 2 ^ n) (sym c) in
    let g : dealt w (s / 2 ^ ones_in (suc k) m) (m / 2 ^ suc k) ≡ a = ap₂ (dealt w) (sym ss) (sym mm) in
    dealt_odd (k + w) s m x ∙ ap (λ (n : ℕ). n * 2 + s % 2) (dealt_split k w (s / 2) (m / 2)) ∙ regroup_odd a (2 ^ k) (dealt k (s / 2) (m / 2)) (s % 2)
    ∙ sym (ap₂ (λ (u v : ℕ). u + v) (ap₂ (λ (u v : ℕ). u * v) g p) (dealt_odd k s m x))) (digit m)

pub ones_low : (k m : ℕ) → ones_in k m ≡ ones (m % 2 ^ k)
unfolding ones_in ones
ones_low zero m = ap ones (sym (mod-one m))
ones_low (suc k) m =
    let d : m % 2 ^ suc k ≡ (m / 2 % 2 ^ k) * 2 + m % 2 = mod_digit k m in
    let hi : m % 2 ^ suc k / 2 ≡ m / 2 % 2 ^ k = omega arith in
    let lo : m % 2 ^ suc k % 2 ≡ m % 2 = omega arith in
    sym (ones_step (m % 2 ^ suc k) ∙ ap₂ (λ (u v : ℕ). u + ones v) lo hi ∙ ap (λ (v : ℕ). m % 2 + v) (sym (ones_low k (m / 2))))

-- ---- the published PDEP is the same, by the law that it is composition
composed_even : (w s m : ℕ) → m % 2 ≡ 0 → word_of (compose (bits_of (suc w) m) (bits_of (suc w) s)) ≡ word_of (compose (bits_of w (m / 2)) (bits_of w s)) * 2
unfolding bits_of word_of
composed_even w s m e =
    rw e
    (ap (λ (l : List Bool). word_of l * 2 + 0)
    (sym (compose_cut w (bits_of w (m / 2)) (is_one (s % 2) ∷ bits_of w (s / 2)) (omega (arith, count_le_length (bits_of w (m / 2)), bits_of_length w (m / 2)))) ∙ ap (compose (bits_of w (m / 2))) (take_bits w (suc w) s (omega arith)))
    ∙ add-zero (word_of (compose (bits_of w (m / 2)) (bits_of w s)) * 2))

composed_odd : (w s m : ℕ) → m % 2 ≡ 1 → word_of (compose (bits_of (suc w) m) (bits_of (suc w) s)) ≡ word_of (compose (bits_of w (m / 2)) (bits_of w (s / 2))) * 2 + s % 2
unfolding bits_of word_of
composed_odd w s m e = rw e (ap (λ (d : ℕ). word_of (compose (bits_of w (m / 2)) (bits_of w (s / 2))) * 2 + d) (digit_is_one (s % 2) (omega arith)))

composed_dealt : (w s m : ℕ) → word_of (compose (bits_of w m) (bits_of w s)) ≡ dealt w s m
unfolding bits_of word_of dealt
composed_dealt zero s m = refl
composed_dealt (suc w) s m =
    ⊎_elim
    (λ (x : m % 2 ≡ 0). composed_even w s m x ∙ ap (λ (n : ℕ). n * 2) (composed_dealt w s (m / 2)) ∙ sym (dealt_even w s m x))
    (λ (x : m % 2 ≡ 1). composed_odd w s m x ∙ ap (λ (n : ℕ). n * 2 + s % 2) (composed_dealt w (s / 2) (m / 2)) ∙ sym (dealt_odd w s m x)) (digit m)

pub pdep_dealt : (w s m : ℕ) → pdep w s m ≡ dealt w s m
pdep_dealt w s m = pdep_is w s m ∙ composed_dealt w s m
