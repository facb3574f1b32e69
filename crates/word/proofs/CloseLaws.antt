-- A mask by its holes: the source without its digit at the lowest hole, and that hole closed, collects the same.
-- By recursion over the width, on the holes instead of the mask. Assumes nothing.
use Rattle.std.proofs.Common.{◌≡◌, ℕ, zero, suc, ◌+◌, ◌-◌, ◌*◌, ◌/◌, ◌%◌, ◌^◌, ◌<◌, ◌≤◌, sym, refl, ap, ◌∙◌, ap₂, ⊎_elim, mod-eq_of_lt, pow-suc, arith}
use native.Mathlib.Nat.{max-zero, min-zero}
use lib.Bits.{bit_and, bit_or, and_zero_r, and_mask}
use lib.Count.{ones, ones_step}
use Rattle.network.specs.Lowest.{without_lowest, closed, if_set}
use Rattle.network.proofs.DigitLaws.{digit, and_by, or_by}
use Rattle.network.proofs.LowestLaws.{without_lowest_even, without_lowest_odd, without_lowest_lt, ones_none, ones_clear_sub}
use Rattle.network.proofs.CollectedLaws.{collected, collected_even, collected_odd}
use Rattle.word.proofs.HoleLaws.{under, under_even, under_odd, under_lt, min_one, digit_half, even_half}

-- ---- the source without its digit at the hole, as the code has it
closed_even : (w h s : ℕ) → h % 2 ≡ 0 → closed (suc w) h s ≡ closed w (h / 2) (s / 2) * 2 + s % 2
unfolding closed
closed_even w h s e = rw e

closed_odd : (w h s : ℕ) → h % 2 ≡ 1 → closed (suc w) h s ≡ s / 2
unfolding closed
closed_odd w h s e = rw e

closed_lt : (w h s : ℕ) → s < 2 ^ w → closed w h s < 2 ^ w
unfolding closed
closed_lt zero h s l = omega arith
closed_lt (suc w) h s l =
    let p : 2 ^ suc w ≡ 2 ^ w * 2 = pow-suc 2 w in
    let i : closed w (h / 2) (s / 2) < 2 ^ w = closed_lt w (h / 2) (s / 2) (omega arith) in
    ⊎_elim (λ (x : h % 2 ≡ 0). omega (arith, closed_even w h s x)) (λ (x : h % 2 ≡ 1). omega (arith, closed_odd w h s x)) (digit h)

pub closed_is : (w h s : ℕ) → s < 2 ^ w → bit_or (bit_and s (under w h)) (bit_and (s / 2) (2 ^ w - 1 - under w h)) ≡ closed w h s
unfolding closed under
closed_is zero h s l = let z : s ≡ 0 = omega arith in ap (λ (n : ℕ). bit_or (bit_and n 0) (bit_and (s / 2) 0)) z ∙ and_zero_r (s / 2)
closed_is (suc w) h s l =
    let p : 2 ^ suc w ≡ 2 ^ w * 2 = pow-suc 2 w in
    ⊎_elim
    (λ (x : h % 2 ≡ 0).
    let u : ℕ = under w (h / 2) in
    let ul : u < 2 ^ w = under_lt w (h / 2) in
    let e : under (suc w) h ≡ u * 2 + 1 = under_even w h x in
    let a : bit_and s (under (suc w) h) ≡ bit_and (s / 2) u * 2 + s % 2 =
    and_by s (under (suc w) h) (s / 2) u (s % 2) 1 refl (omega arith) refl (omega arith)
    ∙ ap (λ (n : ℕ). bit_and (s / 2) u * 2 + n) (min_one (s % 2) (omega arith)) in
    let b : bit_and (s / 2) (2 ^ suc w - 1 - under (suc w) h) ≡ bit_and (s / 2 / 2) (2 ^ w - 1 - u) * 2 + 0 =
    and_by (s / 2) (2 ^ suc w - 1 - under (suc w) h) (s / 2 / 2) (2 ^ w - 1 - u) (s / 2 % 2) 0 refl (omega arith) refl (omega arith)
    ∙ ap (λ (n : ℕ). bit_and (s / 2 / 2) (2 ^ w - 1 - u) * 2 + n) (min-zero (s / 2 % 2)) in
    or_by (bit_and s (under (suc w) h)) (bit_and (s / 2) (2 ^ suc w - 1 - under (suc w) h)) (bit_and (s / 2) u) (bit_and (s / 2 / 2) (2 ^ w - 1 - u)) (s % 2) 0
    (omega arith) (omega arith) (omega arith) (omega arith)
    ∙ ap₂ (λ (m n : ℕ). m * 2 + n) (closed_is w (h / 2) (s / 2) (omega arith)) (max-zero (s % 2)) ∙ sym (closed_even w h s x))
    (λ (x : h % 2 ≡ 1).
    let e : under (suc w) h ≡ 0 = under_odd w h x in
    let all : 2 ^ suc w - 1 - 0 ≡ 2 ^ suc w - 1 = omega arith in
    let lt : s / 2 < 2 ^ suc w = omega arith in
    ap (λ (u : ℕ). bit_or (bit_and s u) (bit_and (s / 2) (2 ^ suc w - 1 - u))) e
    ∙ ap₂ (λ (m n : ℕ). bit_or m (bit_and (s / 2) n)) (and_zero_r s) all
    ∙ and_mask (s / 2) (suc w) ∙ mod-eq_of_lt lt ∙ sym (closed_odd w h s x)) (digit h)

-- ---- the extract by the holes h
unfoldable hcol : ℕ → ℕ → ℕ → ℕ
hcol zero s h = zero
hcol (suc w) s h = if_set (h % 2) (hcol w (s / 2) (h / 2)) (hcol w (s / 2) (h / 2) * 2 + s % 2)

hcol_even : (w s h : ℕ) → h % 2 ≡ 0 → hcol (suc w) s h ≡ hcol w (s / 2) (h / 2) * 2 + s % 2
unfolding hcol
hcol_even w s h e = rw e

hcol_odd : (w s h : ℕ) → h % 2 ≡ 1 → hcol (suc w) s h ≡ hcol w (s / 2) (h / 2)
unfolding hcol
hcol_odd w s h e = rw e

-- m and h make all of the w digits
hcol_collected : (w s m h : ℕ) → m + h + 1 ≡ 2 ^ w → hcol w s h ≡ collected w s m
unfolding hcol collected
hcol_collected zero s m h e = refl
hcol_collected (suc w) s m h e =
    let p : 2 ^ suc w ≡ 2 ^ w * 2 = pow-suc 2 w in
    let i : hcol w (s / 2) (h / 2) ≡ collected w (s / 2) (m / 2) = hcol_collected w (s / 2) (m / 2) (h / 2) (omega arith) in
    ⊎_elim (λ (x : h % 2 ≡ 0). omega (arith, hcol_even w s h x, collected_odd w s m (omega arith)))
    (λ (x : h % 2 ≡ 1). omega (arith, hcol_odd w s h x, collected_even w s m (omega arith))) (digit h)

hcol_none : (w s : ℕ) → s < 2 ^ w → hcol w s 0 ≡ s
unfolding hcol
hcol_none zero s l = omega arith
hcol_none (suc w) s l =
    let p : 2 ^ suc w ≡ 2 ^ w * 2 = pow-suc 2 w in
    omega (arith, hcol_even w s 0 refl, hcol_none w (s / 2) (omega arith))

-- a digit more, where the source has none
hcol_wider : (w s h : ℕ) → s < 2 ^ w → hcol (suc w) s h ≡ hcol w s h
unfolding hcol
hcol_wider zero s h l =
    ⊎_elim (λ (x : h % 2 ≡ 0). omega (arith, hcol_even zero s h x)) (λ (x : h % 2 ≡ 1). hcol_odd zero s h x) (digit h)
hcol_wider (suc w) s h l =
    let p : 2 ^ suc w ≡ 2 ^ w * 2 = pow-suc 2 w in
    let i : hcol (suc w) (s / 2) (h / 2) ≡ hcol w (s / 2) (h / 2) = hcol_wider w (s / 2) (h / 2) (omega arith) in
    ⊎_elim (λ (x : h % 2 ≡ 0). omega (arith, hcol_even (suc w) s h x, hcol_even w s h x))
    (λ (x : h % 2 ≡ 1). omega (arith, hcol_odd (suc w) s h x, hcol_odd w s h x)) (digit h)

rest_even : (w h : ℕ) → without_lowest w h % 2 ≡ 0
unfolding without_lowest
rest_even zero h = refl
rest_even (suc w) h =
    ⊎_elim (λ (x : h % 2 ≡ 0). omega (arith, without_lowest_even w h x)) (λ (x : h % 2 ≡ 1). omega (arith, without_lowest_odd w h x)) (digit h)

-- the lowest hole closed
hole_closed : (w s h : ℕ) → s < 2 ^ w → hcol w (closed w h s) (without_lowest w h / 2) ≡ hcol w s h
unfolding hcol closed without_lowest
hole_closed zero s h l = refl
hole_closed (suc w) s h l =
    let p : 2 ^ suc w ≡ 2 ^ w * 2 = pow-suc 2 w in
    ⊎_elim
    (λ (x : h % 2 ≡ 0).
    let g : ℕ = closed w (h / 2) (s / 2) in
    let k : ℕ = without_lowest w (h / 2) in
    let half : without_lowest (suc w) h / 2 ≡ k = ap (λ (n : ℕ). n / 2) (without_lowest_even w h x) ∙ even_half k in
    let hi : (g * 2 + s % 2) / 2 ≡ g = digit_half g (s % 2) (omega arith) in
    let lo : (g * 2 + s % 2) % 2 ≡ s % 2 = omega arith in
    ap₂ (hcol (suc w)) (closed_even w h s x) half ∙ hcol_even w (g * 2 + s % 2) k (rest_even w (h / 2))
    ∙ ap₂ (λ (m n : ℕ). hcol w m (k / 2) * 2 + n) hi lo
    ∙ ap (λ (n : ℕ). n * 2 + s % 2) (hole_closed w (s / 2) (h / 2) (omega arith)) ∙ sym (hcol_even w s h x))
    (λ (x : h % 2 ≡ 1).
    let half : without_lowest (suc w) h / 2 ≡ h / 2 = ap (λ (n : ℕ). n / 2) (without_lowest_odd w h x) ∙ even_half (h / 2) in
    ap₂ (hcol (suc w)) (closed_odd w h s x) half ∙ hcol_wider w (s / 2) (h / 2) (omega arith) ∙ sym (hcol_odd w s h x)) (digit h)

-- at most two holes
pub two_closed : (w s m h : ℕ) → m + h + 1 ≡ 2 ^ w → ones h ≤ 2 → s < 2 ^ w → closed w (without_lowest w h / 2) (closed w h s) ≡ collected w s m
two_closed w s m h e l ls =
    let lt : h < 2 ^ w = omega arith in
    let h₁ : ℕ = without_lowest w h / 2 in
    let lt₁ : h₁ < 2 ^ w = omega (arith, without_lowest_lt w h lt) in
    let few : ones h₁ ≤ 1 = omega (arith, ones_step (without_lowest w h), rest_even w h, ones_clear_sub w h lt) in
    let none : without_lowest w h₁ ≡ 0 = ones_none w (without_lowest w h₁) (without_lowest_lt w h₁ lt₁) (omega (arith, ones_clear_sub w h₁ lt₁)) in
    let gone : without_lowest w h₁ / 2 ≡ 0 = omega arith in
    let s₁ : ℕ = closed w h s in
    let ls₁ : s₁ < 2 ^ w = closed_lt w h s ls in
    let s₂ : ℕ = closed w h₁ s₁ in
    sym (ap (hcol w s₂) gone ∙ hcol_none w s₂ (closed_lt w h₁ s₁ ls₁)) ∙ hole_closed w s₁ h₁ ls₁ ∙ hole_closed w s h ls ∙ hcol_collected w s m h e
