-- A mask by its holes: the source moved up past the lowest hole, and the hole filled, deposits the same outside the hole.
-- By recursion over the width, on the holes instead of the mask. Assumes nothing.
use Rattle.std.proofs.Common.{◌≡◌, ℕ, zero, suc, ◌+◌, ◌-◌, ◌*◌, ◌/◌, ◌%◌, ◌^◌, ◌<◌, ◌≤◌, min, ◌⊎◌, sym, refl, ap, ◌∙◌, ap₂, inl, inr, ⊎_elim, mod-lt, mod-eq_of_lt, pow-suc, add-one, one-add, arith, pow_pos}
use native.Mathlib.Nat.{max-zero, min-zero}
use lib.Pow.{mod-mod-pow}
use lib.Bits.{bit_and, bit_or, and_zero_r, and_mask}
use lib.Count.{ones, ones_step}
use Rattle.network.specs.Lowest.{lowest_set, without_lowest, past_hole, if_set}
use Rattle.network.proofs.DigitLaws.{digit, mod_digit, and_by, or_by}
use Rattle.network.proofs.LowestLaws.{lowest_set_even, lowest_set_odd, without_lowest_even, without_lowest_odd, without_lowest_lt, ones_none, ones_clear_sub, ones_zero}
use Rattle.network.proofs.DealtLaws.{dealt, dealt_even, dealt_odd}

-- ---- the digits below the lowest set digit of h; all w where none is set
unfoldable pub under : ℕ → ℕ → ℕ
under zero h = zero
under (suc w) h = if_set (h % 2) 0 (under w (h / 2) * 2 + 1)

pub under_even : (w h : ℕ) → h % 2 ≡ 0 → under (suc w) h ≡ under w (h / 2) * 2 + 1
unfolding under
under_even w h e = rw e

pub under_odd : (w h : ℕ) → h % 2 ≡ 1 → under (suc w) h ≡ 0
unfolding under
under_odd w h e = rw e

pub under_low : (w h : ℕ) → (under w h + 1 ≡ lowest_set w h) ⊎ ((lowest_set w h ≡ 0) × (under w h + 1 ≡ 2 ^ w))
unfolding under lowest_set
under_low zero h = inr (refl, refl)
under_low (suc w) h =
    let p : 2 ^ suc w ≡ 2 ^ w * 2 = pow-suc 2 w in
    ⊎_elim
    (λ (x : h % 2 ≡ 0).
    let u : under (suc w) h ≡ under w (h / 2) * 2 + 1 = under_even w h x in
    let l : lowest_set (suc w) h ≡ lowest_set w (h / 2) * 2 = lowest_set_even w h x in
    ⊎_elim (λ (i : under w (h / 2) + 1 ≡ lowest_set w (h / 2)). inl (omega arith))
    (λ (i : (lowest_set w (h / 2) ≡ 0) × (under w (h / 2) + 1 ≡ 2 ^ w)). inr (omega (arith, i.0), omega (arith, i.1))) (under_low w (h / 2)))
    (λ (x : h % 2 ≡ 1). inl (omega (arith, under_odd w h x, lowest_set_odd w h x))) (digit h)

pub under_lt : (w h : ℕ) → under w h < 2 ^ w
unfolding under
under_lt zero h = omega arith
under_lt (suc w) h =
    let p : 2 ^ suc w ≡ 2 ^ w * 2 = pow-suc 2 w in
    let i : under w (h / 2) < 2 ^ w = under_lt w (h / 2) in
    ⊎_elim (λ (x : h % 2 ≡ 0). omega (arith, under_even w h x)) (λ (x : h % 2 ≡ 1). omega (arith, under_odd w h x)) (digit h)

-- ---- the source past the hole, as the code has it
pub past_hole_even : (w h c s : ℕ) → h % 2 ≡ 0 → past_hole (suc w) h c s ≡ past_hole w (h / 2) (s % 2) (s / 2) * 2 + s % 2
unfolding past_hole
past_hole_even w h c s e = rw e

pub past_hole_odd : (w h c s : ℕ) → h % 2 ≡ 1 → past_hole (suc w) h c s ≡ (s * 2 + c) % 2 ^ suc w
unfolding past_hole
past_hole_odd w h c s e = rw e

shifted : (w c s : ℕ) → c < 2 → (s * 2 + c) % 2 ^ suc w ≡ (s % 2 ^ w) * 2 + c
shifted w c s hc =
    let a : (s * 2 + c) / 2 ≡ s = omega arith in
    let b : (s * 2 + c) % 2 ≡ c = omega arith in
    mod_digit w (s * 2 + c) ∙ ap₂ (λ (x y : ℕ). (x % 2 ^ w) * 2 + y) a b

pub past_hole_lt : (w h c s : ℕ) → past_hole w h c s < 2 ^ w
unfolding past_hole
past_hole_lt zero h c s = omega arith
past_hole_lt (suc w) h c s =
    let p : 2 ^ suc w ≡ 2 ^ w * 2 = pow-suc 2 w in
    ⊎_elim (λ (x : h % 2 ≡ 0). omega (arith, past_hole_even w h c s x, past_hole_lt w (h / 2) (s % 2) (s / 2)))
    (λ (x : h % 2 ≡ 1). omega (arith, past_hole_odd w h c s x, mod-lt (s * 2 + c) (pow_pos (suc w)))) (digit h)

pub min_one : (d : ℕ) → d < 2 → min d 1 ≡ d
min_one zero h = refl
min_one (suc zero) h = refl
min_one (suc (suc d)) h = absurd (omega arith)

pub past_hole_is : (w h c s : ℕ) → s < 2 ^ w → c < 2 → bit_or (bit_and s (under w h)) (bit_and ((s * 2 + c) % 2 ^ w) (2 ^ w - 1 - under w h)) ≡ past_hole w h c s
unfolding past_hole under
past_hole_is zero h c s hs hc = let z : s ≡ 0 = omega arith in ap (λ (n : ℕ). bit_or (bit_and n 0) (bit_and ((s * 2 + c) % 1) 0)) z ∙ and_zero_r ((s * 2 + c) % 1)
past_hole_is (suc w) h c s hs hc =
    let p : 2 ^ suc w ≡ 2 ^ w * 2 = pow-suc 2 w in
    let sh : (s * 2 + c) % 2 ^ suc w ≡ (s % 2 ^ w) * 2 + c = shifted w c s hc in
    ⊎_elim
    (λ (x : h % 2 ≡ 0).
    let u : ℕ = under w (h / 2) in
    let ul : u < 2 ^ w = under_lt w (h / 2) in
    let e : under (suc w) h ≡ u * 2 + 1 = under_even w h x in
    let same : s / 2 * 2 + s % 2 ≡ s = omega arith in
    let a : bit_and s (under (suc w) h) ≡ bit_and (s / 2) u * 2 + s % 2 =
    and_by s (under (suc w) h) (s / 2) u (s % 2) 1 refl (omega arith) refl (omega arith) ∙ ap (λ (n : ℕ). bit_and (s / 2) u * 2 + n) (min_one (s % 2) (omega arith)) in
    let b : bit_and ((s * 2 + c) % 2 ^ suc w) (2 ^ suc w - 1 - under (suc w) h) ≡ bit_and (s % 2 ^ w) (2 ^ w - 1 - u) * 2 + 0 =
    and_by ((s * 2 + c) % 2 ^ suc w) (2 ^ suc w - 1 - under (suc w) h) (s % 2 ^ w) (2 ^ w - 1 - u) c 0 (omega arith) (omega arith) (omega arith) (omega arith)
    ∙ ap (λ (n : ℕ). bit_and (s % 2 ^ w) (2 ^ w - 1 - u) * 2 + n) (min-zero c) in
    let i : bit_or (bit_and (s / 2) u) (bit_and (s % 2 ^ w) (2 ^ w - 1 - u)) ≡ past_hole w (h / 2) (s % 2) (s / 2) =
    ap (λ (n : ℕ). bit_or (bit_and (s / 2) u) (bit_and (n % 2 ^ w) (2 ^ w - 1 - u))) (sym same) ∙ past_hole_is w (h / 2) (s % 2) (s / 2) (omega arith) (omega arith) in
    or_by (bit_and s (under (suc w) h)) (bit_and ((s * 2 + c) % 2 ^ suc w) (2 ^ suc w - 1 - under (suc w) h)) (bit_and (s / 2) u) (bit_and (s % 2 ^ w) (2 ^ w - 1 - u)) (s % 2) 0
    (omega arith) (omega arith) (omega arith) (omega arith)
    ∙ ap₂ (λ (m n : ℕ). m * 2 + n) i (max-zero (s % 2)) ∙ sym (past_hole_even w h c s x))
    (λ (x : h % 2 ≡ 1).
    let e : under (suc w) h ≡ 0 = under_odd w h x in
    let all : 2 ^ suc w - 1 - 0 ≡ 2 ^ suc w - 1 = omega arith in
    ap (λ (u : ℕ). bit_or (bit_and s u) (bit_and ((s * 2 + c) % 2 ^ suc w) (2 ^ suc w - 1 - u))) e
    ∙ ap₂ (λ (m n : ℕ). bit_or m (bit_and ((s * 2 + c) % 2 ^ suc w) n)) (and_zero_r s) all
    ∙ and_mask ((s * 2 + c) % 2 ^ suc w) (suc w) ∙ mod-eq_of_lt (mod-lt (s * 2 + c) (pow_pos (suc w))) ∙ sym (past_hole_odd w h c s x)) (digit h)

-- ---- the deposit by the holes h, and a word without the digits of h
unfoldable pub hdep : ℕ → ℕ → ℕ → ℕ
hdep zero s h = zero
hdep (suc w) s h = if_set (h % 2) (hdep w s (h / 2) * 2) (hdep w (s / 2) (h / 2) * 2 + s % 2)

unfoldable pub lack : ℕ → ℕ → ℕ → ℕ
lack zero x h = zero
lack (suc w) x h = if_set (h % 2) (lack w (x / 2) (h / 2) * 2) (lack w (x / 2) (h / 2) * 2 + x % 2)

hdep_even : (w s h : ℕ) → h % 2 ≡ 0 → hdep (suc w) s h ≡ hdep w (s / 2) (h / 2) * 2 + s % 2
unfolding hdep
hdep_even w s h e = rw e

hdep_odd : (w s h : ℕ) → h % 2 ≡ 1 → hdep (suc w) s h ≡ hdep w s (h / 2) * 2
unfolding hdep
hdep_odd w s h e = rw e

lack_even : (w x h : ℕ) → h % 2 ≡ 0 → lack (suc w) x h ≡ lack w (x / 2) (h / 2) * 2 + x % 2
unfolding lack
lack_even w x h e = rw e

lack_odd : (w x h : ℕ) → h % 2 ≡ 1 → lack (suc w) x h ≡ lack w (x / 2) (h / 2) * 2
unfolding lack
lack_odd w x h e = rw e

-- m and h make all of the w digits
pub hdep_dealt : (w s m h : ℕ) → m + h + 1 ≡ 2 ^ w → dealt w s m ≡ hdep w s h
unfolding hdep dealt
hdep_dealt zero s m h e = refl
hdep_dealt (suc w) s m h e =
    let p : 2 ^ suc w ≡ 2 ^ w * 2 = pow-suc 2 w in
    let half : m / 2 + h / 2 + 1 ≡ 2 ^ w = omega arith in
    ⊎_elim (λ (x : h % 2 ≡ 0). omega (arith, hdep_even w s h x, dealt_odd w s m (omega arith), hdep_dealt w (s / 2) (m / 2) (h / 2) half))
    (λ (x : h % 2 ≡ 1). omega (arith, hdep_odd w s h x, dealt_even w s m (omega arith), hdep_dealt w s (m / 2) (h / 2) half)) (digit h)

pub lack_and : (w x m h : ℕ) → m + h + 1 ≡ 2 ^ w → x < 2 ^ w → bit_and x m ≡ lack w x h
unfolding lack
lack_and zero x m h e l = let z : x ≡ 0 = omega arith in rw z
lack_and (suc w) x m h e l =
    let p : 2 ^ suc w ≡ 2 ^ w * 2 = pow-suc 2 w in
    let i : bit_and (x / 2) (m / 2) ≡ lack w (x / 2) (h / 2) = lack_and w (x / 2) (m / 2) (h / 2) (omega arith) (omega arith) in
    ⊎_elim
    (λ (t : h % 2 ≡ 0).
    omega (arith, and_by x m (x / 2) (m / 2) (x % 2) 1 refl refl refl (omega arith), min_one (x % 2) (omega arith), lack_even w x h t))
    (λ (t : h % 2 ≡ 1). omega (arith, and_by x m (x / 2) (m / 2) (x % 2) 0 refl refl refl (omega arith), min-zero (x % 2), lack_odd w x h t)) (digit h)

pub ones_comp : (w m h : ℕ) → m + h + 1 ≡ 2 ^ w → ones m + ones h ≡ w
ones_comp zero m h e =
    let a : m ≡ 0 = omega arith in
    let b : h ≡ 0 = omega arith in
    ap₂ (λ (x y : ℕ). ones x + ones y) a b ∙ omega (arith, ones_zero)
ones_comp (suc w) m h e =
    let p : 2 ^ suc w ≡ 2 ^ w * 2 = pow-suc 2 w in
    omega (arith, ones_step m, ones_step h, ones_comp w (m / 2) (h / 2) (omega arith), add-one w)

-- a word by its lowest digit
pub even_half : (a : ℕ) → a * 2 / 2 ≡ a
even_half a = omega arith

pub digit_half : (a d : ℕ) → d < 2 → (a * 2 + d) / 2 ≡ a
digit_half a d h = omega arith

hdep_lack : (w s h : ℕ) → lack w (hdep w s h) h ≡ hdep w s h
unfolding hdep lack
hdep_lack zero s h = refl
hdep_lack (suc w) s h =
    ⊎_elim
    (λ (x : h % 2 ≡ 0).
    let e : hdep (suc w) s h ≡ hdep w (s / 2) (h / 2) * 2 + s % 2 = hdep_even w s h x in
    let f : hdep (suc w) s h / 2 ≡ hdep w (s / 2) (h / 2) = omega arith in
    omega (arith, lack_even w (hdep (suc w) s h) h x, ap (λ (n : ℕ). lack w n (h / 2)) f, hdep_lack w (s / 2) (h / 2)))
    (λ (x : h % 2 ≡ 1).
    let e : hdep (suc w) s h ≡ hdep w s (h / 2) * 2 = hdep_odd w s h x in
    let f : hdep (suc w) s h / 2 ≡ hdep w s (h / 2) = omega arith in
    omega (arith, lack_odd w (hdep (suc w) s h) h x, ap (λ (n : ℕ). lack w n (h / 2)) f, hdep_lack w s (h / 2))) (digit h)

hdep_mod : (w s h : ℕ) → hdep w (s % 2 ^ w) h ≡ hdep w s h
unfolding hdep
hdep_mod zero s h = refl
hdep_mod (suc w) s h =
    let d : s % 2 ^ suc w ≡ (s / 2 % 2 ^ w) * 2 + s % 2 = mod_digit w s in
    ⊎_elim
    (λ (x : h % 2 ≡ 0).
    let f : s % 2 ^ suc w / 2 ≡ s / 2 % 2 ^ w = omega arith in
    omega (arith, hdep_even w (s % 2 ^ suc w) h x, hdep_even w s h x, ap (λ (n : ℕ). hdep w n (h / 2)) f, hdep_mod w (s / 2) (h / 2)))
    (λ (x : h % 2 ≡ 1).
    let f : s % 2 ^ suc w % 2 ^ w ≡ s % 2 ^ w = ap (λ (e : ℕ). s % 2 ^ e % 2 ^ w) (sym (one-add w)) ∙ mod-mod-pow s 1 w in
    let g : hdep w (s % 2 ^ suc w) (h / 2) ≡ hdep w s (h / 2) =
    sym (hdep_mod w (s % 2 ^ suc w) (h / 2)) ∙ ap (λ (n : ℕ). hdep w n (h / 2)) f ∙ hdep_mod w s (h / 2) in
    omega (arith, hdep_odd w (s % 2 ^ suc w) h x, hdep_odd w s h x)) (digit h)

hdep_none : (w s : ℕ) → s < 2 ^ w → hdep w s 0 ≡ s
unfolding hdep
hdep_none zero s h = omega arith
hdep_none (suc w) s h =
    let p : 2 ^ suc w ≡ 2 ^ w * 2 = pow-suc 2 w in
    omega (arith, hdep_even w s 0 refl, hdep_none w (s / 2) (omega arith))

-- the lowest hole filled
hole_step : (w c s h : ℕ) → c < 2 → lack w (hdep w (past_hole w h c s) (without_lowest w h)) h ≡ hdep w s h
unfolding hdep lack past_hole without_lowest
hole_step zero c s h hc = refl
hole_step (suc w) c s h hc =
    ⊎_elim
    (λ (x : h % 2 ≡ 0).
    let g : ℕ = past_hole w (h / 2) (s % 2) (s / 2) in
    let k : ℕ = without_lowest w (h / 2) in
    let y : ℕ = hdep (suc w) (past_hole (suc w) h c s) (without_lowest (suc w) h) in
    let e : y ≡ hdep (suc w) (g * 2 + s % 2) (k * 2) = ap₂ (λ (m n : ℕ). hdep (suc w) m n) (past_hole_even w h c s x) (without_lowest_even w h x) in
    let i : (g * 2 + s % 2) / 2 ≡ g = digit_half g (s % 2) (omega arith) in
    let f : y ≡ hdep w g k * 2 + s % 2 =
    e ∙ hdep_even w (g * 2 + s % 2) (k * 2) (omega arith) ∙ ap₂ (λ (m n : ℕ). hdep w m n * 2 + (g * 2 + s % 2) % 2) i (even_half k) ∙ omega arith in
    let fh : y / 2 ≡ hdep w g k = omega arith in
    omega (arith, lack_even w y h x, ap (λ (n : ℕ). lack w n (h / 2)) fh, hole_step w (s % 2) (s / 2) (h / 2) (omega arith), hdep_even w s h x))
    (λ (x : h % 2 ≡ 1).
    let g : ℕ = (s * 2 + c) % 2 ^ suc w in
    let gs : g ≡ (s % 2 ^ w) * 2 + c = shifted w c s hc in
    let i : g / 2 ≡ s % 2 ^ w = omega arith in
    let y : ℕ = hdep (suc w) (past_hole (suc w) h c s) (without_lowest (suc w) h) in
    let e : y ≡ hdep (suc w) g (h / 2 * 2) = ap₂ (λ (m n : ℕ). hdep (suc w) m n) (past_hole_odd w h c s x) (without_lowest_odd w h x) in
    let f : y ≡ hdep w (s % 2 ^ w) (h / 2) * 2 + g % 2 =
    e ∙ hdep_even w g (h / 2 * 2) (omega arith) ∙ ap₂ (λ (m n : ℕ). hdep w m n * 2 + g % 2) i (even_half (h / 2)) in
    let fh : y / 2 ≡ hdep w (s % 2 ^ w) (h / 2) = omega arith in
    omega (arith, lack_odd w y h x, ap (λ (n : ℕ). lack w n (h / 2)) fh, ap (λ (n : ℕ). lack w n (h / 2)) (hdep_mod w s (h / 2)), hdep_lack w s (h / 2), hdep_odd w s h x)) (digit h)

lack_twice : (w x h : ℕ) → lack w (lack w x h) h ≡ lack w x h
unfolding lack
lack_twice zero x h = refl
lack_twice (suc w) x h =
    let i : lack w (lack w (x / 2) (h / 2)) (h / 2) ≡ lack w (x / 2) (h / 2) = lack_twice w (x / 2) (h / 2) in
    ⊎_elim
    (λ (t : h % 2 ≡ 0).
    let e : lack (suc w) x h ≡ lack w (x / 2) (h / 2) * 2 + x % 2 = lack_even w x h t in
    let f : lack (suc w) x h / 2 ≡ lack w (x / 2) (h / 2) = omega arith in
    omega (arith, lack_even w (lack (suc w) x h) h t, ap (λ (n : ℕ). lack w n (h / 2)) f))
    (λ (t : h % 2 ≡ 1).
    let e : lack (suc w) x h ≡ lack w (x / 2) (h / 2) * 2 = lack_odd w x h t in
    let f : lack (suc w) x h / 2 ≡ lack w (x / 2) (h / 2) = omega arith in
    omega (arith, lack_odd w (lack (suc w) x h) h t, ap (λ (n : ℕ). lack w n (h / 2)) f)) (digit h)

lack_lack : (w x h : ℕ) → lack w (lack w x (without_lowest w h)) h ≡ lack w x h
unfolding lack without_lowest
lack_lack zero x h = refl
lack_lack (suc w) x h =
    ⊎_elim
    (λ (t : h % 2 ≡ 0).
    let k : ℕ = without_lowest w (h / 2) in
    let y : ℕ = lack (suc w) x (without_lowest (suc w) h) in
    let f : y ≡ lack w (x / 2) k * 2 + x % 2 =
    ap (lack (suc w) x) (without_lowest_even w h t) ∙ lack_even w x (k * 2) (omega arith) ∙ ap (λ (n : ℕ). lack w (x / 2) n * 2 + x % 2) (even_half k) in
    let fh : y / 2 ≡ lack w (x / 2) k = omega arith in
    omega (arith, lack_even w y h t, ap (λ (n : ℕ). lack w n (h / 2)) fh, lack_lack w (x / 2) (h / 2), lack_even w x h t))
    (λ (t : h % 2 ≡ 1).
    let y : ℕ = lack (suc w) x (without_lowest (suc w) h) in
    let f : y ≡ lack w (x / 2) (h / 2) * 2 + x % 2 =
    ap (lack (suc w) x) (without_lowest_odd w h t) ∙ lack_even w x (h / 2 * 2) (omega arith) ∙ ap (λ (n : ℕ). lack w (x / 2) n * 2 + x % 2) (even_half (h / 2)) in
    let fh : y / 2 ≡ lack w (x / 2) (h / 2) = omega arith in
    omega (arith, lack_odd w y h t, ap (λ (n : ℕ). lack w n (h / 2)) fh, lack_twice w (x / 2) (h / 2), lack_odd w x h t)) (digit h)

-- at most two holes
pub two_holes : (w s m h : ℕ) → m + h + 1 ≡ 2 ^ w → ones h ≤ 2 → bit_and (past_hole w (without_lowest w h) 0 (past_hole w h 0 s)) m ≡ dealt w s m
two_holes w s m h e l =
    let lt : h < 2 ^ w = omega arith in
    let h₁ : ℕ = without_lowest w h in
    let h₂ : ℕ = without_lowest w h₁ in
    let l₁ : h₁ < 2 ^ w = without_lowest_lt w h lt in
    let none : h₂ ≡ 0 = ones_none w h₂ (without_lowest_lt w h₁ l₁) (omega (arith, ones_clear_sub w h₁ l₁, ones_clear_sub w h lt)) in
    let g₁ : ℕ = past_hole w h 0 s in
    let g₂ : ℕ = past_hole w h₁ 0 g₁ in
    let last : hdep w g₂ h₂ ≡ g₂ = ap (hdep w g₂) none ∙ hdep_none w g₂ (past_hole_lt w h₁ 0 g₁) in
    lack_and w g₂ m h e (past_hole_lt w h₁ 0 g₁) ∙ sym (lack_lack w g₂ h) ∙ ap (λ (n : ℕ). lack w (lack w n h₁) h) (sym last)
    ∙ ap (λ (n : ℕ). lack w n h) (hole_step w 0 g₁ h₁ (omega arith)) ∙ hole_step w 0 s h (omega arith) ∙ sym (hdep_dealt w s m h e)

-- the code's `hole - 1`, wrapped, is the digits below the hole
pub below_hole : (h b : ℕ) → b < 2 ^ 64 → (b + 1) % 2 ^ 64 ≡ lowest_set 64 h → b ≡ under 64 h
below_hole h b hb e =
    ⊎_elim (λ (i : under 64 h + 1 ≡ lowest_set 64 h). omega (arith, under_lt 64 h))
    (λ (i : (lowest_set 64 h ≡ 0) × (under 64 h + 1 ≡ 2 ^ 64)). omega (arith, i.0, i.1)) (under_low 64 h)
