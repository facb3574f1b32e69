-- The byte network gives the published PDEP: each stage undone acts on each byte by itself, and a byte is the computed test.
-- The bytes together are the deposit by the split law, a byte at a time. Assumes nothing.
use Rattle.std.proofs.Common.{◌≡◌, ℕ, zero, suc, ◌+◌, ◌-◌, ◌*◌, ◌/◌, ◌%◌, ◌^◌, ◌<◌, [], ◌∷◌, sym, refl, ap, ◌∙◌, subst, ap₂, ⊎_elim, lt_of_lt_of_le, lt_of_le_of_lt, add-zero, mod-eq_of_lt, mul-lt-mul_of_pos_right, div-one, one-add, arith, pow_pos, pow_mono, pow-add}
use lib.Pow.{mod-mod-pow}
use lib.Bits.{bit_and, bit_or, and_le_r, or_lt}
use lib.Count.{ones}
use Rattle.rows.specs.Pdep.{pdep}
use Rattle.network.specs.Lanes.{each2, each, before, gathered, undo, undo_from, packed_at, landed_at}
use Rattle.network.proofs.DigitLaws.{digit, mod_digit}
use Rattle.network.proofs.DealtLaws.{dealt, dealt_even, dealt_odd, dealt_split, ones_low, pdep_dealt}
use Rattle.network.proofs.LaneLaws.{Bounded, each2_lt, each2_not, each2_and, each2_or, each2_ext, each2_fst, each2_snd, each2_only, each2_scale}
use Rattle.network.proofs.NetworkLaws.{snd_bound, fst_bound, and_bound, packed_at_bound, landed_at_lt}
use Rattle.network.proofs.GatherLaws.{unit, incl, incl_is, excl_is, excl_before, room_counts, lows, lows_lt, gathered_lows}
use Rattle.network.proofs.ByteLaw.{byte_law}

-- ---- a stage undone, byte by byte
module _ (j k : ℕ) (e : j + k ≡ 8) (l : ℕ → ℕ) (hl : (b : ℕ) → b < 256 → l b < 2 ^ j) (f : ℕ → ℕ → ℕ) (hf : Bounded f) where
  lb : Bounded (λ a b. l b)
  lb a b ha hb = lt_of_lt_of_le (hl b hb) (pow_mono {j = 8} (omega arith))

  up : ℕ → ℕ → ℕ
  up a b = bit_and (f a b) (l b) * 2 ^ k

  up_bound : Bounded up
  unfolding up
  up_bound a b ha hb =
      subst (λ (n : ℕ). bit_and (f a b) (l b) * 2 ^ k < n) (sym (pow-add 2 j k) ∙ ap (λ (w : ℕ). 2 ^ w) e)
      (mul-lt-mul_of_pos_right (lt_of_le_of_lt (and_le_r (f a b) (l b)) (hl b hb)) (pow_pos k))

  stay : ℕ → ℕ → ℕ
  stay a b = bit_and (f a b) (255 - l b)

  stay_bound : Bounded stay
  unfolding stay
  stay_bound = and_bound f (λ a b. 255 - l b) hf

  pub undo_bound : Bounded (λ a b. undo 8 k (l b) (f a b))
  unfolding stay up
  undo_bound a b ha hb = or_lt 8 (stay a b) ((up a b) % 256) (stay_bound a b ha hb) (omega arith)

  pub undo_is : (x y : ℕ) → undo 64 k (each l 8 y) (each2 f 8 x y) ≡ each2 (λ a b. undo 8 k (l b) (f a b)) 8 x y
  unfolding stay up
  undo_is x y =
      let L : ℕ = each2 (λ a b. l b) 8 x y in
      let R : ℕ = each2 f 8 x y in
      let s : each l 8 y ≡ L = each2_only l 8 y x y in
      let n : 2 ^ 64 - 1 - L ≡ each2 (λ a b. 255 - l b) 8 x y = omega (arith, each2_not (λ a b. l b) lb 8 x y) in
      let a : bit_and R (2 ^ 64 - 1 - L) ≡ each2 stay 8 x y = ap (bit_and R) n ∙ each2_and f (λ a b. 255 - l b) hf (λ a b ha hb. omega arith) 8 x y in
      let b : bit_and R L * 2 ^ k ≡ each2 up 8 x y =
      ap (λ (v : ℕ). v * 2 ^ k) (each2_and f (λ a b. l b) hf lb 8 x y) ∙ each2_scale (λ a b. bit_and (f a b) (l b)) (2 ^ k) 8 x y in
      let d : (bit_and R L * 2 ^ k) % 2 ^ 64 ≡ each2 up 8 x y = ap (λ (v : ℕ). v % 2 ^ 64) b ∙ mod-eq_of_lt (each2_lt up up_bound 8 x y) in
      ap (λ (v : ℕ). undo 64 k v R) s ∙ ap₂ bit_or a d ∙ each2_or stay up stay_bound up_bound 8 x y
      ∙ each2_ext (λ a b. bit_or (stay a b) (up a b)) (λ a b. undo 8 k (l b) (f a b)) (λ a b ha hb. ap (bit_or (stay a b)) (sym (mod-eq_of_lt (up_bound a b ha hb)))) 8 x y

-- ---- the network on the source bits of each byte
module _ (x m : ℕ) (hx : x < 2 ^ 64) (hm : m < 2 ^ 64) where
  f₀ : ℕ → ℕ → ℕ
  f₀ a b = bit_and a (packed_at 3 b)

  f₀_bound : Bounded f₀
  unfolding f₀
  f₀_bound = and_bound (λ a b. a) (λ a b. packed_at 3 b) fst_bound

  f₁ : ℕ → ℕ → ℕ
  f₁ a b = undo 8 4 (landed_at 2 b) (f₀ a b)

  f₁_bound : Bounded f₁
  unfolding f₁
  f₁_bound = undo_bound 4 4 refl (landed_at 2) (landed_at_lt 2 4 refl) f₀ f₀_bound

  f₂ : ℕ → ℕ → ℕ
  f₂ a b = undo 8 2 (landed_at 1 b) (f₁ a b)

  f₂_bound : Bounded f₂
  unfolding f₂
  f₂_bound = undo_bound 6 2 refl (landed_at 1) (landed_at_lt 1 6 refl) f₁ f₁_bound

  f₃ : ℕ → ℕ → ℕ
  f₃ a b = undo 8 1 (landed_at 0 b) (f₂ a b)

  f₃_bound : Bounded f₃
  unfolding f₃
  f₃_bound = undo_bound 7 1 refl (landed_at 0) (landed_at_lt 0 7 refl) f₂ f₂_bound

  start : bit_and x (each (packed_at 3) 8 m) ≡ each2 f₀ 8 x m
  unfolding f₀
  start =
      ap₂ bit_and (sym (each2_fst 8 x m hx)) (each2_only (packed_at 3) 8 m x m) ∙ each2_and (λ a b. a) (λ a b. packed_at 3 b) fst_bound (packed_at_bound 3) 8 x m

  pub network_is : bit_and (undo 64 1 (each (landed_at 0) 8 m) (undo 64 2 (each (landed_at 1) 8 m) (undo 64 4 (each (landed_at 2) 8 m) (bit_and x (each (packed_at 3) 8 m))))) m ≡ each2 (λ a b. dealt 8 a b) 8 x m
  unfolding f₀ f₁ f₂ f₃
  network_is =
      let e₁ : undo 64 4 (each (landed_at 2) 8 m) (bit_and x (each (packed_at 3) 8 m)) ≡ each2 f₁ 8 x m =
      ap (undo 64 4 (each (landed_at 2) 8 m)) start ∙ undo_is 4 4 refl (landed_at 2) (landed_at_lt 2 4 refl) f₀ f₀_bound x m in
      let e₂ : undo 64 2 (each (landed_at 1) 8 m) (undo 64 4 (each (landed_at 2) 8 m) (bit_and x (each (packed_at 3) 8 m))) ≡ each2 f₂ 8 x m =
      ap (undo 64 2 (each (landed_at 1) 8 m)) e₁ ∙ undo_is 6 2 refl (landed_at 1) (landed_at_lt 1 6 refl) f₁ f₁_bound x m in
      ap (λ (v : ℕ). bit_and (undo 64 1 (each (landed_at 0) 8 m) v) m) e₂ ∙ ap (λ (v : ℕ). bit_and v m) (undo_is 7 1 refl (landed_at 0) (landed_at_lt 0 7 refl) f₂ f₂_bound x m)
      ∙ ap (bit_and (each2 f₃ 8 x m)) (sym (each2_snd 8 x m hm)) ∙ each2_and f₃ (λ a b. b) f₃_bound snd_bound 8 x m
      ∙ each2_ext (λ a b. bit_and (f₃ a b) b) (λ a b. dealt 8 a b) (λ a b ha hb. byte_law a b hb) 8 x m

-- ---- the deposit, a byte at a time
dealt_low_mask : (w s m : ℕ) → dealt w s (m % 2 ^ w) ≡ dealt w s m
unfolding dealt
dealt_low_mask zero s m = refl
dealt_low_mask (suc w) s m =
    let d : m % 2 ^ suc w ≡ (m / 2 % 2 ^ w) * 2 + m % 2 = mod_digit w m in
    let hi : m % 2 ^ suc w / 2 ≡ m / 2 % 2 ^ w = omega arith in
    let lo : m % 2 ^ suc w % 2 ≡ m % 2 = omega arith in
    ap₂ (λ (u v : ℕ). dealt w (s / 2 ^ u) v * 2 + u * (s % 2)) lo hi ∙ ap (λ (v : ℕ). v * 2 + (m % 2) * (s % 2)) (dealt_low_mask w (s / 2 ^ (m % 2)) (m / 2))

dealt_low_source : (w s m : ℕ) → dealt w (s % 2 ^ w) m ≡ dealt w s m
unfolding dealt
dealt_low_source zero s m = refl
dealt_low_source (suc w) s m =
    let d : s % 2 ^ suc w ≡ (s / 2 % 2 ^ w) * 2 + s % 2 = mod_digit w s in
    ⊎_elim
    (λ (x : m % 2 ≡ 0).
    let f : s % 2 ^ suc w % 2 ^ w ≡ s % 2 ^ w = ap (λ (e : ℕ). s % 2 ^ e % 2 ^ w) (sym (one-add w)) ∙ mod-mod-pow s 1 w in
    let g : dealt w (s % 2 ^ suc w) (m / 2) ≡ dealt w s (m / 2) =
    sym (dealt_low_source w (s % 2 ^ suc w) (m / 2)) ∙ ap (λ (n : ℕ). dealt w n (m / 2)) f ∙ dealt_low_source w s (m / 2) in
    omega (arith, dealt_even w (s % 2 ^ suc w) m x, dealt_even w s m x))
    (λ (x : m % 2 ≡ 1).
    let hi : s % 2 ^ suc w / 2 ≡ s / 2 % 2 ^ w = omega arith in
    omega (arith, dealt_odd w (s % 2 ^ suc w) m x, dealt_odd w s m x, ap (λ (n : ℕ). dealt w n (m / 2)) hi, dealt_low_source w (s / 2) (m / 2))) (digit m)

abbrev wide : ℕ → ℕ
wide zero = zero
wide (suc n) = 8 + wide n

no_width : (s m : ℕ) → 0 ≡ dealt 0 s m
unfolding dealt
no_width s m = refl

by_bytes : (n s m : ℕ) → each2 (λ a b. dealt 8 a b) n (lows n s m) m ≡ dealt (wide n) s m
unfolding each2 lows
by_bytes zero s m = no_width s m
by_bytes (suc n) s m =
    let t : ℕ = s / 2 ^ ones (m % 256) in
    let z : ℕ = lows n t (m / 256) in
    let hi : (z * 256 + s % 256) / 256 ≡ z = omega arith in
    let lo : (z * 256 + s % 256) % 256 ≡ s % 256 = omega arith in
    ap₂ (λ (u v : ℕ). each2 (λ a b. dealt 8 a b) n u (m / 256) * 256 + dealt 8 v (m % 256)) hi lo
    ∙ ap₂ (λ (u v : ℕ). u * 256 + v) (by_bytes n t (m / 256)) (dealt_low_source 8 s (m % 256) ∙ dealt_low_mask 8 s m)
    ∙ ap (λ (u : ℕ). dealt (wide n) (s / 2 ^ u) (m / 256) * 256 + dealt 8 s m) (sym (ones_low 8 m)) ∙ sym (dealt_split 8 (wide n) s m)

-- ---- the sums below each byte, by one multiplication
pub below_is : (m : ℕ) → ((each ones 8 m * 0x0101_0101_0101_0101) % 2 ^ 64 * 256) % 2 ^ 64 ≡ before 8 0 m
unfolding unit
below_is m =
    let c : ℕ = each ones 8 m in
    let r = room_counts 8 0 m (omega arith) in
    ap (λ (v : ℕ). ((v * 0x0101_0101_0101_0101) % 2 ^ 64 * 256) % 2 ^ 64) (sym (add-zero c)) ∙ ap (λ (v : ℕ). (v * 256) % 2 ^ 64) (incl_is 8 0 c r)
    ∙ ap (λ (v : ℕ). v % 2 ^ 64) (sym (add-zero (incl 8 0 c * 256))) ∙ excl_is 8 0 c r ∙ excl_before 8 0 m

pub low_is : (s m : ℕ) → gathered 8 s (before 8 0 m) ≡ lows 8 s m
low_is s m = gathered_lows 8 0 s m (omega arith) ∙ ap (λ (v : ℕ). lows 8 v m) (div-one s)

pub bytewise : (s m x : ℕ) → m < 2 ^ 64 → x ≡ lows 8 s m
    → bit_and (undo_from 64 (each (landed_at 0) 8 m ∷ each (landed_at 1) 8 m ∷ each (landed_at 2) 8 m ∷ []) 3 (bit_and x (each (packed_at 3) 8 m))) m ≡ pdep 64 s m
unfolding undo_from
bytewise s m x hm e = network_is x m (subst (λ (n : ℕ). n < 2 ^ 64) (sym e) (lows_lt 8 s m)) hm ∙ ap (λ (v : ℕ). each2 (λ a b. dealt 8 a b) 8 v m) e ∙ by_bytes 8 s m ∙ sym (pdep_dealt 64 s m)
