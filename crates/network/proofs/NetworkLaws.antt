-- What the functions of the byte network give, byte by byte.
-- Each is a lane law at the function's masks and shifts. Assumes nothing.
use Rattle.std.proofs.Common.{◌≡◌, ℕ, zero, suc, ◌+◌, ◌-◌, ◌*◌, ◌/◌, ◌%◌, ◌^◌, ◌<◌, ◌≤◌, Bool, true, false, ltb, ◌⊎◌, sym, refl, ap, ◌∙◌, subst, ap₂, inl, inr, lt_of_le_of_lt, add-zero, mod-eq_of_lt, mul_comm, one-mul, arith, lit<, pow_pos, pow_mono, shl_exact, shr_lt}
use lib.Arith.{digits_mod, mul_pred}
use lib.Pow.{high, ones_lt, ones_split, shr_le}
use lib.Bits.{bit_and, bit_xor, and_mask, and_le_l, xor_lt}
use Rattle.network.specs.Lanes.{each2, each, up8, down8, pick, parity8, parity_from, zeros8, landed8, packed8, zeros_at, packed_at, landed_at}
use Rattle.network.proofs.LaneLaws.{Bounded, each2_lt, each2_comp, each2_not, each2_and, each2_xor, each2_ext, each2_snd, each2_first, each2_comp2, each2_const, each2_shr, each2_shl, and_trunc}

pub snd_bound : Bounded (λ a b. b)
snd_bound a b ha hb = hb

pub fst_bound : Bounded (λ a b. a)
fst_bound a b ha hb = ha

-- the masks of `up` and `down`: all digits set, moved up or down within the width
mask_up : (w k : ℕ) → k ≤ w → ((2 ^ w - 1) * 2 ^ k) % 2 ^ w ≡ 2 ^ w - 2 ^ k
mask_up w k h =
    let n : ℕ = 2 ^ w in
    let p : ℕ = 2 ^ k in
    let l : p ≤ n = pow_mono h in
    let e : (n - 1) * p ≡ (p - 1) * n + (n - p) = omega (arith, pow_pos k, mul_pred (pow_pos w) (pow_pos k), mul_pred (pow_pos k) (pow_pos w), mul_comm n p) in
    ap (λ (m : ℕ). m % n) e ∙ digits_mod (p - 1) (omega (arith, pow_pos k))

mask_down : (j k : ℕ) → (2 ^ (j + k) - 1) / 2 ^ k ≡ 2 ^ j - 1
mask_down j k = ap (λ (n : ℕ). n / 2 ^ k) (ones_split j k) ∙ high (2 ^ j - 1) k (ones_lt k)

pub up_bound : (k : ℕ) → Bounded (λ a b. up8 k b)
up_bound k a b ha hb = omega arith

pub up_is : (x k : ℕ) → x < 2 ^ 64 → k < 8 → bit_and ((x * 2 ^ k) % 2 ^ 64) ((255 * 2 ^ k) % 256 * 0x0101_0101_0101_0101) ≡ each (up8 k) 8 x
up_is x k hx hk =
    let m : ℕ = 256 - 2 ^ k in
    let w : ℕ = each2 (λ a b. m) 8 x x in
    let ml : m < 256 = omega (arith, pow_pos k) in
    let e : (255 * 2 ^ k) % 256 * 0x0101_0101_0101_0101 ≡ w = ap (λ (n : ℕ). n * 0x0101_0101_0101_0101) (mask_up 8 k (omega arith)) ∙ each2_const m x x in
    let me : x ≡ each2 (λ a b. b) 8 x x = sym (each2_snd 8 x x hx) in
    ap (bit_and ((x * 2 ^ k) % 2 ^ 64)) e ∙ and_trunc 64 (x * 2 ^ k) w (each2_lt (λ a b. m) (λ a b ha hb. ml) 8 x x)
    ∙ ap (λ (n : ℕ). bit_and n w) (sym (add-zero (x * 2 ^ k)) ∙ ap (λ (n : ℕ). n * 2 ^ k + 0) me) ∙ each2_shl (8 - k) k (omega arith) (λ a b. b) snd_bound 8 x x 0 (pow_pos k)

pub down_is : (x k : ℕ) → x < 2 ^ 64 → k < 8 → bit_and (x / 2 ^ k) (255 / 2 ^ k * 0x0101_0101_0101_0101) ≡ each (down8 k) 8 x
down_is x k hx hk =
    let j : ℕ = 8 - k in
    let jk : j + k ≡ 8 = omega arith in
    let c : ℕ = 2 ^ j - 1 in
    let cl : c < 2 ^ j = omega (arith, pow_pos j) in
    let w : ℕ = each2 (λ a b. c) 8 x x in
    let e : 255 / 2 ^ k * 0x0101_0101_0101_0101 ≡ w = ap (λ (n : ℕ). n * 0x0101_0101_0101_0101) (ap (λ (w : ℕ). (2 ^ w - 1) / 2 ^ k) (sym jk) ∙ mask_down j k) ∙ each2_const c x x in
    let me : x ≡ each2 (λ a b. b) 8 x x = sym (each2_snd 8 x x hx) in
    ap (bit_and (x / 2 ^ k)) e ∙ ap (λ (n : ℕ). bit_and (n / 2 ^ k) w) me ∙ each2_shr j k jk (λ a b. b) (λ a b. c) snd_bound (λ a b ha hb. cl) 8 x x
    ∙ each2_ext (λ a b. bit_and (b / 2 ^ k) c) (λ a b. down8 k b)
    (λ a b ha hb. and_mask (b / 2 ^ k) j ∙ mod-eq_of_lt (shr_lt j k (subst (λ (n : ℕ). b < 2 ^ n) (sym jk) hb))) 8 x x

-- ---- the parity
xor_up_bound : (k : ℕ) → Bounded (λ a b. bit_xor b (up8 k b))
xor_up_bound k a b ha hb = xor_lt 8 b (up8 k b) hb (up_bound k a b ha hb)

pub step_is : (p k : ℕ) → p < 2 ^ 64 → bit_xor p (each (up8 k) 8 p) ≡ each (λ b. bit_xor b (up8 k b)) 8 p
step_is p k hp =
    ap (λ (n : ℕ). bit_xor n (each (up8 k) 8 p)) (sym (each2_snd 8 p p hp)) ∙ each2_xor (λ a b. b) (λ a b. up8 k b) snd_bound (up_bound k) 8 p p

abbrev pub Length : ℕ → Type 0
Length k = (k ≡ 1) ⊎ ((k ≡ 2) ⊎ (k ≡ 4))

pub parity_double : (k z : ℕ) → Length k → parity8 k z ≡ parity8 (k * 2) (bit_xor z (up8 k z))
unfolding parity8 parity_from
parity_double k z (inl e) = rw e
parity_double k z (inr (inl e)) = rw e
parity_double k z (inr (inr e)) = rw e

pub parity_eight : (z : ℕ) → parity8 8 z ≡ z
unfolding parity8 parity_from
parity_eight z = refl

-- one turn of the loop
pub parity_turn : (p k : ℕ) → p < 2 ^ 64 → Length k → each (parity8 (k * 2)) 8 (bit_xor p (each (up8 k) 8 p)) ≡ each (parity8 k) 8 p
parity_turn p k hp hk =
    ap (each (parity8 (k * 2)) 8) (step_is p k hp) ∙ each2_comp (λ a b. bit_xor b (up8 k b)) (xor_up_bound k) (parity8 (k * 2)) 8 p p
    ∙ each2_ext (λ a b. parity8 (k * 2) (bit_xor b (up8 k b))) (λ a b. parity8 k b) (λ a b ha hb. sym (parity_double k b hk)) 8 p p

pub parity_last : (p : ℕ) → p < 2 ^ 64 → each (parity8 8) 8 p ≡ p
parity_last p hp = each2_ext (λ a b. parity8 8 b) (λ a b. b) (λ a b ha hb. parity_eight b) 8 p p ∙ each2_snd 8 p p hp

pick_lt : (t : Bool) (a b : ℕ) → a < 256 → b < 256 → pick t a b < 256
pick_lt true a b ha hb = ha
pick_lt false a b ha hb = hb

parity_from_lt : (f k z : ℕ) → z < 256 → parity_from f k z < 256
unfolding parity_from
parity_from_lt zero k z h = h
parity_from_lt (suc f) k z h =
    let x : ℕ = bit_xor z (up8 k z) in
    pick_lt (ltb k 8) (parity_from f (k * 2) x) z (parity_from_lt f (k * 2) x (xor_up_bound k z z h h)) h

pub parity_bound : (k z : ℕ) → z < 256 → parity8 k z < 256
unfolding parity8
parity_bound k z h = parity_from_lt 4 k z h

-- ---- a stage, at the zeros z and the packed mask q, with the parity p

pub and_bound : (f g : ℕ → ℕ → ℕ) → Bounded f → Bounded (λ a b. bit_and (f a b) (g a b))
and_bound f g hf a b ha hb = lt_of_le_of_lt (and_le_l (f a b) (g a b)) (hf a b ha hb)

pub down_bound : (f : ℕ → ℕ → ℕ) (k : ℕ) → Bounded f → Bounded (λ a b. down8 k (f a b))
down_bound f k hf a b ha hb = lt_of_le_of_lt (shr_le (f a b) k) (hf a b ha hb)

pub xor_bound : (f g : ℕ → ℕ → ℕ) → Bounded f → Bounded g → Bounded (λ a b. bit_xor (f a b) (g a b))
xor_bound f g hf hg a b ha hb = xor_lt 8 (f a b) (g a b) (hf a b ha hb) (hg a b ha hb)

pub not_is : (f : ℕ → ℕ → ℕ) → Bounded f → (x y : ℕ) → 2 ^ 64 - 1 - each2 f 8 x y ≡ each2 (λ a b. 255 - f a b) 8 x y
not_is f hf x y = omega (arith, each2_not f hf 8 x y)

pub not_bound : (f : ℕ → ℕ → ℕ) → Bounded (λ a b. 255 - f a b)
not_bound f a b ha hb = omega arith

module _ (k z q : ℕ) (hz : z < 2 ^ 64) (hq : q < 2 ^ 64) where
  par : ℕ → ℕ → ℕ
  par a b = parity8 k a

  par_bound : Bounded par
  unfolding par
  par_bound a b ha hb = parity_bound k a ha

  moving : ℕ → ℕ → ℕ
  unfolding par
  moving a b = bit_and b (parity8 k a)

  moving_bound : Bounded moving
  unfolding par moving
  moving_bound = and_bound (λ a b. b) par snd_bound

  par_is : each (parity8 k) 8 z ≡ each2 par 8 z q
  unfolding par
  par_is = each2_first (parity8 k) 8 z q

  pub moving_is : bit_and q (each (parity8 k) 8 z) ≡ each2 (λ a b. bit_and b (parity8 k a)) 8 z q
  unfolding par
  moving_is = ap₂ bit_and (sym (each2_snd 8 z q hq)) par_is ∙ each2_and (λ a b. b) par snd_bound par_bound 8 z q

  pub landed_is : each (down8 k) 8 (bit_and q (each (parity8 k) 8 z)) ≡ each2 (landed8 k) 8 z q
  unfolding moving landed8
  landed_is = ap (each (down8 k) 8) moving_is ∙ each2_comp moving moving_bound (down8 k) 8 z q

  pub packed_is : bit_xor q (bit_xor (bit_and q (each (parity8 k) 8 z)) (each2 (landed8 k) 8 z q)) ≡ each2 (packed8 k) 8 z q
  unfolding moving landed8 packed8
  packed_is =
      let d : Bounded (landed8 k) = down_bound moving k moving_bound in
      ap₂ (λ (m n : ℕ). bit_xor m (bit_xor n (each2 (landed8 k) 8 z q))) (sym (each2_snd 8 z q hq)) moving_is
      ∙ ap (bit_xor (each2 (λ a b. b) 8 z q)) (each2_xor moving (landed8 k) moving_bound d 8 z q)
      ∙ each2_xor (λ a b. b) (λ a b. bit_xor (moving a b) (landed8 k a b)) snd_bound (xor_bound moving (landed8 k) moving_bound d) 8 z q

  pbound : Bounded (λ a b. parity8 k b)
  pbound a b ha hb = parity_bound k b hb

  left : ℕ → ℕ → ℕ
  left a b = bit_and b (255 - parity8 k b)

  left_bound : Bounded left
  unfolding left
  left_bound = and_bound (λ a b. b) (λ a b. 255 - parity8 k b) snd_bound

  left_is : bit_and z (2 ^ 64 - 1 - each (parity8 k) 8 z) ≡ each2 left 8 z z
  unfolding left
  left_is =
      ap₂ bit_and (sym (each2_snd 8 z z hz)) (not_is (λ a b. parity8 k b) pbound z z)
      ∙ each2_and (λ a b. b) (λ a b. 255 - parity8 k b) snd_bound (not_bound (λ a b. parity8 k b)) 8 z z

  pub zeros_is : bit_xor (bit_and z (2 ^ 64 - 1 - each (parity8 k) 8 z)) (each (down8 k) 8 (bit_and z (2 ^ 64 - 1 - each (parity8 k) 8 z))) ≡ each (zeros8 k) 8 z
  unfolding left zeros8
  zeros_is =
      ap (λ (n : ℕ). bit_xor n (each (down8 k) 8 n)) left_is ∙ ap (bit_xor (each2 left 8 z z)) (each2_comp left left_bound (down8 k) 8 z z)
      ∙ each2_xor left (λ a b. down8 k (left a b)) left_bound (down_bound left k left_bound) 8 z z

-- ---- the three stages
pub zeros_at_bound : (i : ℕ) → Bounded (λ a b. zeros_at i b)
unfolding zeros_at zeros8
zeros_at_bound zero a b ha hb = omega arith
zeros_at_bound (suc i) a b ha hb =
    let z : ℕ = zeros_at i b in
    let m : ℕ = bit_and z (255 - parity8 (2 ^ i) z) in
    let h : m < 256 = lt_of_le_of_lt (and_le_l z (255 - parity8 (2 ^ i) z)) (zeros_at_bound i a b ha hb) in
    xor_lt 8 m (m / 2 ^ 2 ^ i) h (lt_of_le_of_lt (shr_le m (2 ^ i)) h)

pub packed_at_bound : (i : ℕ) → Bounded (λ a b. packed_at i b)
unfolding packed_at packed8
packed_at_bound zero a b ha hb = hb
packed_at_bound (suc i) a b ha hb =
    let q : ℕ = packed_at i b in
    let hq : q < 256 = packed_at_bound i a b ha hb in
    let m : ℕ = bit_and q (parity8 (2 ^ i) (zeros_at i b)) in
    let h : m < 256 = lt_of_le_of_lt (and_le_l q (parity8 (2 ^ i) (zeros_at i b))) hq in
    xor_lt 8 q (bit_xor m (m / 2 ^ 2 ^ i)) hq (xor_lt 8 m (m / 2 ^ 2 ^ i) h (lt_of_le_of_lt (shr_le m (2 ^ i)) h))

-- what moves down by k lands k below the top
landed_lt : (j k z p : ℕ) → p < 2 ^ (j + k) → landed8 k z p < 2 ^ j
unfolding landed8
landed_lt j k z p h = shr_lt j k (lt_of_le_of_lt (and_le_l p (parity8 k z)) h)

pub landed_at_lt : (i j : ℕ) → j + 2 ^ i ≡ 8 → (b : ℕ) → b < 256 → landed_at i b < 2 ^ j
unfolding landed_at
landed_at_lt i j e b h = landed_lt j (2 ^ i) (zeros_at i b) (packed_at i b) (subst (λ (w : ℕ). packed_at i b < 2 ^ w) (sym e) (packed_at_bound i b b h h))

pub zeros_next : (i m : ℕ) → each (zeros8 (2 ^ i)) 8 (each (zeros_at i) 8 m) ≡ each (zeros_at (suc i)) 8 m
unfolding zeros_at
zeros_next i m = each2_comp (λ a b. zeros_at i b) (zeros_at_bound i) (zeros8 (2 ^ i)) 8 m m

pub packed_next : (i m : ℕ) → each2 (packed8 (2 ^ i)) 8 (each (zeros_at i) 8 m) (each (packed_at i) 8 m) ≡ each (packed_at (suc i)) 8 m
unfolding packed_at
packed_next i m = each2_comp2 (λ a b. zeros_at i b) (λ a b. packed_at i b) (packed8 (2 ^ i)) (zeros_at_bound i) (packed_at_bound i) 8 m m

pub landed_next : (i m : ℕ) → each2 (landed8 (2 ^ i)) 8 (each (zeros_at i) 8 m) (each (packed_at i) 8 m) ≡ each (landed_at i) 8 m
unfolding landed_at
landed_next i m = each2_comp2 (λ a b. zeros_at i b) (λ a b. packed_at i b) (landed8 (2 ^ i)) (zeros_at_bound i) (packed_at_bound i) 8 m m

pub zeros_start : (m : ℕ) → m < 2 ^ 64 → 2 ^ 64 - 1 - m ≡ each (zeros_at 0) 8 m
unfolding zeros_at
zeros_start m h = ap (λ (n : ℕ). 2 ^ 64 - 1 - n) (sym (each2_snd 8 m m h)) ∙ not_is (λ a b. b) snd_bound m m

pub packed_start : (m : ℕ) → m < 2 ^ 64 → m ≡ each (packed_at 0) 8 m
unfolding packed_at
packed_start m h = sym (each2_snd 8 m m h)

-- ---- the shift of stage i
pub shift_is : (i : ℕ) → i < 3 → (1 * 2 ^ i) % 2 ^ 32 ≡ 2 ^ i
shift_is i h = shl_exact 1 i 32 (lit< tt) (omega arith) ∙ one-mul (2 ^ i)

pub shift_length : (i : ℕ) → i < 3 → Length (2 ^ i)
shift_length zero h = inl refl
shift_length (suc zero) h = inr (inl refl)
shift_length (suc (suc zero)) h = inr (inr refl)
shift_length (suc (suc (suc i))) h = absurd (omega arith)

pub shift_small : (i : ℕ) → i < 3 → (k : ℕ) → 4 < 2 ^ k → (1 * 2 ^ i) % 2 ^ 32 < 2 ^ k
shift_small i h k l = subst (λ (n : ℕ). n < 2 ^ k) (sym (shift_is i h)) (lt_of_le_of_lt (pow_mono {j = 2} (omega arith)) l)
