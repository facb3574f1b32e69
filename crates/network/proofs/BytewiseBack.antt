-- The byte network, its stages done, gives the published PEXT: each stage acts on each byte by itself, and a byte is the computed test.
-- The bytes joined are the extract. Assumes nothing.
use Rattle.std.proofs.Common.{◌≡◌, ℕ, ◌+◌, ◌-◌, ◌*◌, ◌/◌, ◌%◌, ◌^◌, ◌<◌, [], ◌∷◌, sym, refl, ap, ◌∙◌, subst, ap₂, lt_of_lt_of_le, lt_of_le_of_lt, mod-eq_of_lt, arith, pow_mono, shl_lt}
use lib.Bits.{bit_and, bit_or, and_le_r, or_lt}
use Rattle.rows.specs.Pdep.{pext}
use Rattle.network.specs.Lanes.{each2, each, before, joined, move, move_to, landed_at}
use Rattle.network.proofs.CollectedLaws.{collected, pext_collected}
use Rattle.network.proofs.LaneLaws.{Bounded, each2_lt, each2_and, each2_or, each2_ext, each2_fst, each2_snd, each2_only, each2_scale, each2_shr}
use Rattle.network.proofs.NetworkLaws.{snd_bound, fst_bound, and_bound, not_is, not_bound, landed_at_lt}
use Rattle.network.proofs.PackedByte.{packed_byte}
use Rattle.network.proofs.JoinLaws.{joined_is}

-- ---- a stage done, byte by byte
module _ (j k : ℕ) (e : j + k ≡ 8) (l : ℕ → ℕ) (hl : (b : ℕ) → b < 256 → l b < 2 ^ j) (f : ℕ → ℕ → ℕ) (hf : Bounded f) where
  from : ℕ → ℕ → ℕ
  from a b = l b * 2 ^ k

  from_bound : Bounded from
  unfolding from
  from_bound a b ha hb = subst (λ (w : ℕ). l b * 2 ^ k < 2 ^ w) e (shl_lt j k (hl b hb))

  stay : ℕ → ℕ → ℕ
  unfolding from
  stay a b = bit_and (f a b) (255 - from a b)

  stay_bound : Bounded stay
  unfolding stay
  stay_bound = and_bound f (λ a b. 255 - from a b) hf

  down : ℕ → ℕ → ℕ
  down a b = bit_and (f a b / 2 ^ k) (l b)

  down_bound : Bounded down
  unfolding down
  down_bound a b ha hb = lt_of_le_of_lt (and_le_r (f a b / 2 ^ k) (l b)) (lt_of_lt_of_le (hl b hb) (pow_mono {j = 8} (omega arith)))

  same : (a b : ℕ) → a < 256 → b < 256 → bit_or (stay a b) (down a b) ≡ move 8 k (l b) (f a b)
  unfolding from stay down
  same a b ha hb = ap (λ (n : ℕ). bit_or (bit_and (f a b) (255 - n)) (down a b)) (sym (mod-eq_of_lt (from_bound a b ha hb)))

  pub move_bound : Bounded (λ a b. move 8 k (l b) (f a b))
  move_bound a b ha hb =
      subst (λ (n : ℕ). n < 256) (same a b ha hb) (or_lt 8 (stay a b) (down a b) (stay_bound a b ha hb) (down_bound a b ha hb))

  pub move_is : (x y : ℕ) → move 64 k (each l 8 y) (each2 f 8 x y) ≡ each2 (λ a b. move 8 k (l b) (f a b)) 8 x y
  unfolding from stay down
  move_is x y =
      let L : ℕ = each2 (λ a b. l b) 8 x y in
      let R : ℕ = each2 f 8 x y in
      let s : each l 8 y ≡ L = each2_only l 8 y x y in
      let u : (L * 2 ^ k) % 2 ^ 64 ≡ each2 from 8 x y =
      ap (λ (v : ℕ). v % 2 ^ 64) (each2_scale (λ a b. l b) (2 ^ k) 8 x y) ∙ mod-eq_of_lt (each2_lt from from_bound 8 x y) in
      let a : bit_and R (2 ^ 64 - 1 - (L * 2 ^ k) % 2 ^ 64) ≡ each2 stay 8 x y =
      ap (λ (v : ℕ). bit_and R (2 ^ 64 - 1 - v)) u ∙ ap (bit_and R) (not_is from from_bound x y)
      ∙ each2_and f (λ a b. 255 - from a b) hf (not_bound from) 8 x y in
      let d : bit_and (R / 2 ^ k) L ≡ each2 down 8 x y = each2_shr j k e f (λ a b. l b) hf (λ a b ha hb. hl b hb) 8 x y in
      ap (λ (v : ℕ). move 64 k v R) s ∙ ap₂ bit_or a d ∙ each2_or stay down stay_bound down_bound 8 x y
      ∙ each2_ext (λ a b. bit_or (stay a b) (down a b)) (λ a b. move 8 k (l b) (f a b)) same 8 x y

-- ---- the network on the source bits that the mask has, byte by byte
module _ (x m : ℕ) (hx : x < 2 ^ 64) (hm : m < 2 ^ 64) where
  f₀ : ℕ → ℕ → ℕ
  f₀ a b = bit_and a b

  f₀_bound : Bounded f₀
  unfolding f₀
  f₀_bound = and_bound (λ a b. a) (λ a b. b) fst_bound

  f₁ : ℕ → ℕ → ℕ
  f₁ a b = move 8 1 (landed_at 0 b) (f₀ a b)

  f₁_bound : Bounded f₁
  unfolding f₁
  f₁_bound = move_bound 7 1 refl (landed_at 0) (landed_at_lt 0 7 refl) f₀ f₀_bound

  f₂ : ℕ → ℕ → ℕ
  f₂ a b = move 8 2 (landed_at 1 b) (f₁ a b)

  f₂_bound : Bounded f₂
  unfolding f₂
  f₂_bound = move_bound 6 2 refl (landed_at 1) (landed_at_lt 1 6 refl) f₁ f₁_bound

  start : bit_and x m ≡ each2 f₀ 8 x m
  unfolding f₀
  start = ap₂ bit_and (sym (each2_fst 8 x m hx)) (sym (each2_snd 8 x m hm)) ∙ each2_and (λ a b. a) (λ a b. b) fst_bound snd_bound 8 x m

  packed_is : move 64 4 (each (landed_at 2) 8 m) (move 64 2 (each (landed_at 1) 8 m) (move 64 1 (each (landed_at 0) 8 m) (bit_and x m)))
      ≡ each2 (λ a b. collected 8 a b) 8 x m
  unfolding f₀ f₁ f₂
  packed_is =
      let e₁ : move 64 1 (each (landed_at 0) 8 m) (bit_and x m) ≡ each2 f₁ 8 x m =
      ap (move 64 1 (each (landed_at 0) 8 m)) start ∙ move_is 7 1 refl (landed_at 0) (landed_at_lt 0 7 refl) f₀ f₀_bound x m in
      let e₂ : move 64 2 (each (landed_at 1) 8 m) (move 64 1 (each (landed_at 0) 8 m) (bit_and x m)) ≡ each2 f₂ 8 x m =
      ap (move 64 2 (each (landed_at 1) 8 m)) e₁ ∙ move_is 6 2 refl (landed_at 1) (landed_at_lt 1 6 refl) f₁ f₁_bound x m in
      ap (move 64 4 (each (landed_at 2) 8 m)) e₂ ∙ move_is 4 4 refl (landed_at 2) (landed_at_lt 2 4 refl) f₂ f₂_bound x m
      ∙ each2_ext (λ a b. move 8 4 (landed_at 2 b) (f₂ a b)) (λ a b. collected 8 a b) (λ a b ha hb. packed_byte a b hb) 8 x m

  pub bytewise_back : joined 64 8 (move_to 64 (each (landed_at 0) 8 m ∷ each (landed_at 1) 8 m ∷ each (landed_at 2) 8 m ∷ []) 3 (bit_and x m)) (before 8 0 m)
      ≡ pext 64 x m
  unfolding move_to
  bytewise_back = ap (λ (v : ℕ). joined 64 8 v (before 8 0 m)) packed_is ∙ joined_is 8 x m (omega arith) ∙ sym (pext_collected 64 x m)
