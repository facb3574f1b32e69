-- The source's digits collected one set digit of the mask at a time: what a loop keeps, with a law for no turn, for one turn more, and for the end.
-- By the law that the mask's lowest set digit gives the lowest digit. Assumes nothing.
use Rattle.std.proofs.Common.{◌≡◌, ℕ, ◌+◌, ◌-◌, ◌*◌, ◌%◌, ◌^◌, ◌<◌, ◌≤◌, min, sym, ap, ◌∙◌, subst, mul-le-mul_right, mul_assoc, add-mul, pow-suc, zero-mul, mul_right_comm, add-one, arith, shl_exact}
use lib.Bits.{bit_and, bit_or, or_shifted_r}
use lib.Count.{ones, ones-le}
use Rattle.rows.specs.Pdep.{pext}
use Rattle.network.specs.Lowest.{lowest_set, without_lowest}
use Rattle.network.proofs.LowestLaws.{and_pred, without_lowest_lt, ones_clear}
use Rattle.network.proofs.CollectedLaws.{collected, collected_peel, collected_no_mask, pext_collected}

-- of the mask's set digits the lowest k have given r, and those of m are left
pub record Collecting (w s mask k m r : ℕ) : Type 0 where
  pub small : m < 2 ^ w
  pub room : k + ones m ≤ w
  pub below : r < 2 ^ k
  pub whole : collected w s m * 2 ^ k + r ≡ pext w s mask

pub collecting_none : (w s mask : ℕ) → mask < 2 ^ w → Collecting w s mask 0 mask 0
collecting_none w s mask h =
    record { small = h; room = omega (arith, ones-le w mask h); below = omega arith; whole = omega (arith, pext_collected w s mask) }

-- where a digit is left there is room for what it gives
pub collecting_room : (w s mask k m r : ℕ) → 0 < m → Collecting w s mask k m r → k < w
collecting_room w s mask k m r l c = omega (arith, c.room, ones_clear w m c.small l)

-- a turn more, with d the source's digit at the lowest digit of m: first in sums, then as the code has it
regroup : (a d p r : ℕ) → a * (p * 2) + (d * p + r) ≡ (a * 2 + d) * p + r
regroup a d p r = let e : a * (p * 2) ≡ a * 2 * p = sym (mul_assoc a p 2) ∙ mul_right_comm a p 2 in omega (arith, add-mul (a * 2) d p)

next : (w s mask k m r d : ℕ) → 0 < m → d ≡ min (bit_and s (lowest_set w m)) 1 → Collecting w s mask k m r
    → Collecting w s mask (k + 1) (without_lowest w m) (d * 2 ^ k + r)
next w s mask k m r d l e c =
    let p : 2 ^ (k + 1) ≡ 2 ^ k * 2 = ap (λ (n : ℕ). 2 ^ n) (add-one k) ∙ pow-suc 2 k in
    let u : d ≤ 1 = omega arith in
    record {
      small = without_lowest_lt w m c.small;
      room = omega (arith, c.room, ones_clear w m c.small l);
      below = omega (arith, c.below, mul-le-mul_right (2 ^ k) u);
      whole =
          ap (λ (n : ℕ). collected w s (without_lowest w m) * n + (d * 2 ^ k + r)) p ∙ regroup (collected w s (without_lowest w m)) d (2 ^ k) r
          ∙ ap (λ (n : ℕ). n * 2 ^ k + r) (ap (λ (n : ℕ). collected w s (without_lowest w m) * 2 + n) e ∙ sym (collected_peel w s m)) ∙ c.whole;
    }

pub collecting_turn : (w s mask k m r d : ℕ) → 0 < m → d ≡ min (bit_and s (lowest_set w m)) 1 → Collecting w s mask k m r
    → Collecting w s mask (k + 1) (bit_and m (m - 1)) (bit_or r ((d * 2 ^ k) % 2 ^ w))
collecting_turn w s mask k m r d l e c =
    let near : k < w = collecting_room w s mask k m r l c in
    let kept : (d * 2 ^ k) % 2 ^ w ≡ d * 2 ^ k = shl_exact {a = d} 1 k w (omega arith) (omega arith) in
    let new : bit_or r ((d * 2 ^ k) % 2 ^ w) ≡ d * 2 ^ k + r = ap (bit_or r) kept ∙ or_shifted_r d k r c.below in
    subst (λ (n : ℕ). Collecting w s mask (k + 1) n (bit_or r ((d * 2 ^ k) % 2 ^ w))) (sym (and_pred w m c.small l))
    (subst (Collecting w s mask (k + 1) (without_lowest w m)) (sym new) (next w s mask k m r d l e c))

-- no digit left
pub collecting_end : (w s mask k m r : ℕ) → m ≡ 0 → Collecting w s mask k m r → r ≡ pext w s mask
collecting_end w s mask k m r z c =
    let none : collected w s m * 2 ^ k ≡ 0 = ap (λ (n : ℕ). n * 2 ^ k) (ap (collected w s) z ∙ collected_no_mask w s) ∙ zero-mul (2 ^ k) in
    omega (arith, c.whole)
