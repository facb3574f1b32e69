-- The lowest set bit of a word, and a word where a bit is set, as laws on numbers.
-- By the cases of a digit. Assumes nothing.
use Rattle.std.proofs.Common.{◌≡◌, ℕ, ◌-◌, ◌*◌, ◌%◌, ◌^◌, ◌<◌, sym, ap, ◌∙◌, ⊎_elim, mod-eq_of_lt, eq-zero-or-pos, mul-zero, mul-one, arith}
use lib.Bits.{bit_and, and_zero_r, and_mask}
use Rattle.network.specs.Lowest.{lowest_set}
use Rattle.network.proofs.DigitLaws.{digit}
use Rattle.network.proofs.LowestLaws.{and_neg, lowest_set_zero}

pub low_word : (x r : ℕ) → x < 2 ^ 64 → r ≡ (2 ^ 64 - x) % 2 ^ 64 → bit_and x r ≡ lowest_set 64 x
low_word x r hx e = ⊎_elim (λ (z : x ≡ 0). rw z (sym (lowest_set_zero 64))) (λ (p : 0 < x). and_neg 64 x r hx (omega arith)) (eq-zero-or-pos x)

pub if_odd_word : (x b r : ℕ) → x < 2 ^ 64 → r ≡ (2 ^ 64 - bit_and b 1) % 2 ^ 64 → bit_and x r ≡ x * (b % 2)
if_odd_word x b r hx e =
    let m : bit_and b 1 ≡ b % 2 = and_mask b 1 in
    ⊎_elim
    (λ (z : b % 2 ≡ 0). let q : r ≡ 0 = omega arith in ap (bit_and x) q ∙ and_zero_r x ∙ sym (mul-zero x) ∙ ap (λ (d : ℕ). x * d) (sym z))
    (λ (z : b % 2 ≡ 1).
    let q : r ≡ 2 ^ 64 - 1 = omega arith in ap (bit_and x) q ∙ and_mask x 64 ∙ mod-eq_of_lt hx ∙ sym (mul-one x) ∙ ap (λ (d : ℕ). x * d) (sym z)) (digit b)
