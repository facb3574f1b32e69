-- The operations on words, over the width: each is its operation on the rows, and so is what is cut off it.
-- By the laws of a word's bits. Assumes nothing.
use Prim.Native.Nat.{ℕ, ◌-◌, ◌^◌, ◌≤◌, ◌<◌}
use mathlib.Core.Path.{◌≡◌, refl, sym, ap, ap₂, ◌∙◌}
use mathlib.Core.Bool.{Bool, not, ◌&&◌, ◌||◌}
use mathlib.Core.List.{List, [], ◌∷◌, map}
use native.Mathlib.Omega.{arith}
use lib.Bits.{bit_and, bit_or, and_mask, and_le_l, or_lt}
use lib.ListN.{length}
use Rattle.rows.specs.Word.{bits_of, word_of, both}
use Rattle.rows.proofs.WordLaws.{bits_of_length, word_of_bits_of, word_of_bits_of_mod, and_bits, or_bits, not_bits}
use Rattle.rows.proofs.WordsLaws.{bits_of_word_of_fit}
use Rattle.rows.proofs.FitLaws.{fit_is_take, take_bits}
use Rattle.rows.proofs.BothLaws.{both_length, both_take, both_not}
use Rattle.rules.specs.SetOps.{and_not}

-- and, with the second turned over
pub both_and_not : (xs ys : List Bool) → both ◌&&◌ xs (map not ys) ≡ both and_not xs ys
both_and_not [] ys = refl
both_and_not (x ∷ xs) [] = refl
both_and_not (x ∷ xs) (y ∷ ys) = ap (λ (l : List Bool). (x && not y) ∷ l) (both_and_not xs ys)

module _ (w x y : ℕ) (hx : x < 2 ^ w) (hy : y < 2 ^ w) where
  pub and_word : bit_and x y ≡ word_of (both ◌&&◌ (bits_of w x) (bits_of w y))
  and_word = sym (word_of_bits_of w (bit_and x y) (omega (arith, and_le_l x y))) ∙ ap word_of (and_bits w x y)

  pub or_word : bit_or x y ≡ word_of (both ◌||◌ (bits_of w x) (bits_of w y))
  or_word = sym (word_of_bits_of w (bit_or x y) (or_lt w x y hx hy)) ∙ ap word_of (or_bits w x y)

  pub and_not_word : bit_and x (2 ^ w - 1 - y) ≡ word_of (both and_not (bits_of w x) (bits_of w y))
  and_not_word =
      sym (word_of_bits_of w (bit_and x (2 ^ w - 1 - y)) (omega (arith, and_le_l x (2 ^ w - 1 - y))))
      ∙ ap word_of
      (and_bits w x (2 ^ w - 1 - y) ∙ ap (both ◌&&◌ (bits_of w x)) (not_bits w y hy) ∙ both_and_not (bits_of w x) (bits_of w y))

  pub not_word : 2 ^ w - 1 - x ≡ word_of (both (λ a b. not a) (bits_of w x) (bits_of w y))
  not_word =
      sym (word_of_bits_of w (2 ^ w - 1 - x) (omega arith))
      ∙ ap word_of (not_bits w x hx ∙ sym (both_not (bits_of w x) (bits_of w y) (bits_of_length w x ∙ sym (bits_of_length w y))))

-- the low n bits of what an operation gives are its operation on the low n bits
pub cut_word : (g : Bool → Bool → Bool) (w n x y : ℕ) → n ≤ w → bit_and (word_of (both g (bits_of w x) (bits_of w y))) (2 ^ n - 1) ≡ word_of (both g (bits_of n x) (bits_of n y))
cut_word g w n x y h =
    let bs = both g (bits_of w x) (bits_of w y) in
    let long : n ≤ length bs = omega (arith, both_length g (bits_of w x) (bits_of w y) (bits_of_length w x ∙ sym (bits_of_length w y)), bits_of_length w x) in
    and_mask (word_of bs) n
    ∙ sym (word_of_bits_of_mod n (word_of bs))
    ∙ ap word_of
    (bits_of_word_of_fit n bs ∙ fit_is_take n bs long ∙ both_take g n (bits_of w x) (bits_of w y)
    ∙ ap₂ (both g) (take_bits n w x h) (take_bits n w y h))
