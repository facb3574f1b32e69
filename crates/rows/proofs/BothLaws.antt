-- An operation on two lists of rows, row by row: its length, its rows, its parts, and not as an operation of two.
-- By recursion over both lists. Assumes nothing.
use Prim.Native.Nat.{ℕ, zero, suc, ◌<◌}
use native.Mathlib.Nat.{le_of_suc-le-suc, suc_inj}
use mathlib.Core.Path.{◌≡◌, refl, sym, ap, ◌∙◌}
use mathlib.Core.Bool.{Bool, false, not}
use mathlib.Core.List.{List, [], ◌∷◌, map}
use native.Mathlib.Omega.{arith}
use lib.ListN.{length, take, drop, get_or}
use Rattle.rows.specs.Word.{both}

module _ (g : Bool → Bool → Bool) where
  pub both_length : (xs ys : List Bool) → length xs ≡ length ys → length (both g xs ys) ≡ length xs
  both_length [] ys e = refl
  both_length (x ∷ xs) [] e = absurd (omega arith)
  both_length (x ∷ xs) (y ∷ ys) e = ap suc (both_length xs ys (suc_inj e))

  pub both_at : (xs ys : List Bool) → length xs ≡ length ys → (i : ℕ) → i < length xs → get_or (both g xs ys) i false ≡ g (get_or xs i false) (get_or ys i false)
  both_at [] ys e i h = absurd (omega arith)
  both_at (x ∷ xs) [] e i h = absurd (omega arith)
  both_at (x ∷ xs) (y ∷ ys) e zero h = refl
  both_at (x ∷ xs) (y ∷ ys) e (suc i) h = both_at xs ys (suc_inj e) i (le_of_suc-le-suc h)

  both_none : (xs : List Bool) → both g xs [] ≡ []
  both_none [] = refl
  both_none (x ∷ xs) = refl

  pub both_take : (n : ℕ) (xs ys : List Bool) → take n (both g xs ys) ≡ both g (take n xs) (take n ys)
  both_take zero xs ys = refl
  both_take (suc n) [] ys = refl
  both_take (suc n) (x ∷ xs) [] = refl
  both_take (suc n) (x ∷ xs) (y ∷ ys) = ap (λ (l : List Bool). g x y ∷ l) (both_take n xs ys)

  pub both_drop : (n : ℕ) (xs ys : List Bool) → drop n (both g xs ys) ≡ both g (drop n xs) (drop n ys)
  both_drop zero xs ys = refl
  both_drop (suc n) [] ys = refl
  both_drop (suc n) (x ∷ xs) [] = sym (both_none (drop n xs))
  both_drop (suc n) (x ∷ xs) (y ∷ ys) = both_drop n xs ys

  -- a part of the result is the result of the parts
  pub both_part : (row n : ℕ) (xs ys : List Bool) → take n (drop row (both g xs ys)) ≡ both g (take n (drop row xs)) (take n (drop row ys))
  both_part row n xs ys = ap (take n) (both_drop row xs ys) ∙ both_take n (drop row xs) (drop row ys)

-- not, as an operation of two lists whose second says nothing
pub both_not : (xs ys : List Bool) → length xs ≡ length ys → both (λ x y. not x) xs ys ≡ map not xs
both_not [] ys e = refl
both_not (x ∷ xs) [] e = absurd (omega arith)
both_not (x ∷ xs) (y ∷ ys) e = ap (λ (l : List Bool). not x ∷ l) (both_not xs ys (suc_inj e))
