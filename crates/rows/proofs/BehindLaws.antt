-- A view from a row on; and what lies somewhere laid over itself changes nothing. By recursion over the place.
-- Assumes nothing.
use Prim.Native.Nat.{ℕ, zero, suc, ◌+◌, ◌-◌, ◌^◌, ◌≤◌}
use native.Mathlib.Nat.{lt_of_lt_of_le}
use mathlib.Core.Path.{◌≡◌, refl, sym, ap, ◌∙◌}
use mathlib.Core.Bool.{Bool}
use mathlib.Core.List.{List, [], ◌∷◌}
use native.Mathlib.Omega.{arith}
use lib.ListN.{length, take, drop, length-take}
use lib.Seq.{drop-drop}
use lib.Pow.{pow_mono}
use Rattle.rows.specs.Rows.{over, splice}
use Rattle.rows.specs.Words.{Below, bits_of_all, view, words_of}
use Rattle.rows.specs.Laid.{laid_in, laid}
use Rattle.rows.proofs.WordLaws.{word_of_lt}
use Rattle.rows.proofs.WordsLaws.{words_of_bits_of_all}
use Rattle.rows.proofs.PartLaws.{drop_take}

-- a view from a row on
pub view_from : (start row len : ℕ) (ws : List ℕ) → row ≤ len → view (start + row) (len - row) ws ≡ drop row (view start len ws)
view_from start row len ws h =
    let bs = bits_of_all 64 ws in
    let all : row + (len - row) ≡ len = omega arith in
    ap (take (len - row)) (sym (drop-drop row start bs))
    ∙ sym (drop_take row (len - row) (drop start bs))
    ∙ ap (λ (k : ℕ). drop row (take k (drop start bs))) all

-- ---- what lies there, laid over itself

over_own : (n : ℕ) (xs : List Bool) → over xs (take n xs) ≡ xs
over_own n [] = refl
over_own zero (x ∷ xs) = refl
over_own (suc n) (x ∷ xs) = ap (λ (l : List Bool). x ∷ l) (over_own n xs)

splice_own : (at n : ℕ) (xs : List Bool) → splice at xs (take n (drop at xs)) ≡ xs
splice_own zero n xs = over_own n xs
splice_own (suc at) n [] = refl
splice_own (suc at) n (x ∷ xs) = ap (λ (l : List Bool). x ∷ l) (splice_own at n xs)

pub laid_own : (at n : ℕ) (ns : List ℕ) → Below (2 ^ 64) ns → laid at (view at n ns) ns ≡ ns
laid_own at n ns small = ap (words_of 64 (length ns)) (splice_own at n (bits_of_all 64 ns)) ∙ words_of_bits_of_all 64 ns small

-- words that were laid are words
words_below : (w k : ℕ) (bs : List Bool) → Below (2 ^ w) (words_of w k bs)
words_below w zero bs = tt
words_below w (suc k) bs =
    (lt_of_lt_of_le (word_of_lt (take w bs)) (pow_mono {i = length (take w bs)} {j = w} (omega (arith, length-take w bs))), words_below w k (drop w bs))

pub below_laid : (w at : ℕ) (bs : List Bool) (ns : List ℕ) → Below (2 ^ w) (laid_in w at bs ns)
below_laid w at bs ns = words_below w (length ns) (splice at (bits_of_all w ns) bs)
