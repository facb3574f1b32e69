-- A chunk of rows: of all set and of none, the bits of its word, and what it adds. Each is a part of the rows, taken and dropped.
-- Assumes nothing.
use Prim.Native.Nat.{ℕ, zero, suc, ◌+◌, ◌-◌, ◌*◌, ◌^◌, ◌≤◌}
use native.Mathlib.Nat.{pow-suc}
use mathlib.Core.Path.{◌≡◌, refl, sym, ap, ◌∙◌}
use mathlib.Core.Bool.{Bool, true, false}
use mathlib.Core.List.{List, ◌∷◌, ◌++◌}
use native.Mathlib.Omega.{arith}
use lib.ListN.{length, take, drop, replicate, length-take, length-drop}
use lib.Seq.{take-add}
use Rattle.rows.specs.Word.{bits_of, word_of}
use Rattle.rows.proofs.WordsLaws.{bits_of_word_of_fit, fit_all}

-- the same row n times
pub same_part : (b : Bool) (row n len : ℕ) → row + n ≤ len → take n (drop row (replicate len b)) ≡ replicate n b
same_part b zero zero len h = refl
same_part b zero (suc n) zero h = absurd (omega arith)
same_part b zero (suc n) (suc len) h = ap (λ (l : List Bool). b ∷ l) (same_part b zero n len (omega arith))
same_part b (suc row) n zero h = absurd (omega arith)
same_part b (suc row) n (suc len) h = same_part b row n len (omega arith)

pub word_true : (n : ℕ) → suc (word_of (replicate n true)) ≡ 2 ^ n
unfolding word_of
word_true zero = refl
word_true (suc n) = omega (arith, word_true n, pow-suc 2 n)

pub word_false : (n : ℕ) → word_of (replicate n false) ≡ 0
unfolding word_of
word_false zero = refl
word_false (suc n) = ap (λ (x : ℕ). x * 2 + 0) (word_false n)

pub all_chunk : (row n len : ℕ) → row + n ≤ len → 2 ^ n - 1 ≡ word_of (take n (drop row (replicate len true)))
all_chunk row n len h = omega (arith, word_true n, ap word_of (same_part true row n len h))

pub none_chunk : (row n len : ℕ) → row + n ≤ len → 0 ≡ word_of (take n (drop row (replicate len false)))
none_chunk row n len h = sym (ap word_of (same_part false row n len h) ∙ word_false n)

-- the bits of a chunk's word are the chunk
pub chunk_bits : (row n : ℕ) (s : List Bool) → row + n ≤ length s → bits_of n (word_of (take n (drop row s))) ≡ take n (drop row s)
chunk_bits row n s h =
    let c = take n (drop row s) in
    bits_of_word_of_fit n c ∙ fit_all n c (omega (arith, length-take n (drop row s), length-drop row s))

-- the rows up to a chunk, and the chunk
pub chunk_next : (row n : ℕ) (s : List Bool) → take (row + n) s ≡ take row s ++ take n (drop row s)
chunk_next row n s = take-add row n s
