-- A mask's runs, chunk by chunk: where they begin and end are the set rows of each row against the row before it, and in a word those
-- are the word against itself moved up by one. By recursion over the rows, and over the width.
-- Assumes nothing.
use Prim.Native.Nat.{ℕ, zero, suc, ◌+◌, ◌-◌, ◌*◌, ◌/◌, ◌%◌, ◌^◌, ◌≤◌, ◌<◌}
use native.Mathlib.Nat.{add-zero, suc-add, add-suc, mul_comm, pow-suc, div-one, div-div-eq-div-mul}
use mathlib.Core.Path.{◌≡◌, refl, sym, ap, ap₂, ◌∙◌}
use mathlib.Core.Bool.{Bool, true, false, ◌||◌}
use mathlib.Core.List.{List, [], ◌∷◌, ◌++◌, append-nil}
use native.Mathlib.Omega.{arith}
use lib.ListN.{length, take, drop}
use lib.Seq.{take-add}
use lib.Arith.{digits_div, digits_mod}
use lib.Bits.{bit_and, bit_or, bit_xor, differ, xor_step, and_mask, or_shifted}
use Rattle.rows.specs.Word.{is_one, digit, bits_of, word_of, both}
use Rattle.rows.specs.Lists.{set_rows}
use Rattle.rows.specs.Runs.{turns}
use Rattle.rows.specs.Edges.{differs, edges, last_of}
use Rattle.rows.proofs.WordLaws.{digit_lt, digit_is_one, is_one_digit, bits_mod, word_of_bits_of_mod, op_bits, or_bits}
use Rattle.rows.proofs.FitLaws.{take_bits}

-- ---- rows in two parts

step : (b n : ℕ) → suc b + n ≡ b + suc n
step b n = suc-add b n ∙ sym (add-suc b n)

pub turns_append : (p : Bool) (b : ℕ) (s t : List Bool) → turns p b (s ++ t) ≡ set_rows b (edges p s) ++ turns (last_of p s) (b + length s) t
turns_append p b [] t = ap (λ (k : ℕ). turns p k t) (sym (add-zero b))
turns_append false b (false ∷ s) t =
    turns_append false (suc b) s t ∙ ap (λ (k : ℕ). set_rows (suc b) (edges false s) ++ turns (last_of false s) k t) (step b (length s))
turns_append true b (true ∷ s) t =
    turns_append true (suc b) s t ∙ ap (λ (k : ℕ). set_rows (suc b) (edges true s) ++ turns (last_of true s) k t) (step b (length s))
turns_append false b (true ∷ s) t =
    ap (λ (l : List ℕ). b ∷ l)
    (turns_append true (suc b) s t ∙ ap (λ (k : ℕ). set_rows (suc b) (edges true s) ++ turns (last_of true s) k t) (step b (length s)))
turns_append true b (false ∷ s) t =
    ap (λ (l : List ℕ). b ∷ l)
    (turns_append false (suc b) s t ∙ ap (λ (k : ℕ). set_rows (suc b) (edges false s) ++ turns (last_of false s) k t) (step b (length s)))

-- all of the rows: where they differ, and the end where the last is set
pub turns_whole : (p : Bool) (b : ℕ) (s : List Bool) → turns p b s ≡ set_rows b (edges p s) ++ turns (last_of p s) (b + length s) []
turns_whole p b s = ap (turns p b) (sym (append-nil s)) ∙ turns_append p b s []

pub edges_length : (p : Bool) (s : List Bool) → length (edges p s) ≡ length s
edges_length p [] = refl
edges_length p (x ∷ s) = ap suc (edges_length x s)

edges_take : (n : ℕ) (p : Bool) (s : List Bool) → take n (edges p s) ≡ edges p (take n s)
edges_take zero p s = refl
edges_take (suc n) p [] = refl
edges_take (suc n) p (x ∷ s) = ap (λ (l : List Bool). differs x p ∷ l) (edges_take n x s)

edges_drop : (n : ℕ) (p : Bool) (s : List Bool) → drop n (edges p s) ≡ edges (last_of p (take n s)) (drop n s)
edges_drop zero p s = refl
edges_drop (suc n) p [] = refl
edges_drop (suc n) p (x ∷ s) = edges_drop n x s

-- a part is a part's, with the row before the part
pub edges_part : (row n : ℕ) (p : Bool) (s : List Bool) → take n (drop row (edges p s)) ≡ edges (last_of p (take row s)) (take n (drop row s))
edges_part row n p s = ap (take n) (edges_drop row p s) ∙ edges_take n (last_of p (take row s)) (drop row s)

last_append : (p : Bool) (s t : List Bool) → last_of p (s ++ t) ≡ last_of (last_of p s) t
last_append p [] t = refl
last_append p (x ∷ s) t = last_append x s t

pub last_next : (row n : ℕ) (p : Bool) (s : List Bool) → last_of p (take (row + n) s) ≡ last_of (last_of p (take row s)) (take n (drop row s))
last_next row n p s = ap (last_of p) (take-add row n s) ∙ last_append p (take row s) (take n (drop row s))

-- ---- in a word, at any width

differ_same : (x y : Bool) → is_one (differ (digit x) (digit y)) ≡ differs x y
differ_same false false = refl
differ_same false true = refl
differ_same true false = refl
differ_same true true = refl

differ_small : (x y : Bool) → differ (digit x) (digit y) < 2
differ_small false false = omega arith
differ_small false true = omega arith
differ_small true false = omega arith
differ_small true true = omega arith

pub xor_bits : (w a b : ℕ) → bits_of w (bit_xor a b) ≡ both differs (bits_of w a) (bits_of w b)
xor_bits = op_bits bit_xor differ differs xor_step differ_small differ_same

-- the rows moved up by one: the row before each
abbrev behind : Bool → List Bool → List Bool
behind p [] = []
behind p (x ∷ s) = p ∷ behind x s

edges_both : (p : Bool) (s : List Bool) → both differs s (behind p s) ≡ edges p s
edges_both p [] = refl
edges_both p (x ∷ s) = ap (λ (l : List Bool). differs x p ∷ l) (edges_both x s)

moved_up : (w x : ℕ) (p : Bool) → bits_of w (x * 2 + digit p) ≡ behind p (bits_of w x)
unfolding bits_of
moved_up zero x p = refl
moved_up (suc w) x p =
    ap₂ (λ (d y : ℕ). is_one d ∷ bits_of w y) (digits_mod x (digit_lt p)) (digits_div x (digit_lt p))
    ∙ ap₂ (λ (b : Bool) (y : ℕ). b ∷ bits_of w y) (is_one_digit p) (sym halves)
    ∙ ap (λ (l : List Bool). p ∷ l) (moved_up w (x / 2) (is_one (x % 2)))
  where
    halves : x / 2 * 2 + digit (is_one (x % 2)) ≡ x
    halves = omega (arith, digit_is_one (x % 2) (omega arith))

-- digits past a width do not count in fewer bits
low_bits : (n w x : ℕ) → n ≤ w → bits_of n (x % 2 ^ w) ≡ bits_of n x
low_bits n w x h = sym (take_bits n w (x % 2 ^ w) h) ∙ ap (take n) (bits_mod w x) ∙ take_bits n w x h

-- n rows of a word of width w, with the digit of the row before them
module _ (w n x d : ℕ) (short : n ≤ w) (small : d < 2) where
  pub edge_bits : bits_of n (bit_xor x (bit_or (x * 2 % 2 ^ w) d)) ≡ edges (is_one d) (bits_of n x)
  edge_bits =
      xor_bits n x (bit_or (x * 2 % 2 ^ w) d)
      ∙ ap (both differs (bits_of n x))
      (or_bits n (x * 2 % 2 ^ w) d
      ∙ ap (λ (l : List Bool). both ◌||◌ l (bits_of n d)) (low_bits n w (x * 2) short)
      ∙ sym (or_bits n (x * 2) d)
      ∙ ap (bits_of n) (or_shifted x 1 d small)
      ∙ ap (λ (k : ℕ). bits_of n (x * 2 + k)) (sym (digit_is_one d small))
      ∙ moved_up n x (is_one d))
      ∙ edges_both (is_one d) (bits_of n x)

  pub edge_word : bit_and (bit_xor x (bit_or (x * 2 % 2 ^ w) d)) (2 ^ n - 1) ≡ word_of (edges (is_one d) (bits_of n x))
  edge_word =
      and_mask (bit_xor x (bit_or (x * 2 % 2 ^ w) d)) n
      ∙ sym (word_of_bits_of_mod n (bit_xor x (bit_or (x * 2 % 2 ^ w) d)))
      ∙ ap word_of edge_bits

-- the last of n rows is the word's highest digit
pub last_digit : (n x : ℕ) (p : Bool) → x < 2 ^ suc n → x / 2 ^ n ≡ digit (last_of p (bits_of (suc n) x))
unfolding bits_of
last_digit zero x p h = omega (arith, div-one x, digit_is_one (x % 2) (omega arith))
last_digit (suc n) x p h =
    ap (λ (k : ℕ). x / k) (pow-suc 2 n ∙ mul_comm (2 ^ n) 2) ∙ sym (div-div-eq-div-mul x 2 (2 ^ n))
    ∙ last_digit n (x / 2) (is_one (x % 2)) (omega (arith, pow-suc 2 (suc n)))
