-- The first row by a word: its lowest set bit; and the words in which self's rows are held against another mask's, or turned over. Bit by bit.
-- Assumes nothing.
use Prim.Native.Nat.{ℕ, zero, suc, ◌+◌, ◌-◌, ◌^◌, ◌≤◌, ◌<◌}
use native.Mathlib.Nat.{zero-add, le_of_suc-le-suc, suc_inj}
use native.Mathlib.Decide.{dec_lt}
use native.Mathlib.Omega.{arith}
use mathlib.Core.Path.{◌≡◌, refl, sym, ap, ap₂, subst, ◌∙◌}
use mathlib.Core.Bool.{Bool, true, false, not, ◌&&◌, false≢true}
use mathlib.Core.List.{List, [], ◌∷◌, map}
use lib.Bits.{bit_and, bit_xor, and_mask, and_le_l, and_le_r}
use lib.Count.{count_trailing_zeros}
use lib.ListN.{length, take, drop, get_or, replicate, length-replicate, get_or-replicate, get_or-eq_default}
use lib.Pow.{pow_pos, pow_mono}
use lib.Seq.{get_or-take, get_or-drop}
use Rattle.rows.specs.Rows.{count, outside}
use Rattle.rows.specs.Word.{bits_of, word_of, both}
use Rattle.rows.specs.Words.{fit, bits_of_all, view}
use Rattle.rows.specs.Lists.{select}
use Rattle.rows.specs.Edges.{differs}
use Rattle.rows.proofs.WordLaws.{bits_of_length, word_of_lt, word_of_bits_of_mod, and_bits, not_bits}
use Rattle.rows.proofs.WordsLaws.{fit_length, fit_at, bits_of_word_of_fit}
use Rattle.rows.proofs.FitLaws.{zero_word, take_bits}
use Rattle.rows.proofs.ChunkLaws.{all_chunk, chunk_bits}
use Rattle.rows.proofs.BothLaws.{both_at}
use Rattle.rows.proofs.TurnLaws.{xor_bits}
use Rattle.rows.proofs.ClearLaws.{rows_low, count_low}
use Rattle.rows.proofs.SelectLaws.{selects}
use Rattle.rows.proofs.RecoverLaws.{outside_row}
use Rattle.outside.specs.declared.inner.Sought.{Sought}
use Rattle.outside.specs.declared.inner.Sought.TheVariants.{Set, Unset}
use Rattle.outside.specs.First.{has, sought, flipped, Clear, First}
use Rattle.outside.proofs.FirstLaws.{clear_join, first_behind, first_wider}

-- a mask has no row past its length
past_end : (s : List Bool) (i : ℕ) → length s ≤ i → has s i ≡ false
past_end s i h = get_or-eq_default s false {n = i} h

-- ---- a word shows n rows from row b on: each bit is what the test says of its row, and past them it has none

pub record Shown (f : ℕ → Bool) (b n w : ℕ) : Type 0 where
  pub small : w < 2 ^ 64
  pub bits : (i : ℕ) → i < n → has (bits_of 64 w) i ≡ f (b + i)
  pub rest : (i : ℕ) → n ≤ i → has (bits_of 64 w) i ≡ false

zero_has : (w i : ℕ) → i < w → has (bits_of w 0) i ≡ false
zero_has w i h = ap (λ (l : List Bool). has l i) (zero_word w) ∙ get_or-replicate w i false false h

-- none is set before the first
none_before : (s : List Bool) (p i : ℕ) → count (take p s) ≡ 0 → i < p → has s i ≡ false
none_before [] p i e h = refl
none_before (x ∷ s) zero i e h = absurd (omega arith)
none_before (true ∷ s) (suc p) i e h = absurd (omega arith)
none_before (false ∷ s) (suc p) zero e h = refl
none_before (false ∷ s) (suc p) (suc i) e h = none_before s p i e (le_of_suc-le-suc h)

module _ (f : ℕ → Bool) (b n w : ℕ) (few : n ≤ 64) (shown : Shown f b n w) where
  at : (i : ℕ) → b ≤ i → i < b + n → f i ≡ has (bits_of 64 w) (i - b)
  at i h k = let e : i ≡ b + (i - b) = omega arith in ap f e ∙ sym (shown.bits (i - b) (omega arith))

  -- a word of 0 shows no row that the test takes
  pub shown_none : w ≡ 0 → Clear f b (b + n)
  shown_none z i h k = at i h k ∙ ap (λ (x : ℕ). has (bits_of 64 x) (i - b)) z ∙ zero_has 64 (i - b) (omega arith)

  -- and else the lowest set bit is the first
  module _ (some : 0 < w) where
    abbrev bits : List Bool
    bits = bits_of 64 w

    abbrev low : ℕ
    low = count_trailing_zeros 64 w

    found : select bits 0 ≡ low
    found = ap (λ (l : List ℕ). get_or l 0 (length bits)) (rows_low 0 64 w some shown.small) ∙ zero-add low

    set : has bits low ≡ true
    set = ap (has bits) (sym found) ∙ (selects bits 0 (omega (arith, count_low 64 w some shown.small))).set

    none : count (take low bits) ≡ 0
    none = ap (λ (p : ℕ). count (take p bits)) (sym found) ∙ (selects bits 0 (omega (arith, count_low 64 w some shown.small))).rank

    pub low_within : low < n
    low_within = by (dec_lt low n)
      where
        by : Dec (low < n) → low < n
        by (yes h) = h
        by (no h) = absurd (false≢true (sym (shown.rest low (omega arith)) ∙ set))

    pub shown_first : First f b (b + n) (b + low)
    shown_first = record {
      on = omega arith;
      within = omega (arith, low_within);
      clear = λ i h k. at i h (omega (arith, low_within)) ∙ none_before bits low (i - b) none (omega arith);
      here = λ l. sym (shown.bits low low_within) ∙ set;
    }

  -- the same behind rows of which none is taken, before a later end
  module _ (from e : ℕ) (on : from ≤ b) (within : b + n ≤ e) (behind : Clear f from b) where
    pub none_behind : w ≡ 0 → Clear f from (b + n)
    none_behind z = clear_join f from b (b + n) behind (shown_none z)

    pub first_behind_shown : 0 < w → First f from e (b + count_trailing_zeros 64 w)
    first_behind_shown some =
        first_behind f from b e _ on behind (first_wider f b (b + n) e _ (omega (arith, low_within some)) within (shown_first some))

-- the word said otherwise
pub shown_as : (f : ℕ → Bool) (b n v w : ℕ) → w ≡ v → Shown f b n v → Shown f b n w
shown_as f b n v w e s = subst (λ (x : ℕ). Shown f b n x) (sym e) s

-- ---- rows read from lent words

-- the word of n bits from bit start + b on
abbrev pub read : ℕ → ℕ → ℕ → List ℕ → ℕ
read start b n ws = word_of (fit n (drop (start + b) (bits_of_all 64 ws)))

module _ (start b n : ℕ) (ws : List ℕ) where
  abbrev word : List Bool
  word = fit n (drop (start + b) (bits_of_all 64 ws))

  read_small : n ≤ 64 → read start b n ws < 2 ^ 64
  read_small few =
      let most : 2 ^ n ≤ 2 ^ 64 = pow_mono few in
      let long : 2 ^ length word ≡ 2 ^ n = ap (λ (k : ℕ). 2 ^ k) (fit_length n (drop (start + b) (bits_of_all 64 ws))) in
      omega (arith, word_of_lt word)

  -- in w bits of it
  read_bit : (w len i : ℕ) → i < w → i < n → b + i < len → has (bits_of w (read start b n ws)) i ≡ has (view start len ws) (b + i)
  read_bit w len i h k l =
      let bs = bits_of_all 64 ws in
      let sum : start + b + i ≡ start + (b + i) = omega arith in
      ap (λ (l : List Bool). has l i) (bits_of_word_of_fit w word)
      ∙ fit_at w word i h
      ∙ fit_at n (drop (start + b) bs) i k
      ∙ get_or-drop (start + b) bs i false
      ∙ ap (has bs) sum
      ∙ sym (get_or-take len (drop start bs) (b + i) false l ∙ get_or-drop start bs (b + i) false)

-- past the bits of which it is made a word has none
bits_past : (w : ℕ) (s : List Bool) (i : ℕ) → length s ≤ i → has (bits_of w (word_of s)) i ≡ false
bits_past w s i h = by (dec_lt i w)
  where
    by : Dec (i < w) → has (bits_of w (word_of s)) i ≡ false
    by (no k) = past_end (bits_of w (word_of s)) i (omega (arith, bits_of_length w (word_of s)))
    by (yes k) = ap (λ (l : List Bool). has l i) (bits_of_word_of_fit w s) ∙ fit_at w s i k ∙ past_end s i h

-- ---- the second mask's rows that self has not, in a word

outside_both : (s k : List Bool) → length k ≡ length s → both ◌&&◌ k (map not s) ≡ outside s k
outside_both [] [] e = refl
outside_both [] (x ∷ k) e = absurd (omega arith)
outside_both (y ∷ s) [] e = absurd (omega arith)
outside_both (y ∷ s) (x ∷ k) e = ap (λ (l : List Bool). (x && not y) ∷ l) (outside_both s k (suc_inj e))

outside_bit : (w x y : ℕ) → y < 2 ^ w → (i : ℕ) → has (bits_of w (bit_and x (2 ^ w - 1 - y))) i ≡ (has (bits_of w x) i && not (has (bits_of w y) i))
outside_bit w x y h i =
    ap (λ (l : List Bool). has l i)
    (and_bits w x (2 ^ w - 1 - y) ∙ ap (both ◌&&◌ (bits_of w x)) (not_bits w y h)
    ∙ outside_both (bits_of w y) (bits_of w x) (bits_of_length w x ∙ sym (bits_of_length w y)))
    ∙ outside_row (bits_of w y) (bits_of w x) i

module _ (sstart kstart len b n : ℕ) (sws kws : List ℕ) (few : n ≤ 64) (short : b + n ≤ len) where
  abbrev of_k : ℕ
  of_k = read kstart b n kws

  abbrev of_s : ℕ
  of_s = read sstart b n sws

  bit : (i : ℕ) → has (bits_of 64 (bit_and of_k (2 ^ 64 - 1 - of_s))) i ≡ (has (bits_of 64 of_k) i && not (has (bits_of 64 of_s) i))
  bit i = outside_bit 64 of_k of_s (read_small sstart b n sws few) i

  pub outside_shown : Shown (has (outside (view sstart len sws) (view kstart len kws))) b n (bit_and of_k (2 ^ 64 - 1 - of_s))
  outside_shown = record {
    small = omega (arith, and_le_l of_k (2 ^ 64 - 1 - of_s), read_small kstart b n kws few);
    bits = λ i h. bit i
        ∙ ap₂ (λ (p q : Bool). p && not q)
        (read_bit kstart b n kws 64 len i (omega arith) h (omega arith))
        (read_bit sstart b n sws 64 len i (omega arith) h (omega arith))
        ∙ sym (outside_row (view sstart len sws) (view kstart len kws) (b + i));
    rest = λ i h. bit i
        ∙ ap (λ (p : Bool). p && not (has (bits_of 64 of_s) i))
        (bits_past 64 (word kstart b n kws) i (omega (arith, fit_length n (drop (kstart + b) (bits_of_all 64 kws)))));
  }

-- ---- rows that are sought, in a word: set, or turned over

-- of a row that is sought the word has a 0 where it is set, and a 1 where it is not
abbrev turned : Sought → Bool
turned Set = false
turned Unset = true

sought_differs : (which : Sought) (x : Bool) → differs x (turned which) ≡ sought which x
sought_differs Set false = refl
sought_differs Set true = refl
sought_differs Unset false = refl
sought_differs Unset true = refl

-- each bit of the word that they are held against is one if rows that are not set are sought
ones_bit : (w i : ℕ) → i < w → has (bits_of w (2 ^ w - 1)) i ≡ true
ones_bit w i h =
    let all : List Bool = replicate w true in
    ap (λ (x : ℕ). has (bits_of w x) i) (all_chunk 0 w w (omega arith))
    ∙ ap (λ (l : List Bool). has l i) (chunk_bits 0 w all (omega (arith, length-replicate w true)))
    ∙ get_or-take w all i false h
    ∙ get_or-replicate w i true false h

flipped_bit : (which : Sought) (n i : ℕ) → n ≤ 64 → i < n → has (bits_of n (flipped which)) i ≡ turned which
flipped_bit Set n i few h = zero_has n i h
flipped_bit Unset n i few h =
    ap (λ (l : List Bool). has l i) (sym (take_bits n 64 (2 ^ 64 - 1) few))
    ∙ get_or-take n (bits_of 64 (2 ^ 64 - 1)) i false h
    ∙ ones_bit 64 i (omega arith)

module _ (which : Sought) (start len b n : ℕ) (ws : List ℕ) (few : n ≤ 64) (short : b + n ≤ len) where
  abbrev rows : ℕ
  rows = read start b 64 ws

  abbrev held : ℕ
  held = bit_xor rows (flipped which)

  cut : bit_and held (2 ^ n - 1) ≡ word_of (bits_of n held)
  cut = and_mask held n ∙ sym (word_of_bits_of_mod n held)

  held_bit : (i : ℕ) → i < n → has (bits_of n held) i ≡ sought which (has (view start len ws) (b + i))
  held_bit i h =
      ap (λ (l : List Bool). has l i) (xor_bits n rows (flipped which))
      ∙ both_at differs (bits_of n rows) (bits_of n (flipped which)) (bits_of_length n rows ∙ sym (bits_of_length n (flipped which))) i
      (omega (arith, bits_of_length n rows))
      ∙ ap₂ differs (read_bit start b 64 ws n len i h (omega arith) (omega arith)) (flipped_bit which n i few h)
      ∙ sought_differs which (has (view start len ws) (b + i))

  pub sought_shown : Shown (λ i. sought which (has (view start len ws) i)) b n (bit_and held (2 ^ n - 1))
  sought_shown =
      let most : 2 ^ n ≤ 2 ^ 64 = pow_mono few in
      record {
        small = omega (arith, and_le_r held (2 ^ n - 1), pow_pos n);
        bits = λ i h. ap (λ (v : ℕ). has (bits_of 64 v) i) cut
            ∙ ap (λ (l : List Bool). has l i) (bits_of_word_of_fit 64 (bits_of n held))
            ∙ fit_at 64 (bits_of n held) i (omega arith)
            ∙ held_bit i h;
        rest = λ i h. ap (λ (v : ℕ). has (bits_of 64 v) i) cut ∙ bits_past 64 (bits_of n held) i (omega (arith, bits_of_length n held));
      }
