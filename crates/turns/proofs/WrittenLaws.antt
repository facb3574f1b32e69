-- A mask's runs written as numbers: entry after entry, lowest set bit first, chunk after chunk, and the end of a run that the last row is in.
-- By what one store, one cleared bit and one chunk more do.
-- Assumes nothing.
use Prim.Native.Nat.{ℕ, zero, suc, ◌+◌, ◌-◌, ◌/◌, ◌^◌, ◌≤◌, ◌<◌, min}
use native.Mathlib.Nat.{zero-add, le_of_suc-le-suc}
use mathlib.Core.Path.{◌≡◌, refl, sym, ap, ap₂, ◌∙◌, subst}
use mathlib.Core.Bool.{Bool, false}
use mathlib.Core.List.{List, [], ◌∷◌, ◌++◌}
use native.Mathlib.Omega.{arith}
use lib.ListN.{length, take, drop, set, length-take}
use lib.Seq.{length-take-le, take_all}
use lib.Bits.{bit_and}
use lib.Count.{count_trailing_zeros}
use Rattle.rows.specs.Rows.{count, splice}
use Rattle.rows.specs.Word.{is_one, bits_of, word_of}
use Rattle.rows.specs.Words.{fit, bits_of_all, view}
use Rattle.rows.specs.Lists.{set_rows}
use Rattle.rows.specs.Runs.{turns, runs_of}
use Rattle.rows.specs.Edges.{edges, last_of}
use Rattle.rows.specs.Asks.{InView}
use Rattle.rows.proofs.SpliceLaws.{splice_nil, splice_length, splice_append}
use Rattle.rows.proofs.WordsLaws.{view_length}
use Rattle.rows.proofs.WordLaws.{digit_is_one, is_one_digit}
use Rattle.rows.proofs.ListLaws.{rows_count}
use Rattle.rows.proofs.ClearLaws.{rows_low}
use Rattle.rows.proofs.PartLaws.{rows_append, rows_word}
use Rattle.rows.proofs.ChunkLaws.{chunk_next}
use Rattle.rows.proofs.TurnLaws.{turns_whole, edges_length}
use Rattle.turns.proofs.TurnedLaws.{Counted, counted_none, counted_as, carry_small, view_word, edges_here, counted_next, counted_few, counted_all, end_length}

-- ---- the set bits of a word, lowest first

pub splice_cons : (p : ℕ) (xs : List ℕ) (y : ℕ) (ys : List ℕ) → p < length xs → splice p xs (y ∷ ys) ≡ splice (suc p) (set xs p y) ys
splice_cons p [] y ys h = absurd (omega arith)
splice_cons zero (x ∷ xs) y ys h = refl
splice_cons (suc p) (x ∷ xs) y ys h = ap (λ (l : List ℕ). x ∷ l) (splice_cons p xs y ys (le_of_suc-le-suc h))

pub bit_turn : (w base n p : ℕ) (out : List ℕ) → 0 < n → n < 2 ^ w → p < length out
    → splice (suc p) (set out p (base + count_trailing_zeros w n)) (set_rows base (bits_of w (bit_and n (n - 1)))) ≡ splice p out (set_rows base (bits_of w n))
bit_turn w base n p out h l r =
    sym (ap (splice p out) (rows_low base w n h l) ∙ splice_cons p out (base + count_trailing_zeros w n) (set_rows base (bits_of w (bit_and n (n - 1)))) r)

-- ---- chunk after chunk

-- what the runs turn at before `row` is written, and counted
pub record Written (s : List Bool) (first : List ℕ) (row k carry : ℕ) (out : List ℕ) : Type 0 where
  pub counted : Counted s row k carry
  pub rows : out ≡ splice 0 first (set_rows 0 (take row (edges false s)))

pub written_none : (s : List Bool) (out : List ℕ) → Written s out 0 0 0 out
written_none s out = record { counted = counted_none s; rows = sym (splice_nil 0 out) }

pub written_kept : (s : List Bool) (first : List ℕ) (row k carry : ℕ) (out : List ℕ) → Written s first row k carry out → length out ≡ length first
written_kept s first row k carry out so = ap length so.rows ∙ splice_length 0 first (set_rows 0 (take row (edges false s)))

module _ (s : List Bool) (first : List ℕ) (row n k carry here found : ℕ) (out : List ℕ) (so : Written s first row k carry out) (some : 0 < n) (short : n ≤ 64)
    (room : row + n ≤ length s) (word : here ≡ word_of (take n (drop row s))) (is : found ≡ word_of (edges (is_one carry) (bits_of n here))) where
  abbrev piece : List Bool
  piece = take n (drop row (edges false s))

  found_rows : set_rows row (bits_of 64 found) ≡ set_rows row piece
  found_rows =
      ap (λ (x : ℕ). set_rows row (bits_of 64 x)) (is ∙ edges_here s row n k carry here so.counted some room word)
      ∙ rows_word row 64 piece (omega (arith, length-take n (drop row (edges false s))))

  found_count : count (bits_of 64 found) ≡ count piece
  found_count = sym (rows_count row (bits_of 64 found)) ∙ ap length found_rows ∙ rows_count row piece

  next_counted : Counted s (row + n) (k + count (bits_of 64 found)) (here / 2 ^ (n - 1))
  next_counted = counted_next s row n k carry here so.counted some room word (count (bits_of 64 found)) found_count

  pub next_rows : splice k out (set_rows row (bits_of 64 found)) ≡ splice 0 first (set_rows 0 (take (row + n) (edges false s)))
  next_rows =
      let done : List Bool = take row (edges false s) in
      let long : length done ≡ row = length-take-le row (edges false s) (omega (arith, edges_length false s)) in
      ap₂ (λ (o l : List ℕ). splice k o l) so.rows found_rows
      ∙ ap (λ (i : ℕ). splice i (splice 0 first (set_rows 0 done)) (set_rows row piece))
      (so.counted.passed ∙ sym (zero-add (length (set_rows 0 done)) ∙ rows_count 0 done))
      ∙ splice_append 0 first (set_rows 0 done) (set_rows row piece)
      ∙ ap (splice 0 first)
      (sym
      (ap (set_rows 0) (chunk_next row n (edges false s))
      ∙ rows_append 0 done piece
      ∙ ap (λ (i : ℕ). set_rows 0 done ++ set_rows i piece) (zero-add (length done) ∙ long)))

  written_next : (k' : ℕ) (out' : List ℕ) → k' ≡ k + count (bits_of 64 found) → out' ≡ splice k out (set_rows row (bits_of 64 found))
      → Written s first (row + n) k' (here / 2 ^ (n - 1)) out'
  written_next k' out' e o =
      record { counted = subst (λ (i : ℕ). Counted s (row + n) i (here / 2 ^ (n - 1))) (sym e) next_counted; rows = o ∙ next_rows }

pub written_as : (s : List Bool) (first : List ℕ) (row k carry : ℕ) (out : List ℕ) → Written s first row k carry out
    → (row' k' carry' : ℕ) (out' : List ℕ) → row' ≡ row → k' ≡ k → carry' ≡ carry → out' ≡ out → Written s first row' k' carry' out'
written_as s first row k carry out so row' k' carry' out' r m l o = record {
  counted = counted_as s row k carry so.counted row' k' carry' r m l;
  rows = o ∙ so.rows ∙ ap (λ (i : ℕ). splice 0 first (set_rows 0 (take i (edges false s)))) (sym r);
}

-- a chunk read from lent words, and written
module _ (start len row k carry n here found : ℕ) (ws first out : List ℕ) (in-view : InView start len ws)
    (so : Written (view start len ws) first row k carry out) (before : row < len) (size : n ≡ min 64 (len - row))
    (read : here ≡ word_of (fit n (drop (start + row) (bits_of_all 64 ws)))) (is : found ≡ word_of (edges (is_one carry) (bits_of n here))) where
  abbrev s : List Bool
  s = view start len ws

  long : row + n ≤ length s
  long = omega (arith, view_length start len ws in-view.2)

  word : here ≡ word_of (take n (drop row s))
  word = view_word start row n len here ws (omega arith) in-view.2 read

  pub chunk_room : length (runs_of s) ≤ length first → k + count (bits_of 64 found) ≤ length out
  chunk_room h =
      let more = next_counted s first row n k carry here found out so (omega arith) (omega arith) long word is in
      omega (arith, counted_few s _ _ _ more, written_kept s first row k carry out so)

  pub written_chunk : (past k' carry' : ℕ) (out' : List ℕ) → past ≡ row + n → k' ≡ k + count (bits_of 64 found) → carry' ≡ here / 2 ^ (n - 1)
      → out' ≡ splice k out (set_rows row (bits_of 64 found)) → Written s first past k' carry' out'
  written_chunk past k' carry' out' p m l o =
      written_as s first (row + n) k' (here / 2 ^ (n - 1)) out' (written_next s first row n k carry here found out so (omega arith) (omega arith) long word is k' out' m o)
      past k' carry' out' p refl l refl

-- ---- the end of a run that the last row is in

pub no_end : (carry past : ℕ) → carry ≡ 0 → turns (is_one carry) past [] ≡ []
no_end carry past e = ap (λ (d : ℕ). turns (is_one d) past []) e

pub one_end : (carry past : ℕ) → 0 < carry → turns (is_one carry) past [] ≡ past ∷ []
one_end zero past h = absurd (omega arith)
one_end (suc d) past h = refl

module _ (s : List Bool) (first : List ℕ) (row k carry : ℕ) (out : List ℕ) (so : Written s first row k carry out) (all : length s ≡ row) where
  pub end_room : k + length (turns (is_one carry) row []) ≡ length (runs_of s)
  end_room =
      let small : carry < 2 = carry_small s row k carry so.counted in
      ap (λ (i : ℕ). k + i) (end_length (is_one carry) row ∙ digit_is_one carry small) ∙ counted_all s row k carry so.counted all

  pub written_all : splice k out (turns (is_one carry) row []) ≡ splice 0 first (runs_of s)
  written_all =
      let every : take row (edges false s) ≡ edges false s = take_all row (edges false s) (omega (arith, edges_length false s)) in
      let done : List ℕ = set_rows 0 (edges false s) in
      let last : is_one carry ≡ last_of false s =
      ap is_one so.counted.carried ∙ is_one_digit (last_of false (take row s)) ∙ ap (last_of false) (take_all row s (omega arith)) in
      let end : List ℕ = turns (last_of false s) (0 + length s) [] in
      let count-is : k ≡ 0 + length done = so.counted.passed ∙ ap count every ∙ sym (zero-add (length done) ∙ rows_count 0 (edges false s)) in
      ap₂ (λ (o l : List ℕ). splice k o l)
      (so.rows ∙ ap (λ (l : List Bool). splice 0 first (set_rows 0 l)) every)
      (ap₂ (λ (p : Bool) (i : ℕ). turns p i []) last (sym (zero-add (length s) ∙ all)))
      ∙ ap (λ (i : ℕ). splice i (splice 0 first done) end) count-is
      ∙ splice_append 0 first done end
      ∙ ap (splice 0 first) (sym (turns_whole false 0 s))
