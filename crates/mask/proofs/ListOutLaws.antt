-- A mask's rows written as a list, chunk after chunk. By what one chunk more does.
-- Assumes nothing.
use Prim.Native.Nat.{ℕ, ◌+◌, ◌≤◌}
use native.Mathlib.Nat.{zero-add}
use mathlib.Core.Path.{◌≡◌, sym, ap, ap₂, ◌∙◌}
use mathlib.Core.Bool.{Bool}
use mathlib.Core.List.{List, ◌++◌}
use native.Mathlib.Omega.{arith}
use lib.ListN.{length, take, drop, length-take}
use lib.Seq.{length-take-le}
use Rattle.rows.specs.Rows.{count, splice}
use Rattle.rows.specs.Word.{bits_of, word_of}
use Rattle.rows.specs.Lists.{set_rows}
use Rattle.rows.proofs.RowLaws.{count_append}
use Rattle.rows.proofs.SpliceLaws.{splice_append, splice_eq}
use Rattle.rows.proofs.PartLaws.{rows_append, rows_word}
use Rattle.rows.proofs.ListLaws.{rows_count}
use Rattle.rows.proofs.ChunkLaws.{chunk_next}

count_word : (w : ℕ) (s : List Bool) → length s ≤ w → count (bits_of w (word_of s)) ≡ count s
count_word w s h = sym (rows_count 0 (bits_of w (word_of s))) ∙ ap length (rows_word 0 w s h) ∙ rows_count 0 s

module _ (w row n : ℕ) (rows : List Bool) (short : n ≤ w) (room : row + n ≤ length rows) where
  piece_length : length (take n (drop row rows)) ≤ w
  piece_length = omega (arith, length-take n (drop row rows))

  -- the entries so far are as many as the set rows so far, and one chunk more
  pub list_count : count (take (row + n) rows) ≡ count (take row rows) + count (bits_of w (word_of (take n (drop row rows))))
  list_count =
      ap count (chunk_next row n rows) ∙ count_append (take row rows) (take n (drop row rows))
      ∙ ap (λ (k : ℕ). count (take row rows) + k) (sym (count_word w (take n (drop row rows)) piece_length))

  pub list_turn : (out : List ℕ)
      → splice (count (take row rows)) (splice 0 out (set_rows 0 (take row rows))) (set_rows row (bits_of w (word_of (take n (drop row rows))))) ≡ splice 0 out (set_rows 0 (take (row + n) rows))
  list_turn out =
      let done = take row rows in
      let piece = take n (drop row rows) in
      let long : length done ≡ row = length-take-le row rows (omega arith) in
      ap₂ (λ (k : ℕ) (l : List ℕ). splice k (splice 0 out (set_rows 0 done)) l) (sym (zero-add (length (set_rows 0 done)) ∙ rows_count 0 done)) (rows_word row w piece piece_length)
      ∙ splice_append 0 out (set_rows 0 done) (set_rows row piece)
      ∙ ap (splice 0 out) (sym (ap (set_rows 0) (chunk_next row n rows) ∙ rows_append 0 done piece ∙ ap (λ (k : ℕ). set_rows 0 done ++ set_rows k piece) (zero-add (length done) ∙ long)))

-- all rows over the front of the output, later entries as they were
pub list_front : (out : List ℕ) (rs : List ℕ) (n : ℕ) → length rs ≡ n → n ≤ length out → splice 0 out rs ≡ rs ++ drop n out
list_front out rs n e h = splice_eq 0 out rs (omega arith) ∙ ap (λ (k : ℕ). rs ++ drop k out) (zero-add (length rs) ∙ e)
