-- A turn of each loop, as laws about lists: a chunk more is laid, and its set rows are counted; a word made of two words is a chunk.
-- By the laws of bits laid one after the other. Assumes nothing.
use Prim.Native.Nat.{ℕ, ◌+◌, ◌-◌, ◌*◌, ◌/◌, ◌%◌, ◌^◌, ◌≤◌}
use native.Mathlib.Nat.{zero-add}
use mathlib.Core.Path.{◌≡◌, refl, sym, ap, ap₂, ◌∙◌}
use mathlib.Core.Bool.{Bool}
use mathlib.Core.List.{List}
use native.Mathlib.Omega.{arith}
use lib.Count.{ones}
use lib.ListN.{length, take, drop, length-take}
use lib.Seq.{length-take-le, take-take, take_all}
use Rattle.rows.specs.Rows.{count}
use Rattle.rows.specs.Word.{bits_of, word_of, both}
use Rattle.rows.specs.Words.{Below, fit, bits_of_all, view}
use Rattle.rows.specs.Laid.{laid}
use Rattle.rows.proofs.RowLaws.{count_append, count_le_length, count_take_le}
use Rattle.rows.proofs.WordLaws.{ones_word}
use Rattle.rows.proofs.WordsLaws.{view_length}
use Rattle.rows.proofs.PartLaws.{view_chunk}
use Rattle.rows.proofs.LaidLaws.{laid_nil, laid_append}
use Rattle.rows.proofs.BothLaws.{both_length, both_take, both_part}
use Rattle.rows.proofs.ChunkLaws.{chunk_bits, chunk_next}
use Rattle.rules.specs.Operand.{Operand, rows_of, length_of}
use Rattle.rules.specs.SetOps.{combination}
use Rattle.operand.specs.Flat.{Abreast}
use Rattle.operand.proofs.FlatLaws.{flat_length}

-- the result of two operands of one length is as long
pub result_length : (g : Bool → Bool → Bool) (a b : Operand) → Abreast a b → length (combination g a b) ≡ length_of a.form
result_length g a b h =
    let la = flat_length a h.0 in
    both_length g (rows_of a) (rows_of b) (la ∙ h.2 ∙ sym (flat_length b h.1)) ∙ la

module _ (row n : ℕ) (rows : List Bool) where
  -- a chunk has no more set rows than rows
  pub turn_few : (bits : ℕ) → bits ≡ word_of (take n (drop row rows)) → ones bits ≤ n
  turn_few bits e = omega (arith, ap ones e ∙ ones_word (take n (drop row rows)), count_le_length (take n (drop row rows)), length-take n (drop row rows))

  pub turn_count : count (take row rows) + ones (word_of (take n (drop row rows))) ≡ count (take (row + n) rows)
  turn_count =
      ap (λ (k : ℕ). count (take row rows) + k) (ones_word (take n (drop row rows)))
      ∙ sym (ap count (chunk_next row n rows) ∙ count_append (take row rows) (take n (drop row rows)))

  pub turn_laid : (out : List ℕ) → row + n ≤ length rows → laid row (bits_of n (word_of (take n (drop row rows)))) (laid 0 (take row rows) out) ≡ laid 0 (take (row + n) rows) out
  turn_laid out room =
      ap (λ (l : List Bool). laid row l (laid 0 (take row rows) out)) (chunk_bits row n rows room)
      ∙ laid_append 64 0 row (take row rows) (take n (drop row rows)) out (sym (zero-add (length (take row rows)) ∙ length-take-le row rows (omega arith)))
      ∙ ap (λ (l : List Bool). laid 0 l out) (sym (chunk_next row n rows))

-- ---- a loop: the rows before `row` are laid, and `sum` of them are set

pub record Made (rows : List Bool) (first : List ℕ) (row sum : ℕ) (out : List ℕ) : Type 0 where
  pub few : sum ≤ row
  pub counted : sum ≡ count (take row rows)
  pub written : out ≡ laid 0 (take row rows) first

pub made_none : (rows : List Bool) (out : List ℕ) → Below (2 ^ 64) out → Made rows out 0 0 out
made_none rows out b = record { few = omega arith; counted = refl; written = sym (laid_nil 64 0 out b) }

pub made_next : (rows : List Bool) (first : List ℕ) (row sum n bits past : ℕ) (out then : List ℕ) → Made rows first row sum out
    → bits ≡ word_of (take n (drop row rows)) → row + n ≤ length rows → then ≡ laid row (bits_of n bits) out → past ≡ row + n → Made rows first past (sum + ones bits) then
made_next rows first row sum n bits past out then m is room new e = record {
  few = omega (arith, m.few, turn_few row n rows bits is);
  counted = ap₂ (λ (x y : ℕ). x + ones y) m.counted is ∙ turn_count row n rows ∙ ap (λ (k : ℕ). count (take k rows)) (sym e);
  written = new
      ∙ ap₂ (λ (x : ℕ) (o : List ℕ). laid row (bits_of n x) o) is m.written
      ∙ turn_laid row n rows first room
      ∙ ap (λ (k : ℕ). laid 0 (take k rows) first) (sym e);
}

pub made_all : (rows : List Bool) (first : List ℕ) (row sum : ℕ) (out : List ℕ) → Made rows first row sum out → length rows ≤ row
    → (sum ≡ count rows) × (out ≡ laid 0 rows first)
made_all rows first row sum out m h =
    let all = take_all row rows h in
    (m.counted ∙ ap count all, m.written ∙ ap (λ (l : List Bool). laid 0 l first) all)

-- ---- two operands in words, k rows of each

module _ (g : Bool → Bool → Bool) (k s t : ℕ) (aws bws : List ℕ) (aroom : s + k ≤ length aws * 64) (broom : t + k ≤ length bws * 64) where
  pub whole_length : length (both g (view s k aws) (view t k bws)) ≡ k
  whole_length =
      let long = view_length s k aws aroom in
      both_length g (view s k aws) (view t k bws) (long ∙ sym (view_length t k bws broom)) ∙ long

  -- the operation on 64 bits of each is a chunk of the result
  pub whole_word : (row x y : ℕ) → row + 64 ≤ k → x ≡ word_of (fit 64 (drop (s + row) (bits_of_all 64 aws))) → y ≡ word_of (fit 64 (drop (t + row) (bits_of_all 64 bws)))
      → word_of (both g (bits_of 64 x) (bits_of 64 y)) ≡ word_of (take 64 (drop row (both g (view s k aws) (view t k bws))))
  whole_word row x y h ex ey =
      let bx = ap (bits_of 64) (ex ∙ view_chunk s row 64 k aws h aroom) ∙ chunk_bits row 64 (view s k aws) (omega (arith, view_length s k aws aroom)) in
      let by = ap (bits_of 64) (ey ∙ view_chunk t row 64 k bws h broom) ∙ chunk_bits row 64 (view t k bws) (omega (arith, view_length t k bws broom)) in
      ap word_of (ap₂ (both g) bx by ∙ sym (both_part g row 64 (view s k aws) (view t k bws)))

-- the first k rows of the result are the result of the first k rows
pub whole_part : (g : Bool → Bool → Bool) (k len more s t : ℕ) (aws bws : List ℕ) → k ≤ len → len ≡ more
    → both g (view s k aws) (view t k bws) ≡ take k (both g (view s len aws) (view t more bws))
whole_part g k len more s t aws bws h e =
    sym (both_take g k (view s len aws) (view t more bws)
    ∙ ap₂ (both g) (take-take k len (drop s (bits_of_all 64 aws)) h) (take-take k more (drop t (bits_of_all 64 bws)) (omega arith)))

-- the whole words of two operands hold the first rows of the result, up to what is left after them
pub whole_made : (g : Bool → Bool → Bool) (len more s t sum : ℕ) (aws bws first out : List ℕ) → len ≡ more
    → sum ≡ count (both g (view s (len / 64 * 64) aws) (view t (len / 64 * 64) bws))
    → out ≡ laid 0 (both g (view s (len / 64 * 64) aws) (view t (len / 64 * 64) bws)) first
    → Made (both g (view s len aws) (view t more bws)) first (len - len % 64) sum out
whole_made g len more s t sum aws bws first out e counts lays =
    let rows = both g (view s len aws) (view t more bws) in
    let place : len / 64 * 64 ≡ len - len % 64 = omega arith in
    let part = whole_part g (len / 64 * 64) len more s t aws bws (omega arith) e ∙ ap (λ (k : ℕ). take k rows) place in
    record {
      few = omega (arith, counts, ap count part, count_take_le (len - len % 64) rows);
      counted = counts ∙ ap count part;
      written = lays ∙ ap (λ (l : List Bool). laid 0 l first) part;
    }
