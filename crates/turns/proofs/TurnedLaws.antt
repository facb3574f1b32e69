-- A mask's runs found chunk by chunk: how many numbers there are before a row, the row before it carried on, and one chunk more.
-- By the laws of rows against the row before them, of a word and of the whole. Assumes nothing.
use Prim.Native.Nat.{ℕ, suc, ◌+◌, ◌-◌, ◌*◌, ◌/◌, ◌^◌, ◌≤◌, ◌<◌, min}
use mathlib.Core.Path.{◌≡◌, refl, sym, ap, ap₂, ◌∙◌, subst}
use mathlib.Core.Bool.{Bool, true, false}
use mathlib.Core.List.{List, []}
use native.Mathlib.Omega.{arith}
use lib.ListN.{length, take, drop, length-take, length-drop, length-append}
use lib.Seq.{take_all}
use lib.Count.{ones}
use Rattle.rows.specs.Rows.{count}
use Rattle.rows.specs.Word.{is_one, digit, bits_of, word_of}
use Rattle.rows.specs.Words.{fit, bits_of_all, view}
use Rattle.rows.specs.Lists.{set_rows}
use Rattle.rows.specs.Runs.{runs_of, turns}
use Rattle.rows.specs.Edges.{edges, last_of}
use Rattle.rows.specs.Asks.{InView}
use Rattle.rows.proofs.RowLaws.{count_split, count_take_le}
use Rattle.rows.proofs.WordLaws.{digit_lt, is_one_digit, word_of_lt, ones_word}
use Rattle.rows.proofs.ListLaws.{rows_count}
use Rattle.rows.proofs.PartLaws.{view_chunk, count_part}
use Rattle.rows.proofs.WordsLaws.{view_length}
use Rattle.rows.proofs.ChunkLaws.{chunk_bits}
use Rattle.rows.proofs.TurnLaws.{turns_whole, edges_length, edges_part, last_next, last_digit}

-- the rows before `row` that differ from the row before them are counted, and the last of them is carried on
pub record Counted (s : List Bool) (row sum carry : ℕ) : Type 0 where
  pub passed : sum ≡ count (take row (edges false s))
  pub carried : carry ≡ digit (last_of false (take row s))

pub counted_none : (s : List Bool) → Counted s 0 0 0
counted_none s = record { passed = refl; carried = refl }

pub counted_as : (s : List Bool) (row sum carry : ℕ) → Counted s row sum carry
    → (row' sum' carry' : ℕ) → row' ≡ row → sum' ≡ sum → carry' ≡ carry → Counted s row' sum' carry'
counted_as s row sum carry so row' sum' carry' r m l = record {
  passed = m ∙ so.passed ∙ ap (λ (k : ℕ). count (take k (edges false s))) (sym r);
  carried = l ∙ so.carried ∙ ap (λ (k : ℕ). digit (last_of false (take k s))) (sym r);
}

pub carry_small : (s : List Bool) (row sum carry : ℕ) → Counted s row sum carry → carry < 2
carry_small s row sum carry so = omega (arith, so.carried, digit_lt (last_of false (take row s)))

-- ---- a chunk more: n rows from `row` on, whose word is `here`

-- the word as it is read from lent words
pub view_word : (start row n len here : ℕ) (ws : List ℕ) → row + n ≤ len → start + len ≤ length ws * 64
    → here ≡ word_of (fit n (drop (start + row) (bits_of_all 64 ws))) → here ≡ word_of (take n (drop row (view start len ws)))
view_word start row n len here ws h room e = e ∙ view_chunk start row n len ws h room

module _ (s : List Bool) (row n sum carry here : ℕ) (so : Counted s row sum carry) (some : 0 < n) (room : row + n ≤ length s)
    (word : here ≡ word_of (take n (drop row s))) where
  abbrev rows : List Bool
  rows = take n (drop row s)

  rows_here : bits_of n here ≡ rows
  rows_here = ap (bits_of n) word ∙ chunk_bits row n s room

  -- the chunk's rows that differ from the row before them
  pub edges_here : word_of (edges (is_one carry) (bits_of n here)) ≡ word_of (take n (drop row (edges false s)))
  edges_here =
      ap word_of
      (ap₂ edges (ap is_one so.carried ∙ is_one_digit (last_of false (take row s))) rows_here
      ∙ sym (edges_part row n false s))

  -- as many as the word has ones
  found_ones : (found : ℕ) → found ≡ word_of (edges (is_one carry) (bits_of n here)) → ones found ≡ count (take n (drop row (edges false s)))
  found_ones found e = ap ones (e ∙ edges_here) ∙ ones_word (take n (drop row (edges false s)))

  small : here < 2 ^ suc (n - 1)
  small =
      let long : length rows ≡ suc (n - 1) = omega (arith, length-take n (drop row s), length-drop row s) in
      subst (λ (k : ℕ). here < 2 ^ k) long (subst (λ (k : ℕ). k < 2 ^ length rows) (sym word) (word_of_lt rows))

  pub carry_on : here / 2 ^ (n - 1) ≡ digit (last_of false (take (row + n) s))
  carry_on =
      let last : Bool = last_of false (take row s) in
      let all : suc (n - 1) ≡ n = omega arith in
      last_digit (n - 1) here last small
      ∙ ap (λ (k : ℕ). digit (last_of last (bits_of k here))) all
      ∙ ap (λ (l : List Bool). digit (last_of last l)) rows_here
      ∙ ap digit (sym (last_next row n false s))

  pub counted_next : (added : ℕ) → added ≡ count (take n (drop row (edges false s))) → Counted s (row + n) (sum + added) (here / 2 ^ (n - 1))
  counted_next added e =
      record { passed = ap₂ (λ (x y : ℕ). x + y) so.passed e ∙ sym (count_split row n (edges false s)); carried = carry_on }

-- a chunk read from lent words, and counted
module _ (start len row sum carry n here found : ℕ) (ws : List ℕ) (in-view : InView start len ws) (so : Counted (view start len ws) row sum carry)
    (before : row < len) (size : n ≡ min 64 (len - row)) (read : here ≡ word_of (fit n (drop (start + row) (bits_of_all 64 ws))))
    (turned : found ≡ word_of (edges (is_one carry) (bits_of n here))) where
  long : length (view start len ws) ≡ len
  long = view_length start len ws in-view.2

  next : Counted (view start len ws) (row + n) (sum + ones found) (here / 2 ^ (n - 1))
  next =
      let some : 0 < n = omega arith in
      let room : row + n ≤ length (view start len ws) = omega (arith, long) in
      let word = view_word start row n len here ws (omega arith) in-view.2 read in
      counted_next (view start len ws) row n sum carry here so some room word (ones found)
      (found_ones (view start len ws) row n sum carry here so some room word found turned)

  pub counted_chunk : (past more last : ℕ) → past ≡ row + n → more ≡ sum + ones found → last ≡ here / 2 ^ (n - 1) → Counted (view start len ws) past more last
  counted_chunk past more last p m l = counted_as (view start len ws) _ _ _ next past more last p m l

  -- no more numbers than rows
  pub chunk_few : sum + ones found ≤ len
  chunk_few = omega (arith, next.passed, count_take_le (row + n) (edges false (view start len ws)))

-- ---- all rows: the end of a run that the last row is in is a number more

pub end_length : (p : Bool) (b : ℕ) → length (turns p b []) ≡ digit p
end_length false b = refl
end_length true b = refl

pub runs_length : (s : List Bool) → length (runs_of s) ≡ count (edges false s) + digit (last_of false s)
runs_length s =
    let end : List ℕ = turns (last_of false s) (0 + length s) [] in
    ap length (turns_whole false 0 s)
    ∙ length-append (set_rows 0 (edges false s)) end
    ∙ ap₂ (λ (x y : ℕ). x + y) (rows_count 0 (edges false s)) (end_length (last_of false s) (0 + length s))

pub counted_few : (s : List Bool) (row sum carry : ℕ) → Counted s row sum carry → sum ≤ length (runs_of s)
counted_few s row sum carry so = omega (arith, so.passed, count_part row (edges false s), runs_length s)

pub counted_all : (s : List Bool) (row sum carry : ℕ) → Counted s row sum carry → length s ≡ row → sum + carry ≡ length (runs_of s)
counted_all s row sum carry so e =
    let every : take row (edges false s) ≡ edges false s = take_all row (edges false s) (omega (arith, edges_length false s)) in
    let last : take row s ≡ s = take_all row s (omega arith) in
    ap₂ (λ (x y : ℕ). x + y) (so.passed ∙ ap count every) (so.carried ∙ ap (λ (l : List Bool). digit (last_of false l)) last)
    ∙ sym (runs_length s)
