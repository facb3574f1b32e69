-- The row of a rank, by a walk over chunks; and what a loop over ranks keeps. By the laws of select on the rows before a
-- chunk and on the chunk.
-- Assumes nothing.
use Prim.Native.Nat.{ℕ, suc, ◌+◌, ◌-◌, ◌*◌, ◌≤◌, ◌<◌, min}
use native.Mathlib.Nat.{zero-add}
use native.Mathlib.Decide.{dec_lt}
use mathlib.Core.Path.{◌≡◌, refl, sym, ap, ap₂, ◌∙◌}
use mathlib.Core.Bool.{Bool, true}
use mathlib.Core.List.{List, [], ◌∷◌, ◌++◌, map, map-append, append-nil}
use native.Mathlib.Omega.{arith}
use lib.ListN.{length, take, drop, length-take, length-drop, take-append-drop}
use lib.Seq.{take_all, take-add, length-take-le}
use lib.Count.{ones}
use Rattle.rows.specs.Rows.{count, rank_at, compose}
use Rattle.rows.specs.Word.{bits_of, word_of}
use Rattle.rows.specs.Words.{fit, view}
use Rattle.rows.specs.Lists.{member, listed, Ascending, set_rows, select}
use Rattle.rows.specs.Laid.{laid, marked}
use Rattle.rows.proofs.RowLaws.{count_append, count_le_length}
use Rattle.rows.proofs.WordLaws.{ones_word}
use Rattle.rows.proofs.WordsLaws.{bits_of_word_of_fit, view_length}
use Rattle.rows.proofs.FitLaws.{fit_append}
use Rattle.rows.proofs.ListLaws.{tab_length, rows_listed, rows_ascending}
use Rattle.rows.proofs.MarkLaws.{marked_append}
use Rattle.rows.proofs.KeptLaws.{rows_compose_list}
use Rattle.rows.proofs.SelectLaws.{selects, select_in, select_skip}
use Rattle.rows.proofs.PartLaws.{rows_append, rows_word, count_part}
use Rattle.rows.specs.declared.Rank.{Rank}
use Rattle.marks.specs.declared.driven.Place.{Place}
use Rattle.books.specs.Chunks.{chunk_at}
use Rattle.marks.specs.Driven.{Walked, Holds}

-- ---- a chunk

chunk_length : (s : List Bool) (i : ℕ) → length (chunk_at s i) ≡ min 64 (length s - i)
chunk_length s i = length-take 64 (drop i s) ∙ ap (min 64) (length-drop i s)

-- what a walk counts in it
pub chunk_count : (s : List Bool) (i x : ℕ) → x ≡ word_of (chunk_at s i) → ones x ≡ count (chunk_at s i)
chunk_count s i x e = ap ones e ∙ ones_word (chunk_at s i)

pub chunk_few : (s : List Bool) (i : ℕ) → count (chunk_at s i) ≤ 64
chunk_few s i = omega (arith, count_le_length (chunk_at s i), chunk_length s i)

-- the rank a chunk later
pub rank_next : (s : List Bool) (i : ℕ) → rank_at s (i + 64) ≡ rank_at s i + count (chunk_at s i)
rank_next s i = ap count (take-add i 64 s) ∙ count_append (take i s) (chunk_at s i)

-- a row whose rank is at or below that of a set row is within
behind : (s : List Bool) (i rank : ℕ) → rank_at s i ≤ rank → rank < count s → i < length s
behind s i rank a h = go (dec_lt i (length s))
  where
    go : Dec (i < length s) → i < length s
    go (yes p) = p
    go (no p) = absurd (omega (arith, ap count (take_all i s (omega arith))))

-- the same of a view, by its length
module _ (start len : ℕ) (ws : List ℕ) (room : start + len ≤ length ws * 64) where
  pub view_few : count (view start len ws) ≤ len
  view_few = omega (arith, count_le_length (view start len ws), view_length start len ws room)

  pub view_behind : (i rank : ℕ) → rank_at (view start len ws) i ≤ rank → rank < count (view start len ws) → i < len
  view_behind i rank a h = omega (arith, behind (view start len ws) i rank a h, view_length start len ws room)

  -- the row of a rank is within
  pub view_row : (rank : ℕ) → rank < count (view start len ws) → select (view start len ws) rank < len
  view_row rank h = omega (arith, (selects (view start len ws) rank h).within, view_length start len ws room)

-- ---- the row of a rank

-- selected in the chunk's word as in the chunk
select_word : (w : ℕ) (s : List Bool) (r : ℕ) → length s ≤ w → r < count s → select (bits_of w (word_of s)) r ≡ select s r
select_word w s r h l =
    let e : w ≡ length s + (w - length s) = omega arith in
    ap (λ (t : List Bool). select t r) (bits_of_word_of_fit w s ∙ ap₂ fit e (sym (append-nil s)) ∙ fit_append s [] (w - length s)) ∙ select_in s (fit (w - length s) []) r l

module _ (s : List Bool) (place : Place) (rank : Rank) (h : Holds s place rank) where
  -- the rank in the chunk
  pub left_in : rank.0 - place.passed.0 < count (chunk_at s place.done.0)
  left_in = omega (arith, h.reached, h.held)

  pub place_in : place.done.0 < length s
  place_in = behind s place.done.0 rank.0 (omega (arith, h.walked, h.reached)) (omega (arith, h.walked, h.held, rank_next s place.done.0, count_part (place.done.0 + 64) s))

  pub row_of : select s rank.0 ≡ place.done.0 + select (bits_of 64 (word_of (chunk_at s place.done.0))) (rank.0 - place.passed.0)
  row_of =
      let i = place.done.0 in
      let a = take i s in
      let c = chunk_at s i in
      let k = rank.0 - place.passed.0 in
      let short : length c ≤ 64 = omega (arith, chunk_length s i) in
      ap (λ (t : List Bool). select t rank.0) (sym (take-append-drop i s))
      ∙ select_skip a (drop i s) rank.0 (omega (arith, h.walked, h.reached))
      ∙ ap₂ (λ (x y : ℕ). x + select (drop i s) y) (length-take-le i s (omega (arith, place_in))) (ap (λ (y : ℕ). rank.0 - y) (sym h.walked))
      ∙ ap (λ (x : ℕ). i + x)
      (ap (λ (t : List Bool). select t k) (sym (take-append-drop 64 (drop i s))) ∙ select_in c (drop 64 (drop i s)) k left_in ∙ sym (select_word 64 c k short left_in))

-- ---- a loop over ranks

pub ascending_in : (b c d e : ℕ) (rs : List ℕ) → b ≤ c → d ≤ e → Ascending c d rs → Ascending b e rs
ascending_in b c d e [] h l a = tt
ascending_in b c d e (r ∷ rs) h l a = (omega arith, omega arith, ascending_in (suc r) (suc r) d e rs (omega arith) l a.2)

module _ (s : List Bool) (at : ℕ) where
  -- the ranks rs are left: the walk is not past them, and with their rows marked too the words are `goal`
  pub record Left (place : Place) (rs out goal : List ℕ) : Type 0 where
    pub walked : Walked s place
    pub ahead : Ascending place.passed.0 (count s) rs
    pub marks : marked at (map (select s) rs) out ≡ goal

  pub left_turn : (place next : Place) (r : ℕ) (rs out then goal : List ℕ) → Left place (r ∷ rs) out goal
      → Walked s next → next.passed.0 ≤ r → then ≡ laid (at + select s r) (true ∷ []) out → Left next rs then goal
  left_turn place next r rs out then goal l w h e = record {
    walked = w;
    ahead = ascending_in next.passed.0 (suc r) (count s) (count s) rs (omega arith) (omega arith) l.ahead.2;
    marks = ap (marked at (map (select s) rs)) e ∙ l.marks;
  }

-- the rows of a composition by listed ranks
pub rows_at : (s : List Bool) (es : List ℕ) → Ascending 0 (count s) es → set_rows 0 (compose s (listed (count s) es)) ≡ map (select s) es
rows_at s es a = rows_compose_list s (listed (count s) es) (tab_length 0 (count s) (λ i. member i es)) ∙ ap (map (select s)) (rows_listed (count s) 0 (count s) es (zero-add (count s)) a)

-- ---- a chunk of the rank mask

-- its ranks are from its first on, and below the mask's length
pub chunk_ranks : (r : List Bool) (i b e : ℕ) → b ≤ i → i ≤ length r → length r ≤ e → Ascending b e (set_rows i (bits_of 64 (word_of (chunk_at r i))))
chunk_ranks r i b e h l m =
    let c = chunk_at r i in
    rw (rows_word i 64 c (omega (arith, chunk_length r i)))
    (ascending_in b i (i + length c) e (set_rows i c) h (omega (arith, chunk_length r i)) (rows_ascending i (i + length c) c refl))

-- one chunk more
chunk_marks : (at : ℕ) (f : ℕ → ℕ) (r : List Bool) (i : ℕ) (ws : List ℕ) → i ≤ length r
    → marked at (map f (set_rows i (bits_of 64 (word_of (chunk_at r i))))) (marked at (map f (set_rows 0 (take i r))) ws) ≡ marked at (map f (set_rows 0 (take (i + 64) r))) ws
chunk_marks at f r i ws h =
    let c = chunk_at r i in
    let done = take i r in
    ap (λ (l : List ℕ). marked at (map f l) (marked at (map f (set_rows 0 done)) ws)) (rows_word i 64 c (omega (arith, chunk_length r i)))
    ∙ sym (marked_append at (map f (set_rows 0 done)) (map f (set_rows i c)) ws)
    ∙ ap (λ (l : List ℕ). marked at l ws)
    (sym (ap (λ (l : List Bool). map f (set_rows 0 l)) (take-add i 64 r)
    ∙ ap (map f) (rows_append 0 done c ∙ ap (λ (k : ℕ). set_rows 0 done ++ set_rows k c) (zero-add (length done) ∙ length-take-le i r h))
    ∙ map-append f (set_rows 0 done) (set_rows i c)))

-- by a loop that has marked the set ranks before i, and a chunk's
pub marked_chunk : (at : ℕ) (f : ℕ → ℕ) (r : List Bool) (i x : ℕ) (ws out then : List ℕ) → i ≤ length r → out ≡ marked at (map f (set_rows 0 (take i r))) ws
    → x ≡ word_of (chunk_at r i) → then ≡ marked at (map f (set_rows i (bits_of 64 x))) out → then ≡ marked at (map f (set_rows 0 (take (i + 64) r))) ws
marked_chunk at f r i x ws out then h done is new =
    new
    ∙ ap₂ (λ (y : ℕ) (o : List ℕ). marked at (map f (set_rows i (bits_of 64 y))) o) is done
    ∙ chunk_marks at f r i ws h

pub marked_all : (at : ℕ) (f : ℕ → ℕ) (r : List Bool) (i : ℕ) (ws out : List ℕ) → length r ≤ i → out ≡ marked at (map f (set_rows 0 (take i r))) ws
    → out ≡ marked at (map f (set_rows 0 r)) ws
marked_all at f r i ws out h done = done ∙ ap (λ (t : List Bool). marked at (map f (set_rows 0 t)) ws) (take_all i r h)
