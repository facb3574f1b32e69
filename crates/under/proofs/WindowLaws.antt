-- A window over the rows that runs say: run by run, its set rows are those that each run has in it. And what a loop keeps that marks them, with a law
-- for no run, a law for one run more, and laws for the two ends. By three parts of the window: before a run, in it, and past it.
-- Assumes nothing.
use Prim.Native.Nat.{ℕ, zero, suc, ◌+◌, ◌-◌, ◌≤◌, ◌<◌}
use mathlib.Core.Path.{◌≡◌, refl, sym, ap, ap₂, ◌∙◌}
use mathlib.Core.Bool.{Bool, true, false}
use mathlib.Core.List.{List, [], ◌∷◌, ◌++◌}
use native.Mathlib.Omega.{arith}
use lib.ListN.{length, drop, get_or, replicate, length-append, length-replicate, drop_of_length-le}
use Rattle.rows.specs.Rows.{count}
use Rattle.rows.specs.Lists.{tab, set_rows}
use Rattle.rows.specs.Runs.{held, Apart}
use Rattle.rows.specs.Laid.{laid, marked}
use Rattle.rows.proofs.RowLaws.{count_le_length}
use Rattle.rows.proofs.ListLaws.{tab_length, rows_count}
use Rattle.rows.proofs.MarkLaws.{marked_append, marked_length}
use Rattle.rows.proofs.MarkRunLaws.{marked_run}
use Rattle.rows.proofs.PartLaws.{rows_append}
use Rattle.rows.proofs.RunLaws.{rows_from, held_below, held_first, held_past, tab_add, tab_all, apart_wider}
use Rattle.rows.proofs.RunTurnLaws.{NextRun, next_run}
use Rattle.books.specs.Windows.{window, into, Reached}

-- ---- the set rows of unset rows, and of what follows them

pub unset_rows : (b n : ℕ) → set_rows b (replicate n false) ≡ []
unset_rows b zero = refl
unset_rows b (suc n) = unset_rows (suc b) n

pub rows_past : (b n e : ℕ) (s : List Bool) → b + n ≡ e → set_rows b (replicate n false ++ s) ≡ set_rows e s
rows_past b n e s q =
    rows_append b (replicate n false) s
    ∙ ap₂ (λ (l : List ℕ) (k : ℕ). l ++ set_rows (b + k) s) (unset_rows b n) (length-replicate n false)
    ∙ ap (λ (k : ℕ). set_rows k s) q

-- ---- set rows marked are ones laid

ones_from : (b n : ℕ) → rows_from b n ≡ set_rows b (replicate n true)
ones_from b zero = refl
ones_from b (suc n) = ap (λ (l : List ℕ). b ∷ l) (ones_from (suc b) n)

pub ones_marked : (at b n : ℕ) (ws : List ℕ) → 0 < n → marked at (set_rows b (replicate n true)) ws ≡ laid (at + b) (replicate n true) ws
ones_marked at b n ws h = ap (λ (rs : List ℕ). marked at rs ws) (sym (ones_from b n)) ∙ marked_run at b n ws h

pub ones_many : (b n : ℕ) → length (set_rows b (replicate n true)) ≡ n
ones_many b zero = refl
ones_many b (suc n) = ap suc (ones_many (suc b) n)

-- ---- a window in three parts

tab_in : (b n : ℕ) (f g : ℕ → Bool) → ((i : ℕ) → b ≤ i → i < b + n → f i ≡ g i) → tab b n f ≡ tab b n g
tab_in b zero f g h = refl
tab_in b (suc n) f g h =
    ap₂ (λ (x : Bool) (l : List Bool). x ∷ l) (h b (omega arith) (omega arith)) (tab_in (suc b) n f g (λ i k m. h i (omega arith) (omega arith)))

-- none is set below the runs
pub window_below : (b n c e : ℕ) (ns : List ℕ) → b + n ≤ c → Apart c e ns → window b n ns ≡ replicate n false
window_below b n c e ns h a = tab_all b n (λ i. held i ns) false (λ i k m. held_below i c e ns (omega arith) a)

module _ (row b n c e f p : ℕ) (ns : List ℕ) (a : Apart c e (f ∷ p ∷ ns)) where
  abbrev x : ℕ
  x = into b n f

  abbrev y : ℕ
  y = into b n p

  abbrev after : List Bool
  after = tab (b + y) (n - y) (λ i. held i ns)

  abbrev has : ℕ → Bool
  has i = held i (f ∷ p ∷ ns)

  with_run : window b n (f ∷ p ∷ ns) ≡ replicate x false ++ (replicate (y - x) true ++ after)
  with_run =
      let all : n ≡ x + ((y - x) + (n - y)) = omega arith in
      let place : b + x + (y - x) ≡ b + y = omega arith in
      ap (λ (k : ℕ). tab b k has) all ∙ tab_add b x ((y - x) + (n - y)) has
      ∙ ap₂ (λ (l m : List Bool). l ++ m)
      (tab_all b x has false (λ i k m. held_below i f e (f ∷ p ∷ ns) (omega arith) (omega arith, a.1, a.2, a.3)))
      (tab_add (b + x) (y - x) (n - y) has
      ∙ ap₂ (λ (l m : List Bool). l ++ m)
      (tab_all (b + x) (y - x) has true (λ i k m. held_first i f p ns (omega arith) (omega arith)))
      (ap (λ (k : ℕ). tab k (n - y) has) place ∙ tab_in (b + y) (n - y) has (λ i. held i ns) (λ i k m. held_past i f p ns (omega arith))))

  without : window b n ns ≡ replicate y false ++ after
  without =
      let all : n ≡ y + (n - y) = omega arith in
      ap (λ (k : ℕ). tab b k (λ i. held i ns)) all ∙ tab_add b y (n - y) (λ i. held i ns)
      ∙ ap (λ (l : List Bool). l ++ after) (tab_all b y (λ i. held i ns) false (λ i k m. held_below i (suc p) e ns (omega arith) a.3))

  -- its set rows: the run's, and those of the other runs
  pub window_run : set_rows row (window b n (f ∷ p ∷ ns)) ≡ set_rows (row + x) (replicate (y - x) true) ++ set_rows row (window b n ns)
  window_run =
      let run = replicate (y - x) true in
      let end : row + x + length run ≡ row + y = omega (arith, length-replicate (y - x) true) in
      ap (set_rows row) with_run ∙ rows_past row x (row + x) (run ++ after) refl ∙ rows_append (row + x) run after
      ∙ ap (λ (l : List ℕ). set_rows (row + x) run ++ l)
      (ap (λ (k : ℕ). set_rows k after) end ∙ sym (rows_past row y (row + y) after refl) ∙ ap (set_rows row) (sym without))

-- ---- what a loop keeps that marks a window's rows, n from rank on, as rows from `row` on

module _ (ranks : List ℕ) (rank n row at : ℕ) where
  abbrev whole : List ℕ
  whole = set_rows row (window rank n ranks)

  -- those that are left
  abbrev rest : ℕ → List ℕ
  rest i = set_rows row (window rank n (drop i ranks))

  pub record Windowing (i sum : ℕ) (out₀ out : List ℕ) : Type 0 where
    pub from : ℕ
    pub ahead : Apart from 1048576 (drop i ranks)
    pub behind : (r : ℕ) → rank + n ≤ r → held r ranks ≡ held r (drop i ranks)
    pub counted : sum + length (rest i) ≡ length whole
    pub long : length out ≡ length out₀
    pub left : marked at (rest i) out ≡ marked at whole out₀

  pub windowing_none : (i : ℕ) (out : List ℕ) → Reached ranks i rank → Windowing i 0 out out
  windowing_none i out r =
      let all : rest i ≡ whole =
      ap (set_rows row) (sym (tab_in rank n (λ k. held k ranks) (λ k. held k (drop i ranks)) (λ k h m. r.behind k h))) in
      record {
        from = 0;
        ahead = r.ahead;
        behind = λ k h. r.behind k (omega arith);
        counted = omega (arith, ap length all);
        long = refl;
        left = ap (λ (rs : List ℕ). marked at rs out) all;
      }

  whole_count : length whole ≡ count (window rank n ranks)
  whole_count = rows_count row (window rank n ranks)

  module _ (i sum : ℕ) (out₀ out : List ℕ) (w : Windowing i sum out₀ out) where
    windowing_next : i < length ranks → NextRun w.from 1048576 i ranks
    windowing_next h = next_run w.from 1048576 i ranks h w.ahead

    reached : Reached ranks i (rank + n)
    reached = record { ahead = apart_wider 0 w.from 1048576 1048576 (drop i ranks) (omega arith) (omega arith) w.ahead; behind = w.behind }

    -- a run's part of the window, marked
    module _ (h : i < length ranks) (then : List ℕ) where
      abbrev first : ℕ
      first = get_or ranks i 0

      abbrev past : ℕ
      past = get_or ranks (i + 1) 0

      abbrev part : List ℕ
      part = set_rows (row + into rank n first) (replicate (into rank n past - into rank n first) true)

      split : rest i ≡ part ++ rest (i + 2)
      split =
          let r = windowing_next h in
          let others = drop (i + 2) ranks in
          let a : Apart w.from 1048576 (first ∷ past ∷ others) = rw r.is at w.ahead in
          ap (λ (ns : List ℕ). set_rows row (window rank n ns)) r.is ∙ window_run row rank n w.from 1048576 first past others a

      -- the run's are counted
      more : sum + (into rank n past - into rank n first) + length (rest (i + 2)) ≡ length whole
      more =
          let own = into rank n past - into rank n first in
          omega (arith, w.counted, ap length split, length-append part (rest (i + 2)), ones_many (row + into rank n first) own)

      pub windowing_few : sum + (into rank n past - into rank n first) ≤ n
      windowing_few =
          omega (arith, more, whole_count, count_le_length (window rank n ranks), tab_length rank n (λ k. held k ranks))

      left_then : then ≡ marked at part out → marked at (rest (i + 2)) then ≡ marked at whole out₀
      left_then t =
          ap (marked at (rest (i + 2))) t ∙ sym (marked_append at part (rest (i + 2)) out) ∙ ap (λ (rs : List ℕ). marked at rs out) (sym split) ∙ w.left

      -- the window goes on behind the run
      pub windowing_run : (set : ℕ) → set ≡ into rank n past - into rank n first → then ≡ marked at part out → past ≤ rank + n
          → Windowing (i + 2) (sum + set) out₀ then
      windowing_run set e t k =
          let r = windowing_next h in
          record {
            from = past;
            ahead = r.left;
            behind = λ m l. w.behind m l ∙ ap (held m) r.is ∙ held_past m first past (drop (i + 2) ranks) (omega arith);
            counted = omega (arith, more, e);
            long = ap length t ∙ marked_length at part out ∙ w.long;
            left = left_then t;
          }

      -- it ends in the run, or before it
      pub windowing_stop : (set : ℕ) → set ≡ into rank n past - into rank n first → then ≡ marked at part out → rank + n ≤ past
          → Reached ranks i (rank + n) × (sum + set ≡ count (window rank n ranks)) × (then ≡ marked at (set_rows row (window rank n ranks)) out₀)
      windowing_stop set e t k =
          let r = windowing_next h in
          let none : rest (i + 2) ≡ [] =
          ap (set_rows row) (window_below rank n past 1048576 (drop (i + 2) ranks) k r.left) ∙ unset_rows row n in
          (reached, omega (arith, more, e, ap length none, whole_count), ap (λ (rs : List ℕ). marked at rs then) (sym none) ∙ left_then t)

    -- no run is left
    pub windowing_end : length ranks ≤ i
        → Reached ranks i (rank + n) × (sum ≡ count (window rank n ranks)) × (out ≡ marked at (set_rows row (window rank n ranks)) out₀)
    windowing_end h =
        let none : rest i ≡ [] =
        ap (λ (ns : List ℕ). set_rows row (window rank n ns)) (drop_of_length-le ranks {i = i} h)
        ∙ ap (set_rows row) (window_below rank n (rank + n) 1048576 [] (omega arith) tt) ∙ unset_rows row n in
        (reached, omega (arith, w.counted, ap length none, whole_count), ap (λ (rs : List ℕ). marked at rs out) (sym none) ∙ w.left)
