-- A run of ranks on a list is a part of the list; and what a loop over such runs keeps. With a law for no run, a law for one run more, and a law for
-- none left. By the set rows of runs, and the law that the rows of a composition are the entries at the set ranks.
-- Assumes nothing.
use Prim.Native.Nat.{ℕ, zero, suc, ◌+◌, ◌-◌, ◌*◌, ◌/◌, ◌≤◌, ◌<◌}
use native.Mathlib.Numerals.{add-one}
use mathlib.Core.Path.{◌≡◌, refl, sym, ap, ap₂, ◌∙◌}
use mathlib.Core.Bool.{Bool, true}
use mathlib.Core.List.{List, [], ◌∷◌, ◌++◌, map, map-append}
use native.Mathlib.Omega.{arith}
use lib.ListN.{length, take, drop, get_or, drop_of_length-le}
use lib.Seq.{drop-cons, take_all}
use Rattle.rows.specs.Rows.{count, compose}
use Rattle.rows.specs.Lists.{listed, Ascending, set_rows}
use Rattle.rows.specs.Runs.{held, in_runs, run_lengths, Apart}
use Rattle.rows.specs.Laid.{laid, marked}
use Rattle.rows.proofs.RowLaws.{compose_count}
use Rattle.rows.proofs.ListLaws.{tab_length, listed_count}
use Rattle.rows.proofs.MarkLaws.{marked_append}
use Rattle.rows.proofs.RunLaws.{run_rows, in_runs_lem, runs_count, runs_few, rows_from, runs_set_rows, no_runs_set_rows}
use Rattle.rows.proofs.RunTurnLaws.{lengths_none}
use Rattle.rows.proofs.PairLaws.{NextPair, lengths_pair, pairs_passed}
use Rattle.marks.proofs.ListLaws.{rows_at_set}

-- ---- a part of a list

-- one entry of it marked, and the others
pub span_next : (at i past : ℕ) (rows out : List ℕ) → i < past → i < length rows
    → marked at (take (past - i) (drop i rows)) out ≡ marked at (take (past - (i + 1)) (drop (i + 1) rows)) (laid (at + get_or rows i 0) (true ∷ []) out)
span_next at i past rows out h k =
    let more : past - i ≡ suc (past - (i + 1)) = omega arith in
    ap₂ (λ (n : ℕ) (l : List ℕ). marked at (take n l) out) more (drop-cons rows i 0 k ∙ ap (λ (j : ℕ). get_or rows i 0 ∷ drop j rows) (sym (add-one i)))

-- its entries by their ranks
part_at : (rows : List ℕ) (f n : ℕ) → f + n ≤ length rows → map (λ k. get_or rows k 0) (rows_from f n) ≡ take n (drop f rows)
part_at rows f zero h = refl
part_at rows f (suc n) h =
    ap (λ (l : List ℕ). get_or rows f 0 ∷ l) (part_at rows (suc f) n (omega arith)) ∙ sym (ap (take (suc n)) (drop-cons rows f 0 (omega arith)))

-- ---- a loop over runs

module _ (rows ranks : List ℕ) (at : ℕ) where
  -- the entries at the ranks that are left, from a rank on
  abbrev left : ℕ → ℕ → List ℕ
  left rank i = map (λ k. get_or rows k 0) (set_rows rank (run_rows rank (length rows) (drop (i * 2) ranks)))

  pub record Spanning (i sum : ℕ) (out goal : List ℕ) : Type 0 where
    pub rank : ℕ
    pub ahead : Apart rank (length rows) (drop (i * 2) ranks)
    pub counted : sum + run_lengths (drop (i * 2) ranks) ≡ run_lengths ranks
    pub marks : marked at (left rank i) out ≡ goal

  pub spanning_none : (len : ℕ) (out : List ℕ) → Ascending 0 len rows → Apart 0 (length rows) ranks
      → Spanning 0 0 out (marked at (set_rows 0 (compose (listed len rows) (in_runs (length rows) ranks))) out)
  spanning_none len out up a =
      let r = in_runs (length rows) ranks in
      let all : take (length rows) r ≡ r = take_all (length rows) r (omega (arith, tab_length 0 (length rows) (λ i. held i ranks))) in
      record {
        rank = 0;
        ahead = a;
        counted = omega arith;
        marks =
            ap (λ (l : List ℕ). marked at l out)
            (sym (rows_at_set len rows r up ∙ ap (λ (s : List Bool). map (λ k. get_or rows k 0) (set_rows 0 s)) (all ∙ in_runs_lem (length rows) ranks a)));
      }

  module _ (i sum : ℕ) (out goal : List ℕ) (k : Spanning i sum out goal) where
    module _ (first past : ℕ) (r : NextPair k.rank (length rows) i ranks first past) where
      pub spanning_few : Apart 0 (length rows) ranks → sum + (past - first) ≤ length rows
      spanning_few a =
          omega (arith, k.counted, lengths_pair k.rank (length rows) i first past ranks r, runs_few 0 (length rows) ranks a (omega arith))

      split : left k.rank i ≡ take (past - first) (drop first rows) ++ left past (i + 1)
      split =
          let entry : ℕ → ℕ = λ j. get_or rows j 0 in
          let n : ℕ = length rows in
          let others = set_rows past (run_rows past n (drop ((i + 1) * 2) ranks)) in
          ap (map entry) (ap (λ (l : List ℕ). set_rows k.rank (run_rows k.rank n l)) r.is
          ∙ runs_set_rows k.rank n first past (drop ((i + 1) * 2) ranks) r.from r.some)
          ∙ map-append entry (rows_from first (past - first)) others
          ∙ ap (λ (l : List ℕ). l ++ map entry others) (part_at rows first (past - first) (omega (arith, r.some, r.within)))

      pub spanning_run : (then : List ℕ) → then ≡ marked at (take (past - first) (drop first rows)) out
          → Spanning (i + 1) (sum + (past - first)) then goal
      spanning_run then t = record {
        rank = past;
        ahead = r.left;
        counted = omega (arith, k.counted, lengths_pair k.rank (length rows) i first past ranks r);
        marks =
            ap (marked at (left past (i + 1))) t ∙ sym (marked_append at (take (past - first) (drop first rows)) (left past (i + 1)) out)
            ∙ sym (ap (λ (l : List ℕ). marked at l out) split) ∙ k.marks;
      }

    none_left : length ranks / 2 ≤ i → length ranks ≤ i * 2
    none_left h = pairs_passed k.rank (length rows) i ranks k.ahead h

    pub spanning_all : length ranks / 2 ≤ i → out ≡ goal
    spanning_all h =
        let none : left k.rank i ≡ [] =
        ap (λ (l : List ℕ). map (λ j. get_or rows j 0) (set_rows k.rank (run_rows k.rank (length rows) l))) (drop_of_length-le ranks {i = i * 2} (none_left h))
        ∙ ap (map (λ j. get_or rows j 0)) (no_runs_set_rows k.rank (length rows)) in
        sym (ap (λ (l : List ℕ). marked at l out) none) ∙ k.marks

    pub spanning_count : (len : ℕ) → length ranks / 2 ≤ i → Ascending 0 len rows → Apart 0 (length rows) ranks
        → sum ≡ count (compose (listed len rows) (in_runs (length rows) ranks))
    spanning_count len h up a =
        let c : count (compose (listed len rows) (in_runs (length rows) ranks)) ≡ run_lengths ranks =
        compose_count (listed len rows) (in_runs (length rows) ranks) (tab_length 0 (length rows) (λ i. held i ranks) ∙ sym (listed_count len rows up))
        ∙ runs_count (length rows) ranks a in
        omega (arith, k.counted, lengths_none (i * 2) ranks (none_left h), c)
