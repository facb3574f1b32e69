-- The rows that runs have in a window, counted: what a loop keeps that sums run by run, with a law for no run, a law for one run more, and laws for the
-- two ends. By the set rows of a window, run by run.
-- Assumes nothing.
use Prim.Native.Nat.{ℕ, ◌+◌, ◌-◌, ◌≤◌, ◌<◌}
use mathlib.Core.Path.{◌≡◌, sym, ap, ◌∙◌, subst}
use mathlib.Core.Bool.{true, false}
use mathlib.Core.List.{List, [], ◌∷◌}
use native.Mathlib.Omega.{arith}
use lib.ListN.{length, drop, get_or, replicate, length-append, drop_of_length-le}
use Rattle.rows.specs.Rows.{count}
use Rattle.rows.specs.Lists.{set_rows}
use Rattle.rows.specs.Runs.{held, Apart}
use Rattle.rows.proofs.RowLaws.{count_le_length}
use Rattle.rows.proofs.ListLaws.{tab_length, rows_count}
use Rattle.rows.proofs.RunLaws.{held_past, apart_wider}
use Rattle.rows.proofs.RunTurnLaws.{NextRun, next_run}
use Rattle.books.specs.Windows.{window, into, Reached}
use Rattle.books.proofs.GatherLaws.{tab_same}
use Rattle.under.proofs.WindowLaws.{window_below, window_run, ones_many, unset_rows}

-- a run's rows in a window, and those of the other runs
run_count : (b n c e f p : ℕ) (ns : List ℕ) → Apart c e (f ∷ p ∷ ns) → count (window b n (f ∷ p ∷ ns)) ≡ (into b n p - into b n f) + count (window b n ns)
run_count b n c e f p ns a =
    let x : ℕ = into b n f in
    let own : ℕ = into b n p - x in
    let rest = set_rows 0 (window b n ns) in
    omega (
      arith,
      rows_count 0 (window b n (f ∷ p ∷ ns)),
      ap length (window_run 0 b n c e f p ns a),
      length-append (set_rows (0 + x) (replicate own true)) rest,
      ones_many (0 + x) own,
      rows_count 0 (window b n ns),
    )

unset_count : (n : ℕ) → count (replicate n false) ≡ 0
unset_count n = sym (rows_count 0 (replicate n false)) ∙ ap length (unset_rows 0 n)

module _ (runs : List ℕ) (row n : ℕ) where
  pub record Summing (i set : ℕ) : Type 0 where
    pub from : ℕ
    pub ahead : Apart from 1048576 (drop i runs)
    pub behind : (r : ℕ) → row + n ≤ r → held r runs ≡ held r (drop i runs)
    pub counted : set + count (window row n (drop i runs)) ≡ count (window row n runs)

  pub summing_none : (i : ℕ) → Reached runs i row → Summing i 0
  summing_none i r = record {
    from = 0;
    ahead = r.ahead;
    behind = λ k h. r.behind k (omega arith);
    counted = omega (arith, ap count (tab_same row n (λ k. held k (drop i runs)) (λ k. held k runs) (λ k h l. sym (r.behind k h))));
  }

  module _ (i set : ℕ) (s : Summing i set) where
    reached : Reached runs i (row + n)
    reached = record { ahead = apart_wider 0 s.from 1048576 1048576 (drop i runs) (omega arith) (omega arith) s.ahead; behind = s.behind }

    module _ (h : i < length runs) where
      pub summing_next : NextRun s.from 1048576 i runs
      summing_next = next_run s.from 1048576 i runs h s.ahead

      abbrev first : ℕ
      first = get_or runs i 0

      abbrev past : ℕ
      past = get_or runs (i + 1) 0

      abbrev some : ℕ
      some = into row n past - into row n first

      more : set + some + count (window row n (drop (i + 2) runs)) ≡ count (window row n runs)
      more =
          let r = summing_next in
          let others = drop (i + 2) runs in
          let a : Apart s.from 1048576 (first ∷ past ∷ others) = rw r.is at s.ahead in
          omega (arith, s.counted, ap (λ (ns : List ℕ). count (window row n ns)) r.is, run_count row n s.from 1048576 first past others a)

      pub summing_few : set + (into row n past - into row n first) ≤ n
      summing_few = omega (arith, more, count_le_length (window row n runs), tab_length row n (λ k. held k runs))

      module _ (begin stop : ℕ) (b : begin ≡ into row n first) (e : stop ≡ into row n past) where
        -- the window goes on behind the run
        pub summing_run : past ≤ row + n → Summing (i + 2) (set + (stop - begin))
        summing_run k = record {
          from = past;
          ahead = summing_next.left;
          behind = λ r l. s.behind r l ∙ ap (held r) summing_next.is ∙ held_past r first past (drop (i + 2) runs) (omega arith);
          counted = omega (arith, more);
        }

        -- it ends in the run, or before it
        pub summing_stop : row + n ≤ past → (set + (stop - begin) ≡ count (window row n runs)) × Reached runs i (row + n)
        summing_stop k =
            let none = ap count (window_below row n past 1048576 (drop (i + 2) runs) k summing_next.left) in
            (omega (arith, more, none, unset_count n), reached)

    -- no run is left
    pub summing_end : length runs ≤ i → (set ≡ count (window row n runs)) × Reached runs (length runs) (row + n)
    summing_end h =
        let none = ap (λ (ns : List ℕ). count (window row n ns)) (drop_of_length-le runs {i = i} h) in
        let same : drop i runs ≡ drop (length runs) runs =
        drop_of_length-le runs {i = i} h ∙ sym (drop_of_length-le runs {i = length runs} (omega arith)) in (
          omega (arith, s.counted, none, ap count (window_below row n (row + n) 1048576 [] (omega arith) tt), unset_count n),
          record { ahead = subst (Apart 0 1048576) same reached.ahead; behind = λ r k. reached.behind r k ∙ ap (held r) same },
        )
