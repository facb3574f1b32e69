-- What a loop keeps that marks runs of ranks under runs of self: the runs from pair k on are left. With a law for no run, a law for one run more,
-- and a law for all. By the composition where self begins with a run.
-- Assumes nothing.
use Prim.Native.Nat.{ℕ, ◌+◌, ◌-◌, ◌*◌, ◌/◌, ◌≤◌}
use mathlib.Core.Path.{◌≡◌, refl, sym, ap, ap₂, ◌∙◌}
use mathlib.Core.Bool.{Bool, true, false}
use mathlib.Core.List.{List, [], ◌++◌}
use native.Mathlib.Omega.{arith}
use lib.ListN.{length, drop, replicate, length-append}
use lib.Seq.{take_at, drop_at}
use Rattle.rows.specs.Rows.{count, compose}
use Rattle.rows.specs.Lists.{set_rows}
use Rattle.rows.specs.Runs.{held, in_runs, run_lengths, Apart}
use Rattle.rows.specs.Laid.{marked}
use Rattle.rows.proofs.RowLaws.{count_le_length, compose_length, compose_empty}
use Rattle.rows.proofs.ListLaws.{tab_length, rows_count}
use Rattle.rows.proofs.PartLaws.{rows_append}
use Rattle.rows.proofs.MarkLaws.{marked_append, marked_length}
use Rattle.rows.proofs.RunLaws.{run_rows, tab_add, in_runs_lem, rows_sum, runs_few, apart_wider}
use Rattle.rows.proofs.RunTurnLaws.{rows_none}
use Rattle.rows.proofs.PairLaws.{NextPair, rows_pair, lengths_pair, pairs_passed}
use Rattle.rows.proofs.ComposeRunLaws.{compose_unset, compose_set}
use Rattle.books.specs.Windows.{window, Reached}
use Rattle.under.proofs.WindowLaws.{unset_rows, rows_past}

-- ---- runs of ranks under runs of self

module _ (runs ranks : List ℕ) (len at : ℕ) where
  abbrev whole : List ℕ
  whole = set_rows 0 (compose (in_runs len runs) (in_runs (run_lengths runs) ranks))

  -- those that are left
  abbrev rest : ℕ → ℕ → ℕ → List ℕ
  rest done k rank =
      set_rows done (compose (run_rows done len (drop (k * 2) runs)) (window rank (run_lengths (drop (k * 2) runs)) ranks))

  pub record Composing (k rank next sum : ℕ) (out₀ out : List ℕ) : Type 0 where
    pub done : ℕ
    pub ahead : Apart done len (drop (k * 2) runs)
    pub passed : rank + run_lengths (drop (k * 2) runs) ≡ run_lengths runs
    pub reached : Reached ranks next rank
    pub counted : sum + length (rest done k rank) ≡ length whole
    pub long : length out ≡ length out₀
    pub left : marked at (rest done k rank) out ≡ marked at whole out₀

  -- self has no more set rows than rows
  ranks_few : Apart 0 len runs → run_lengths runs ≤ len
  ranks_few a = omega (arith, runs_few 0 len runs a (omega arith))

  pub ranks_apart : Apart 0 len runs → Apart 0 (run_lengths runs) ranks → len ≤ 1048576 → Apart 0 1048576 ranks
  ranks_apart a b h = apart_wider 0 0 (run_lengths runs) 1048576 ranks (omega arith) (omega (arith, ranks_few a)) b

  pub composing_none : (out : List ℕ) → Apart 0 len runs → Apart 0 (run_lengths runs) ranks → len ≤ 1048576 → Composing 0 0 0 0 out out
  composing_none out a b h =
      let all : rest 0 0 0 ≡ whole = ap (λ (s : List Bool). set_rows 0 (compose s (in_runs (run_lengths runs) ranks))) (sym (in_runs_lem len runs a)) in
      record {
        done = 0;
        ahead = a;
        passed = omega arith;
        reached = record { ahead = ranks_apart a b h; behind = λ r k. refl };
        counted = omega (arith, ap length all);
        long = refl;
        left = ap (λ (rs : List ℕ). marked at rs out) all;
      }

  whole_count : length whole ≡ count (compose (in_runs len runs) (in_runs (run_lengths runs) ranks))
  whole_count = rows_count 0 (compose (in_runs len runs) (in_runs (run_lengths runs) ranks))

  -- no more than the rows
  whole_few : length whole ≤ len
  whole_few =
      let laid-rows = compose (in_runs len runs) (in_runs (run_lengths runs) ranks) in
      omega
      (arith, whole_count, count_le_length laid-rows, compose_length (in_runs len runs) (in_runs (run_lengths runs) ranks), tab_length 0 len (λ i. held i runs))

  module _ (k rank next sum : ℕ) (out₀ out : List ℕ) (c : Composing k rank next sum out₀ out) where
    module _ (first past : ℕ) (r : NextPair c.done len k runs first past) where
      abbrev under : List Bool
      under = window rank (past - first) ranks

      -- its ranks are self's
      pub composing_few : Apart 0 len runs → rank + (past - first) ≤ len
      composing_few a = omega (arith, c.passed, lengths_pair c.done len k first past runs r, ranks_few a)

      split : rest c.done k rank ≡ set_rows first under ++ rest past (k + 1) (rank + (past - first))
      split =
          let done = c.done in
          let n : ℕ = past - first in
          let left = run_rows past len (drop ((k + 1) * 2) runs) in
          let more = window (rank + n) (run_lengths (drop ((k + 1) * 2) runs)) ranks in
          let long : length under ≡ n = tab_length rank n (λ j. held j ranks) in
          let place : done + (first - done) ≡ first = omega (arith, r.from) in
          let end : first + length under ≡ past = omega (arith, long, r.some) in
          ap₂ (λ (s : List Bool) (m : ℕ). set_rows done (compose s (window rank m ranks))) (rows_pair done len k first past runs r)
          (lengths_pair done len k first past runs r)
          ∙ ap (λ (l : List Bool). set_rows done (compose (replicate (first - done) false ++ (replicate n true ++ left)) l))
          (tab_add rank n (run_lengths (drop ((k + 1) * 2) runs)) (λ j. held j ranks))
          ∙ ap (set_rows done) (compose_unset (first - done) (replicate n true ++ left) (under ++ more))
          ∙ rows_past done (first - done) first (compose (replicate n true ++ left) (under ++ more)) place
          ∙ ap (set_rows first)
          (compose_set n left (under ++ more) (omega (arith, length-append under more, long))
          ∙ ap₂ (λ (l m : List Bool). l ++ compose left m) (take_at under more n long) (drop_at under more n long))
          ∙ rows_append first under (compose left more)
          ∙ ap (λ (m : ℕ). set_rows first under ++ set_rows m (compose left more)) end

      -- those under the run are counted
      more : sum + count under + length (rest past (k + 1) (rank + (past - first))) ≡ length whole
      more =
          let left = rest past (k + 1) (rank + (past - first)) in
          omega (arith, c.counted, ap length split, length-append (set_rows first under) left, rows_count first under)

      pub composing_sum : sum + count (window rank (past - first) ranks) ≤ len
      composing_sum = omega (arith, more, whole_few)

      pub composing_run : (then : List ℕ) (then_next set : ℕ) → Reached ranks then_next (rank + (past - first)) → set ≡ count under
          → then ≡ marked at (set_rows first under) out → Composing (k + 1) (rank + (past - first)) then_next (sum + set) out₀ then
      composing_run then then_next set reached e t =
          let left = rest past (k + 1) (rank + (past - first)) in
          record {
            done = past;
            ahead = r.left;
            passed = omega (arith, c.passed, lengths_pair c.done len k first past runs r);
            reached = reached;
            counted = omega (arith, more, e);
            long = ap length t ∙ marked_length at (set_rows first under) out ∙ c.long;
            left =
                ap (marked at left) t ∙ sym (marked_append at (set_rows first under) left out) ∙ ap (λ (rs : List ℕ). marked at rs out) (sym split) ∙ c.left;
          }

    pub composing_all : length runs / 2 ≤ k → (sum ≡ count (compose (in_runs len runs) (in_runs (run_lengths runs) ranks)))
        × (out ≡ marked at (set_rows 0 (compose (in_runs len runs) (in_runs (run_lengths runs) ranks))) out₀)
    composing_all h = (omega (arith, c.counted, ap length none, whole_count), ap (λ (rs : List ℕ). marked at rs out) (sym none) ∙ c.left)
      where
        none : rest c.done k rank ≡ []
        none =
            let done = c.done in
            let unset = replicate (len - done) false in
            let r = window rank (run_lengths (drop (k * 2) runs)) ranks in
            ap (λ (s : List Bool). set_rows done (compose s r)) (rows_none done len (k * 2) runs (pairs_passed done len k runs c.ahead h))
            ∙ ap (set_rows done) (compose_empty unset r (rows_sum done len [])) ∙ unset_rows done (length unset)
