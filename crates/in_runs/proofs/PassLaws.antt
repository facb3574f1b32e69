-- Where a loop over runs has come to: a row from which on the rows are those of the runs that are left. With a law for none passed, a law for one run
-- more, and what the rows are before that run, in it, and where no run is left. By the rows that runs say, run by run.
-- Assumes nothing.
use Prim.Native.Nat.{ℕ, ◌+◌, ◌-◌, ◌*◌, ◌/◌, ◌≤◌}
use mathlib.Core.Path.{◌≡◌, sym, ap, ap₂, ◌∙◌}
use mathlib.Core.Bool.{Bool, true, false}
use mathlib.Core.List.{List, ◌++◌}
use native.Mathlib.Omega.{arith}
use lib.ListN.{length, take, drop, replicate, length-replicate}
use lib.Seq.{take-add, take_at, drop_at, drop-drop}
use Rattle.rows.specs.Runs.{in_runs, Apart}
use Rattle.rows.proofs.RunLaws.{run_rows, in_runs_lem}
use Rattle.rows.proofs.RunTurnLaws.{rows_none}
use Rattle.rows.proofs.PairLaws.{NextPair, rows_pair, pairs_passed}

-- the rows up to a run's last are those before it and its own
pub take_both : (row first past : ℕ) (l : List Bool) → row ≤ first → first ≤ past
    → take (past - row) (drop row l) ≡ take (first - row) (drop row l) ++ take (past - first) (drop first l)
take_both row first past l h k =
    let parts : past - row ≡ (first - row) + (past - first) = omega arith in
    let place : row + (first - row) ≡ first = omega arith in
    ap (λ (n : ℕ). take n (drop row l)) parts ∙ take-add (first - row) (past - first) (drop row l)
    ∙ ap (λ (m : List Bool). take (first - row) (drop row l) ++ take (past - first) m) (drop-drop (first - row) row l ∙ ap (λ (x : ℕ). drop x l) place)

module _ (len : ℕ) (runs : List ℕ) where
  abbrev rows : List Bool
  rows = in_runs len runs

  pub record Passed (row i : ℕ) : Type 0 where
    pub within : row ≤ len
    pub ahead : Apart row len (drop (i * 2) runs)
    pub rest : drop row rows ≡ run_rows row len (drop (i * 2) runs)

  pub passed_none : Apart 0 len runs → Passed 0 0
  passed_none a = record { within = omega arith; ahead = a; rest = in_runs_lem len runs a }

  module _ (row i : ℕ) (p : Passed row i) where
    -- no run is left
    pub passed_end : length runs / 2 ≤ i → drop row (in_runs len runs) ≡ replicate (len - row) false
    passed_end h = p.rest ∙ rows_none row len (i * 2) runs (pairs_passed row len i runs p.ahead h)

    module _ (first past : ℕ) (r : NextPair row len i runs first past) where
      abbrev gap : List Bool
      gap = replicate (first - row) false

      abbrev run : List Bool
      run = replicate (past - first) true

      abbrev left : List Bool
      left = run_rows past len (drop ((i + 1) * 2) runs)

      from_row : drop row rows ≡ gap ++ (run ++ left)
      from_row = p.rest ∙ rows_pair row len i first past runs r

      from_first : drop first rows ≡ run ++ left
      from_first =
          let place : row + (first - row) ≡ first = omega (arith, r.from) in
          ap (λ (k : ℕ). drop k rows) (sym place) ∙ sym (drop-drop (first - row) row rows) ∙ ap (drop (first - row)) from_row
          ∙ drop_at gap (run ++ left) (first - row) (length-replicate (first - row) false)

      from_past : drop past rows ≡ left
      from_past =
          let place : first + (past - first) ≡ past = omega (arith, r.some) in
          ap (λ (k : ℕ). drop k rows) (sym place) ∙ sym (drop-drop (past - first) first rows) ∙ ap (drop (past - first)) from_first
          ∙ drop_at run left (past - first) (length-replicate (past - first) true)

      -- the rows before the run, and the run's
      pub passed_gap : take (first - row) (drop row (in_runs len runs)) ≡ replicate (first - row) false
      passed_gap = ap (take (first - row)) from_row ∙ take_at gap (run ++ left) (first - row) (length-replicate (first - row) false)

      pub passed_held : take (past - first) (drop first (in_runs len runs)) ≡ replicate (past - first) true
      passed_held = ap (take (past - first)) from_first ∙ take_at run left (past - first) (length-replicate (past - first) true)

      -- both
      pub passed_both : take (past - row) (drop row (in_runs len runs)) ≡ replicate (first - row) false ++ replicate (past - first) true
      passed_both =
          take_both row first past rows r.from (omega (arith, r.some)) ∙ ap₂ (λ (l m : List Bool). l ++ m) passed_gap passed_held

      pub passed_run : Passed past (i + 1)
      passed_run =
          record { within = r.within; ahead = r.left; rest = from_past }
