-- What a loop keeps that lays runs: the rows before `done` are laid, and the runs from number i on are left, none before `done`. With a law for no
-- run, a law for one run more, and a law for the rows past the last.
-- Assumes nothing.
use Prim.Native.Nat.{ℕ, ◌+◌, ◌-◌, ◌^◌, ◌≤◌, ◌<◌}
use mathlib.Core.Path.{◌≡◌, sym, ◌∙◌}
use mathlib.Core.Bool.{Bool, true, false}
use mathlib.Core.List.{List, ◌++◌, append_assoc}
use native.Mathlib.Omega.{arith}
use lib.ListN.{length, drop, get_or, replicate, length-append, length-replicate}
use Rattle.rows.specs.Words.{Below}
use Rattle.rows.specs.Runs.{in_runs, Apart}
use Rattle.rows.specs.Laid.{laid}
use Rattle.rows.proofs.RunLaws.{run_rows, in_runs_lem}
use Rattle.rows.proofs.RunTurnLaws.{NextRun, next_run, rows_next, rows_none}
use Rattle.rows.proofs.ProgressLaws.{Progress, progress_none, progress_as, progress_part, progress_last}

-- what one turn lays: zeros from row b to the run, and the run
abbrev pub turn_rows : ℕ → ℕ → ℕ → List Bool
turn_rows b first past = replicate (first - b) false ++ replicate (past - first) true

turn_length : (b first past : ℕ) → b ≤ first → first ≤ past → past ≡ b + length (turn_rows b first past)
turn_length b first past h k =
    let unset : ℕ = first - b in
    let set : ℕ = past - first in
    omega (arith, length-append (replicate unset false) (replicate set true), length-replicate unset false, length-replicate set true)

module _ (runs : List ℕ) (len at : ℕ) where
  abbrev whole : List Bool
  whole = in_runs len runs

  pub record Laying (done i : ℕ) (out₀ out : List ℕ) : Type 0 where
    pub within : done ≤ len
    pub ahead : Apart done len (drop i runs)
    pub progress : Progress whole at done (run_rows done len (drop i runs)) out₀ out

  pub laying_none : (out : List ℕ) → Apart 0 len runs → Below (2 ^ 64) out → Laying 0 0 out out
  laying_none out a small = record {
    within = omega arith;
    ahead = a;
    progress = progress_as whole whole (run_rows 0 len runs) at 0 out out (in_runs_lem len runs a) (progress_none whole at out small);
  }

  module _ (done i : ℕ) (out₀ out : List ℕ) (l : Laying done i out₀ out) where
    pub laying_next : i < length runs → NextRun done len i runs
    laying_next h = next_run done len i runs h l.ahead

    pub laying_run : (then : List ℕ) → i < length runs → then ≡ laid (at + done) (turn_rows done (get_or runs i 0) (get_or runs (i + 1) 0)) out
        → Laying (get_or runs (i + 1) 0) (i + 2) out₀ then
    laying_run then h t =
        let r = laying_next h in
        let first = get_or runs i 0 in
        let past = get_or runs (i + 1) 0 in
        let rest = run_rows past len (drop (i + 2) runs) in
        let split : run_rows done len (drop i runs) ≡ turn_rows done first past ++ rest =
        rows_next done len i runs r ∙ sym (append_assoc (replicate (first - done) false) (replicate (past - first) true) rest) in
        record {
          within = r.within;
          ahead = r.left;
          progress =
              progress_part whole (turn_rows done first past) rest at done past out₀ out then
              (turn_length done first past r.from (omega (arith, r.some))) t
              (progress_as whole (run_rows done len (drop i runs)) (turn_rows done first past ++ rest) at done out₀ out split l.progress);
        }

    pub laying_last : (then : List ℕ) → length runs ≤ i → then ≡ laid (at + done) (replicate (len - done) false) out → then ≡ laid at (in_runs len runs) out₀
    laying_last then h t =
        progress_last whole (replicate (len - done) false) at done out₀ out then t
        (progress_as whole (run_rows done len (drop i runs)) (replicate (len - done) false) at done out₀ out (rows_none done len i runs h) l.progress)
