-- What a loop keeps that sets runs in a part that was cleared: the runs from number i on are left, and with their rows marked too all are. With a law
-- for one run more, and a law for all. By the law of a run's rows marked.
-- Assumes nothing.
use Prim.Native.Nat.{ℕ, ◌+◌, ◌-◌, ◌≤◌, ◌<◌}
use mathlib.Core.Path.{◌≡◌, sym, ap, ◌∙◌}
use mathlib.Core.Bool.{true, false}
use mathlib.Core.List.{List}
use native.Mathlib.Omega.{arith}
use lib.ListN.{length, drop, get_or, replicate, drop_of_length-le}
use Rattle.rows.specs.Runs.{in_runs, Apart}
use Rattle.rows.specs.Laid.{laid, marked}
use Rattle.rows.proofs.LaidLaws.{laid_length}
use Rattle.rows.proofs.MarkLaws.{marked_append}
use Rattle.rows.proofs.RunLaws.{rows_from}
use Rattle.rows.proofs.RunTurnLaws.{NextRun, next_run}
use Rattle.rows.proofs.MarkRunLaws.{rows_in, marked_run, marked_runs}

module _ (runs : List ℕ) (len at : ℕ) where
  pub record Setting (i : ℕ) (out₀ out : List ℕ) : Type 0 where
    pub from : ℕ
    pub ahead : Apart from len (drop i runs)
    pub long : length out ≡ length out₀
    pub left : marked at (rows_in (drop i runs)) out ≡ marked at (rows_in runs) out₀

  module _ (i : ℕ) (out₀ out : List ℕ) (s : Setting i out₀ out) where
    pub setting_next : i < length runs → NextRun s.from len i runs
    setting_next h = next_run s.from len i runs h s.ahead

    pub setting_run : (then : List ℕ) → i < length runs → then ≡ laid (at + get_or runs i 0) (replicate (get_or runs (i + 1) 0 - get_or runs i 0) true) out
        → Setting (i + 2) out₀ then
    setting_run then h t =
        let r = setting_next h in
        let first = get_or runs i 0 in
        let past = get_or runs (i + 1) 0 in
        let rest = rows_in (drop (i + 2) runs) in
        let run = rows_from first (past - first) in
        let done : then ≡ marked at run out = t ∙ sym (marked_run at first (past - first) out (omega (arith, r.some))) in
        record {
          from = past;
          ahead = r.left;
          long = ap length t ∙ laid_length 64 (at + first) (replicate (past - first) true) out ∙ s.long;
          left =
              ap (marked at rest) done ∙ sym (marked_append at run rest out)
              ∙ ap (λ (ns : List ℕ). marked at (rows_in ns) out) (sym r.is) ∙ s.left;
        }

    pub setting_all : (out' : List ℕ) → length runs ≤ i → Apart 0 len runs → out₀ ≡ laid at (replicate len false) out' → out ≡ laid at (in_runs len runs) out'
    setting_all out' h a z =
        let none : marked at (rows_in (drop i runs)) out ≡ out = ap (λ (ns : List ℕ). marked at (rows_in ns) out) (drop_of_length-le runs {i = i} h) in
        sym none ∙ s.left ∙ ap (marked at (rows_in runs)) z ∙ marked_runs at len runs out' a
