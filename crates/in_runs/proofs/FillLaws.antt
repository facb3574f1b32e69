-- What a loop keeps that lays the ranks of a gap clear and those of a run set: with a law for none, a law for one run more, and a law for the end, where
-- the second mask is runs that all lie in self. By both masks cut at the same rows, of which a gap's are not kept and a run's all are.
-- Assumes nothing.
use Prim.Native.Nat.{ℕ, zero, suc, ◌+◌, ◌-◌, ◌/◌, ◌^◌, ◌≤◌}
use native.Mathlib.Nat.{suc_inj}
use mathlib.Core.Path.{◌≡◌, refl, sym, ap, ap₂, ◌∙◌}
use mathlib.Core.Bool.{Bool, true, false}
use mathlib.Core.List.{List, [], ◌∷◌, ◌++◌}
use native.Mathlib.Omega.{arith}
use lib.ListN.{length, take, drop, replicate, length-take, length-drop, length-replicate, take-append-drop}
use Rattle.rows.specs.Rows.{count, recover, outside}
use Rattle.rows.specs.Words.{Below}
use Rattle.rows.specs.Runs.{held, in_runs, Apart}
use Rattle.rows.specs.Laid.{laid}
use Rattle.rows.proofs.RowLaws.{count_append}
use Rattle.rows.proofs.ListLaws.{tab_length}
use Rattle.rows.proofs.PairLaws.{NextPair}
use Rattle.rows.proofs.RecoverLaws.{recover_append, recover_none, recover_all, inside_append}
use Rattle.rows.proofs.ProgressLaws.{progress_as, progress_last}
use Rattle.in_runs.proofs.RecoveringLaws.{Recovering, recovering_none, recovering_chunk, recovering_room}
use Rattle.in_runs.proofs.PassLaws.{take_both, Passed, passed_none, passed_end, passed_gap, passed_held, passed_run}

-- the rows kept that are not in s, before a row and from it on
inside_cut : (m : ℕ) (s k : List Bool) → length k ≡ length s
    → count (outside s k) ≡ count (outside (take m s) (take m k)) + count (outside (drop m s) (drop m k))
inside_cut m s k e =
    ap₂ (λ (x y : List Bool). count (outside x y)) (sym (take-append-drop m s)) (sym (take-append-drop m k))
    ∙ inside_append (take m s) (drop m s) (take m k) (drop m k) (omega (arith, length-take m s, length-take m k))

-- where every row kept lies in s, so do those of a part
inside_part : (s k : List Bool) (row n : ℕ) → length k ≡ length s → count (outside s k) ≡ 0
    → count (outside (take n (drop row s)) (take n (drop row k))) ≡ 0
inside_part s k row n e i =
    let behind : length (drop row k) ≡ length (drop row s) = omega (arith, length-drop row k, length-drop row s) in
    omega (arith, i, inside_cut row s k e, inside_cut n (drop row s) (drop row k) behind)

-- and where all are kept, s is full
all_inside : (s : List Bool) (n : ℕ) → length s ≡ n → count (outside s (replicate n true)) ≡ 0 → count s ≡ n
all_inside [] zero e i = refl
all_inside [] (suc n) e i = absurd (omega arith)
all_inside (x ∷ s) zero e i = absurd (omega arith)
all_inside (false ∷ s) (suc n) e i = absurd (omega arith)
all_inside (true ∷ s) (suc n) e i = ap suc (all_inside s n (suc_inj e) i)

module _ (s : List Bool) (runs : List ℕ) (len at : ℕ) where
  abbrev k : List Bool
  k = in_runs len runs

  pub record Filling (row i rank : ℕ) (out₀ out : List ℕ) : Type 0 where
    pub passed : Passed len runs row i
    pub recovering : Recovering s k at row rank out₀ out

  pub filling_none : (out : List ℕ) → Apart 0 len runs → Below (2 ^ 64) out → Filling 0 0 0 out out
  filling_none out a small = record { passed = passed_none len runs a; recovering = recovering_none s k at out small }

  module _ (long : length s ≡ len) (row i rank : ℕ) (out₀ out : List ℕ) (f : Filling row i rank out₀ out) where
    same : length k ≡ length s
    same = tab_length 0 len (λ j. held j runs) ∙ sym long

    -- the ranks that are laid are those of the rows before `row`
    left : rank + count (drop row s) ≡ count s
    left = omega (arith, f.recovering.ranked, count_append (take row s) (drop row s), ap count (take-append-drop row s))

    pub filling_few : rank ≤ count s
    filling_few = omega (arith, left)

    module _ (inside : count (outside s (in_runs len runs)) ≡ 0) (first past : ℕ) (r : NextPair row len i runs first past) where
      abbrev gap : List Bool
      gap = take (first - row) (drop row s)

      abbrev run : List Bool
      run = take (past - first) (drop first s)

      run_long : length run ≡ past - first
      run_long = omega (arith, length-take (past - first) (drop first s), length-drop first s, long, r.some, r.within)

      -- the run lies in self
      pub run_full : count (take (past - first) (drop first s)) ≡ past - first
      run_full =
          all_inside run (past - first) run_long
          (sym (ap (λ (l : List Bool). count (outside run l)) (passed_held len runs row i f.passed first past r)) ∙ inside_part s k first (past - first) same inside)

      -- both parts, of either mask
      cut : (l : List Bool) → take (past - row) (drop row l) ≡ take (first - row) (drop row l) ++ take (past - first) (drop first l)
      cut l = take_both row first past l r.from (omega (arith, r.some))

      part : recover (take (past - row) (drop row s)) (take (past - row) (drop row k)) ≡ replicate (count gap) false ++ replicate (past - first) true
      part =
          let unset = replicate (first - row) false in
          let gap-long : length unset ≡ length gap =
          omega (arith, length-replicate (first - row) false, length-take (first - row) (drop row s), length-drop row s, long, r.from, r.some, r.within) in
          ap₂ recover (cut s)
          (cut k ∙ ap₂ (λ (x y : List Bool). x ++ y) (passed_gap len runs row i f.passed first past r) (passed_held len runs row i f.passed first past r))
          ∙ recover_append gap run unset (replicate (past - first) true) gap-long
          ∙ ap₂ (λ (x y : List Bool). x ++ y) (recover_none gap (first - row))
          (ap (λ (n : ℕ). recover run (replicate n true)) (sym run_long) ∙ recover_all run ∙ ap (λ (n : ℕ). replicate n true) run_full)

      both : count (take (past - row) (drop row s)) ≡ count gap + (past - first)
      both = ap count (cut s) ∙ count_append gap run ∙ ap (λ (n : ℕ). count gap + n) run_full

      pub filling_room : (set : ℕ) → set ≡ count (take (first - row) (drop row s)) → rank + set + (past - first) ≤ count s
      filling_room set e = omega (arith, e, both, recovering_room s k at same row rank out₀ out f.recovering (past - row))

      pub filling_run : (set below : ℕ) (then : List ℕ) → set ≡ count (take (first - row) (drop row s)) → below ≡ rank + set + (past - first)
          → then ≡ laid (at + rank) (replicate set false ++ replicate (past - first) true) out → Filling past (i + 1) below out₀ then
      filling_run set below then e b t =
          let place : row + (past - row) ≡ past = omega (arith, r.from, r.some) in
          let more : Recovering s k at (row + (past - row)) below out₀ then =
          recovering_chunk s k at same row rank out₀ out f.recovering (past - row) below then (omega (arith, both, e, b))
          (t ∙ ap (λ (n : ℕ). laid (at + rank) (replicate n false ++ replicate (past - first) true) out) e
          ∙ ap (λ (l : List Bool). laid (at + rank) l out) (sym part)) in
          record { passed = passed_run len runs row i f.passed first past r; recovering = rw place at more }

    -- no run is left: no rank that is left is kept
    pub filling_end : (total : ℕ) (then : List ℕ) → length runs / 2 ≤ i → total ≡ count s → then ≡ laid (at + rank) (replicate (total - rank) false) out
        → then ≡ laid at (recover s (in_runs len runs)) out₀
    filling_end total then h e t =
        let many : total - rank ≡ count (drop row s) = omega (arith, e, left) in
        let rest = recover (drop row s) (drop row k) in
        let none : rest ≡ replicate (total - rank) false =
        ap (recover (drop row s)) (passed_end len runs row i f.passed h) ∙ recover_none (drop row s) (len - row)
        ∙ ap (λ (n : ℕ). replicate n false) (sym many) in
        progress_last (recover s k) (replicate (total - rank) false) at rank out₀ out then t
        (progress_as (recover s k) rest (replicate (total - rank) false) at rank out₀ out none f.recovering.progress)
