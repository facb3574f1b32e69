-- What a loop keeps that takes the rows under each run of self: the ranks of the runs passed are laid. With a law for none, a law for one run more, and
-- a law for the end. By the rows of runs up to the next one, of which only the run's have ranks.
-- Assumes nothing.
use Prim.Native.Nat.{ℕ, zero, suc, ◌+◌, ◌-◌, ◌*◌, ◌/◌, ◌^◌, ◌≤◌}
use mathlib.Core.Path.{◌≡◌, refl, sym, ap, ◌∙◌}
use mathlib.Core.Bool.{Bool, true, false}
use mathlib.Core.List.{List, [], ◌∷◌, ◌++◌, append-nil}
use native.Mathlib.Omega.{arith}
use lib.ListN.{length, take, drop, replicate, length-take, length-drop}
use lib.Seq.{drop-drop, take-take}
use Rattle.rows.specs.Rows.{count, recover}
use Rattle.rows.specs.Words.{Below, bits_of_all, view}
use Rattle.rows.specs.Runs.{held, in_runs, run_lengths, Apart}
use Rattle.rows.specs.Laid.{laid}
use Rattle.rows.proofs.ListLaws.{tab_length}
use Rattle.rows.proofs.PartLaws.{drop_take}
use Rattle.rows.proofs.RunLaws.{runs_count, rows_sum}
use Rattle.rows.proofs.PairLaws.{NextPair}
use Rattle.rows.proofs.RecoverLaws.{recover_length, recover_empty}
use Rattle.rows.proofs.BehindLaws.{view_from}
use Rattle.rows.proofs.WordsLaws.{view_length}
use Rattle.in_runs.proofs.RecoveringLaws.{Recovering, recovering_none, recovering_chunk, recovering_room}
use Rattle.in_runs.proofs.PassLaws.{Passed, passed_none, passed_end, passed_both, passed_run}

-- unset rows have no rank, and set ones all
recover_both : (m n : ℕ) (k : List Bool) → length k ≡ m + n → recover (replicate m false ++ replicate n true) k ≡ drop m k
recover_both zero zero [] e = refl
recover_both zero zero (x ∷ k) e = absurd (omega arith)
recover_both zero (suc n) [] e = absurd (omega arith)
recover_both zero (suc n) (x ∷ k) e = ap (λ (l : List Bool). x ∷ l) (recover_both zero n k (omega arith))
recover_both (suc m) n [] e = absurd (omega arith)
recover_both (suc m) n (x ∷ k) e = recover_both m n k (omega arith)

module _ (runs : List ℕ) (k : List Bool) (len at : ℕ) where
  abbrev s : List Bool
  s = in_runs len runs

  pub record Taking (i rank : ℕ) (out₀ out : List ℕ) : Type 0 where
    pub row : ℕ
    pub passed : Passed len runs row i
    pub recovering : Recovering s k at row rank out₀ out

  pub taking_none : (out : List ℕ) → Apart 0 len runs → Below (2 ^ 64) out → Taking 0 0 out out
  taking_none out a small = record { row = 0; passed = passed_none len runs a; recovering = recovering_none s k at out small }

  module _ (same : length k ≡ len) (i rank : ℕ) (out₀ out : List ℕ) (t : Taking i rank out₀ out) where
    as_long : length k ≡ length s
    as_long = same ∙ sym (tab_length 0 len (λ j. held j runs))

    -- the next run, and the rows under it
    module _ (first past : ℕ) (r : NextPair t.row len i runs first past) where
      abbrev n : ℕ
      n = past - t.row

      both : take n (drop t.row s) ≡ replicate (first - t.row) false ++ replicate (past - first) true
      both = passed_both len runs t.row i t.passed first past r

      part : recover (take n (drop t.row s)) (take n (drop t.row k)) ≡ take (past - first) (drop first k)
      part =
          let b : ℕ = t.row in
          let parts : n ≡ (first - b) + (past - first) = omega (arith, r.from, r.some) in
          let place : b + (first - b) ≡ first = omega (arith, r.from) in
          let long : length (take n (drop b k)) ≡ (first - b) + (past - first) =
          omega (arith, length-take n (drop b k), length-drop b k, same, parts, r.from, r.some, r.within) in
          ap (λ (l : List Bool). recover l (take n (drop b k))) both ∙ recover_both (first - b) (past - first) (take n (drop b k)) long
          ∙ ap (λ (m : ℕ). drop (first - b) (take m (drop b k))) parts ∙ drop_take (first - b) (past - first) (drop b k)
          ∙ ap (take (past - first)) (drop-drop (first - b) b k ∙ ap (λ (m : ℕ). drop m k) place)

      some : count (take n (drop t.row s)) ≡ past - first
      some =
          sym (recover_length (take n (drop t.row s)) (take n (drop t.row k))) ∙ ap length part
          ∙ omega (arith, length-take (past - first) (drop first k), length-drop first k, same, r.some, r.within)

      pub taking_room : Apart 0 len runs → rank + (past - first) ≤ run_lengths runs
      taking_room a =
          omega (arith, some, runs_count len runs a, recovering_room s k at as_long t.row rank out₀ out t.recovering n)

      pub taking_run : (then : List ℕ) → then ≡ laid (at + rank) (take (past - first) (drop first k)) out → Taking (i + 1) (rank + (past - first)) out₀ then
      taking_run then e =
          let b : ℕ = t.row in
          let place : b + n ≡ past = omega (arith, r.from, r.some) in
          let more : Recovering s k at (b + n) (rank + (past - first)) out₀ then =
          recovering_chunk s k at as_long b rank out₀ out t.recovering n (rank + (past - first)) then (ap (λ (x : ℕ). rank + x) (sym some))
          (e ∙ ap (λ (l : List Bool). laid (at + rank) l out) (sym part)) in
          record { row = past; passed = passed_run len runs b i t.passed first past r; recovering = rw place at more }

    -- no run is left, so that no rank is
    pub taking_end : length runs / 2 ≤ i → out ≡ laid at (recover (in_runs len runs) k) out₀
    taking_end h =
        let b : ℕ = t.row in
        let p = t.recovering.progress in
        let none : recover (drop b s) (drop b k) ≡ [] =
        ap (λ (l : List Bool). recover l (drop b k)) (passed_end len runs b i t.passed h)
        ∙ recover_empty (replicate (len - b) false) (drop b k) (rows_sum b len []) in
        p.lies ∙ ap (λ (l : List Bool). laid at l out₀) (sym (p.parts ∙ ap (λ (l : List Bool). p.front ++ l) none ∙ append-nil p.front))

-- the rows under a run, as they are read
pub read_under : (from len first n : ℕ) (ws : List ℕ) → first + n ≤ len → view (from + first) n ws ≡ take n (drop first (view from len ws))
read_under from len first n ws h =
    sym
    (ap (take n) (sym (view_from from first len ws (omega arith))) ∙ take-take n (len - first) (drop (from + first) (bits_of_all 64 ws)) (omega arith))

-- a turn whose rows are read from words
module _ (runs kept : List ℕ) (from len at i rank : ℕ) (out₀ out : List ℕ) (room : from + len ≤ length kept * 64)
    (t : Taking runs (view from len kept) len at i rank out₀ out) where
  long : length (view from len kept) ≡ len
  long = view_length from len kept room

  module _ (first past : ℕ) (r : NextPair t.row len i runs first past) where
    pub read_room : Apart 0 len runs → rank + (past - first) ≤ run_lengths runs
    read_room = taking_room runs (view from len kept) len at long i rank out₀ out t first past r

    pub taking_read : (then : List ℕ) → then ≡ laid (at + rank) (view (from + first) (past - first) kept) out
        → Taking runs (view from len kept) len at (i + 1) (rank + (past - first)) out₀ then
    taking_read then e =
        taking_run runs (view from len kept) len at long i rank out₀ out t first past r then
        (e ∙ ap (λ (l : List Bool). laid (at + rank) l out) (read_under from len first (past - first) kept (omega (arith, r.some, r.within))))

  pub read_end : length runs / 2 ≤ i → out ≡ laid at (recover (in_runs len runs) (view from len kept)) out₀
  read_end = taking_end runs (view from len kept) len at long i rank out₀ out t
