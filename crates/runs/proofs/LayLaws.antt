-- What a loop keeps that lays runs: the rows before `done` are laid, and the runs from run i on are left, none before `done`. With laws for one
-- run more, and for the rows past the last. By the law of bits laid one after the other.
-- Assumes nothing.
use Prim.Native.Nat.{ℕ, suc, ◌+◌, ◌-◌, ◌≤◌, ◌<◌}
use native.Mathlib.Nat.{zero-add}
use native.Mathlib.Omega.{arith}
use mathlib.Core.Path.{◌≡◌, sym, ap, subst, ◌∙◌}
use mathlib.Core.Bool.{Bool, true, false}
use mathlib.Core.List.{List, ◌∷◌, ◌++◌}
use lib.ListN.{length, drop, get_or, replicate, length-append, length-replicate, drop_of_length-le}
use Rattle.rows.specs.Laid.{laid}
use Rattle.rows.specs.Runs.{Apart, in_runs}
use Rattle.rows.proofs.LaidLaws.{laid_append}
use Rattle.rows.proofs.RunLaws.{run_rows, in_runs_lem, apart_wider}
use Rattle.rules.specs.declared.Run.{Run}
use Rattle.rules.specs.Records.{numbers_of}
use Rattle.runs.proofs.PairLaws.{no_run, run_split}

module _ (len : ℕ) (rs : List Run) where
  pub record Laying (done i : ℕ) (out₀ out : List ℕ) : Type 0 where
    pub within : done ≤ len
    pub ahead : Apart done len (numbers_of (drop i rs))
    pub leaves : laid done (run_rows done len (numbers_of (drop i rs))) out ≡ laid 0 (in_runs len (numbers_of rs)) out₀

  pub laying_none : (out : List ℕ) → Apart 0 len (numbers_of rs) → Laying 0 0 out out
  laying_none out a = record {
    within = omega arith;
    ahead = a;
    leaves = ap (λ (s : List Bool). laid 0 s out) (sym (in_runs_lem len (numbers_of rs) a));
  }

  module _ (done i : ℕ) (out₀ out : List ℕ) (l : Laying done i out₀ out) (h : i < length rs) where
    abbrev r : Run
    r = get_or rs i no_run

    abbrev ns : List ℕ
    ns = numbers_of (drop (i + 1) rs)

    pub ahead_one : Apart done len (r.first ∷ r.past ∷ ns)
    ahead_one = subst (λ (ts : List Run). Apart done len (numbers_of ts)) (run_split rs i h) l.ahead

    abbrev turn : List Bool
    turn = replicate (r.first - done) false ++ replicate (r.past - r.first) true

    long : r.past ≡ done + length turn
    long =
        omega (
          arith,
          ahead_one.0,
          ahead_one.1,
          length-append (replicate (r.first - done) false) (replicate (r.past - r.first) true),
          length-replicate (r.first - done) false,
          length-replicate (r.past - r.first) true,
        )

    pub laying_next : (then : List ℕ) → then ≡ laid (0 + done) turn out → Laying r.past (i + 1) out₀ then
    laying_next then e = record {
      within = ahead_one.2;
      ahead = apart_wider r.past (suc r.past) len len ns (omega arith) (omega arith) ahead_one.3;
      leaves =
          ap (laid r.past (run_rows r.past len ns)) (e ∙ ap (λ (k : ℕ). laid k turn out) (zero-add done))
          ∙ laid_append 64 done r.past turn (run_rows r.past len ns) out long
          ∙ ap (λ (ts : List Run). laid done (run_rows done len (numbers_of ts)) out) (sym (run_split rs i h)) ∙ l.leaves;
    }

  -- and the rows past the last run
  pub laying_last : (done i : ℕ) (out₀ out : List ℕ) → Laying done i out₀ out → length rs ≤ i
      → laid done (replicate (len - done) false) out ≡ laid 0 (in_runs len (numbers_of rs)) out₀
  laying_last done i out₀ out l h =
      ap (λ (ts : List Run). laid done (run_rows done len (numbers_of ts)) out) (sym (drop_of_length-le rs {i = i} h)) ∙ l.leaves
