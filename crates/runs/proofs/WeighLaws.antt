-- What a loop keeps that checks runs and sums them: whether those from run i on fit, and what they sum to, is so of all. With laws for a run
-- that fits, and for one that does not. By the tests of one run.
-- Assumes nothing.
use Prim.Native.Nat.{ℕ, suc, ◌+◌, ◌-◌, ◌≤◌, ◌<◌}
use native.Mathlib.Numerals.{add-one}
use native.Mathlib.Omega.{arith}
use mathlib.Core.Path.{◌≡◌, refl, sym, ap, ◌∙◌}
use mathlib.Core.Bool.{Bool, true, false, ◌&&◌}
use mathlib.Core.List.{List}
use lib.Dec.{leb, ltb}
use lib.ListN.{length, drop, get_or, drop_of_length-le}
use Rattle.rows.specs.Runs.{run_lengths}
use Rattle.rules.specs.declared.Run.{Run}
use Rattle.rules.specs.Operand.{runs_fit}
use Rattle.rules.specs.Records.{numbers_of}
use Rattle.operand.proofs.WeighLaws.{fits_one, one_fits}
use Rattle.runs.proofs.PairLaws.{no_run, run_split}

regroup : (a b c d : Bool) → (a && (b && (c && d))) ≡ ((a && (b && c)) && d)
regroup false b c d = refl
regroup true false c d = refl
regroup true true false d = refl
regroup true true true d = refl

module _ (len : ℕ) (rs : List Run) where
  pub record Weighing (least sum i : ℕ) : Type 0 where
    pub near : least ≤ suc len
    pub few : sum ≤ least
    pub fits : runs_fit least len (numbers_of (drop i rs)) ≡ runs_fit 0 len (numbers_of rs)
    pub sums : sum + run_lengths (numbers_of (drop i rs)) ≡ run_lengths (numbers_of rs)

  pub weighing_none : Weighing 0 0 0
  weighing_none = record { near = omega arith; few = omega arith; fits = refl; sums = omega arith }

  module _ (least sum i : ℕ) (l : Weighing least sum i) (h : i < length rs) where
    abbrev r : Run
    r = get_or rs i no_run

    abbrev rest : Bool
    rest = runs_fit (suc r.past) len (numbers_of (drop (i + 1) rs))

    split : {b : Bool} → fits_one least r.first r.past len ≡ b → (b && rest) ≡ runs_fit 0 len (numbers_of rs)
    split e =
        ap (λ (b : Bool). b && rest) (sym e) ∙ sym (regroup (leb least r.first) (ltb r.first r.past) (leb r.past len) rest)
        ∙ ap (λ (ts : List Run). runs_fit least len (numbers_of ts)) (sym (run_split rs i h)) ∙ l.fits

    pub weighing_next : fits_one least r.first r.past len ≡ true → Weighing (r.past + 1) (sum + (r.past - r.first)) (i + 1)
    weighing_next e =
        let one = one_fits least r.first r.past len e in
        record {
          near = omega (arith, one.2);
          few = omega (arith, one.0, one.1, l.few);
          fits = ap (λ (k : ℕ). runs_fit k len (numbers_of (drop (i + 1) rs))) (add-one r.past) ∙ split e;
          sums = omega (arith, ap (λ (ts : List Run). run_lengths (numbers_of ts)) (run_split rs i h), l.sums);
        }

    pub weighing_unfit : fits_one least r.first r.past len ≡ false → runs_fit 0 len (numbers_of rs) ≡ false
    weighing_unfit e = sym (split e)

  -- and past the last
  pub weighing_all : (least sum i : ℕ) → Weighing least sum i → length rs ≤ i → (runs_fit 0 len (numbers_of rs) ≡ true) × (sum ≡ run_lengths (numbers_of rs))
  weighing_all least sum i l h =
      let gone = drop_of_length-le rs {i = i} h in (
        sym l.fits ∙ ap (λ (ts : List Run). runs_fit least len (numbers_of ts)) gone,
        omega (arith, ap (λ (ts : List Run). run_lengths (numbers_of ts)) gone, l.sums),
      )
