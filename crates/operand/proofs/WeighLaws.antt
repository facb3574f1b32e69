-- Runs that fit: one by one, and all at once by their numbers, which climb to the length and are even in number. By recursion over the runs.
-- Assumes nothing.
use Prim.Native.Nat.{ℕ, suc, ◌%◌, ◌≤◌, ◌<◌}
use mathlib.Core.Path.{◌≡◌, refl, sym, ◌∙◌}
use mathlib.Core.Bool.{Bool, true, false, ◌&&◌}
use mathlib.Core.List.{List, [], ◌∷◌}
use native.Mathlib.Omega.{arith}
use lib.Dec.{T, leb, leb→le, ltb, ltb→lt, lt→ltb}
use lib.ListN.{length}
use Rattle.rows.specs.Lists.{Ascending}
use Rattle.rows.specs.Runs.{Apart}
use Rattle.rows.proofs.RunLaws.{apart_even}
use Rattle.rows.proofs.TableLaws.{is_true, is_false}
use Rattle.rules.specs.Operand.{climbs, last_below, runs_fit}
use Rattle.rules.proofs.OperandLaws.{ascending, apart}
use Rattle.rules.proofs.RoundTrips.{fits}

-- what is asked of one run
abbrev pub fits_one : ℕ → ℕ → ℕ → ℕ → Bool
fits_one least first past len = leb least first && (ltb first past && leb past len)

all_three : (a b c : Bool) → (a && (b && c)) ≡ true → T a × T b × T c
all_three true true true e = (tt, tt, tt)
all_three true true false e = absurd (is_true e)
all_three true false c e = absurd (is_true e)
all_three false b c e = absurd (is_true e)

-- a run that fits begins at `least` or above, is not empty, and is not past the length
pub one_fits : (least first past len : ℕ) → fits_one least first past len ≡ true → (least ≤ first) × (first < past) × (past ≤ len)
one_fits least first past len e =
    let t = all_three (leb least first) (ltb first past) (leb past len) e in
    (leb→le least first t.0, ltb→lt first past t.1, leb→le past len t.2)

-- ---- all at once

T_both : (a b : Bool) → T a → T b → T (a && b)
T_both true b s t = t
T_both false b s t = absurd s

-- numbers that climb to the length, in pairs, are runs
pub climbing_runs : (b len : ℕ) (ns : List ℕ) → Ascending b (suc len) ns → length ns % 2 ≡ 0 → Apart b len ns
climbing_runs b len [] a e = tt
climbing_runs b len (f ∷ []) a e = absurd (omega arith)
climbing_runs b len (f ∷ p ∷ ns) a e =
    (a.0, a.2.0, omega (arith, a.2.1), climbing_runs (suc p) len ns a.2.2 (omega arith))

-- and the other way
pub runs_climb : (b len : ℕ) (ns : List ℕ) → Apart b len ns → T (climbs ns) × T (last_below (suc len) ns)
runs_climb b len [] a = (tt, tt)
runs_climb b len (f ∷ []) a = absurd a
runs_climb b len (f ∷ p ∷ []) a = (T_both (ltb f p) true (lt→ltb f p a.1) tt, lt→ltb p (suc len) (omega (arith, a.2)))
runs_climb b len (f ∷ p ∷ g ∷ ns) a =
    let rest = runs_climb (suc p) len (g ∷ ns) a.3 in
    let above = first_above (suc p) len g ns a.3 in
    (T_both (ltb f p) (ltb p g && climbs (g ∷ ns)) (lt→ltb f p a.1) (T_both (ltb p g) (climbs (g ∷ ns)) (lt→ltb p g above) rest.0), rest.1)
  where
    first_above : (b len g : ℕ) (ns : List ℕ) → Apart b len (g ∷ ns) → b ≤ g
    first_above b len g [] a = absurd a
    first_above b len g (q ∷ ns) a = a.0

-- the test on all numbers is the test run by run
no_T : (b : Bool) → (T b → ⊥) → b ≡ false
no_T true h = absurd (h tt)
no_T false h = refl

yes_T : (b : Bool) → T b → b ≡ true
yes_T true t = refl
yes_T false t = absurd t

module _ (len : ℕ) (ns : List ℕ) where
  pub odd_unfit : ¬ (length ns % 2 ≡ 0) → runs_fit 0 len ns ≡ false
  odd_unfit h = no_T (runs_fit 0 len ns) (λ t. h (let e = apart_even 0 len ns (apart 0 len ns t) in omega (arith, e)))

  pub falling_unfit : ¬ T (climbs ns) → runs_fit 0 len ns ≡ false
  falling_unfit h = no_T (runs_fit 0 len ns) (λ t. h (runs_climb 0 len ns (apart 0 len ns t)).0)

  long_unfit : ¬ T (last_below (suc len) ns) → runs_fit 0 len ns ≡ false
  long_unfit h = no_T (runs_fit 0 len ns) (λ t. h (runs_climb 0 len ns (apart 0 len ns t)).1)

  all_fit : length ns % 2 ≡ 0 → T (climbs ns) → T (last_below (suc len) ns) → runs_fit 0 len ns ≡ true
  all_fit e c l = yes_T (runs_fit 0 len ns) (fits 0 len ns (climbing_runs 0 len ns (ascending (suc len) ns c l) e))

  -- where the numbers are in pairs and climb, the last decides
  pub last_decides : length ns % 2 ≡ 0 → T (climbs ns) → last_below (suc len) ns ≡ runs_fit 0 len ns
  last_decides e c = go (last_below (suc len) ns) refl
    where
      go : (b : Bool) → last_below (suc len) ns ≡ b → last_below (suc len) ns ≡ runs_fit 0 len ns
      go true h = h ∙ sym (all_fit e c (is_true h))
      go false h = h ∙ sym (long_unfit (is_false h))
