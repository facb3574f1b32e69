-- The entries that numbers stand for: where they lie, and that runs of one row each are a list of their first rows.
-- By recursion over the pairs: no run is empty, so that runs with as many rows as they are have one row each.
-- Assumes nothing.
use Prim.Native.Nat.{ℕ, zero, suc, ◌*◌, ◌/◌, ◌≤◌, ◌<◌}
use native.Mathlib.Nat.{le_of_suc-le-suc}
use native.Mathlib.Decide.{dec_le}
use mathlib.Core.Path.{◌≡◌, refl, sym, ap, ap₂, ◌∙◌}
use mathlib.Core.Bool.{Bool, ◌||◌, ◌&&◌, and-false}
use mathlib.Core.List.{List, [], ◌∷◌}
use native.Mathlib.Omega.{arith}
use borrow.Author.Tests.{lt-ltb, le-ltb, le-leb, lt-leb, eq-eqb, ne_eqb}
use lib.Dec.{eqb, leb, ltb}
use lib.ListN.{length, get_or}
use Rattle.rows.specs.Lists.{member, listed, Ascending}
use Rattle.rows.specs.Runs.{held, in_runs, run_lengths, Apart}
use Rattle.rows.proofs.ListLaws.{tab_ext}
use Rattle.marks.specs.declared.inner.Numbers.{Numbers}
use Rattle.marks.specs.declared.inner.Numbers.TheVariants.{List as Listed, Runs}
use Rattle.marks.specs.Entries.{firsts, entries}

-- ---- where they lie

pub firsts_length : (ns : List ℕ) → length (firsts ns) ≡ length ns / 2
firsts_length [] = refl
firsts_length (f ∷ []) = refl
firsts_length (f ∷ p ∷ ns) = omega (arith, firsts_length ns)

pub firsts_at : (ns : List ℕ) (k : ℕ) → k < length (firsts ns) → get_or (firsts ns) k 0 ≡ get_or ns (k * 2) 0
firsts_at [] k h = absurd (omega arith)
firsts_at (f ∷ []) k h = absurd (omega arith)
firsts_at (f ∷ p ∷ ns) zero h = refl
firsts_at (f ∷ p ∷ ns) (suc k) h =
    let next : suc k * 2 ≡ suc (suc (k * 2)) = omega arith in
    firsts_at ns k (le_of_suc-le-suc h) ∙ sym (ap (λ (i : ℕ). get_or (f ∷ p ∷ ns) i 0) next)

pub entries_few : (numbers : Numbers) (ns : List ℕ) → length (entries numbers ns) ≤ length ns
entries_few Listed ns = omega arith
entries_few Runs ns = omega (arith, firsts_length ns)

-- ---- runs of one row each

runs_some : (b e : ℕ) (ns : List ℕ) → Apart b e ns → length (firsts ns) ≤ run_lengths ns
runs_some b e [] a = omega arith
runs_some b e (f ∷ []) a = absurd a
runs_some b e (f ∷ p ∷ ns) a = omega (arith, runs_some (suc p) e ns a.3, a.1)

single_held : (f i : ℕ) → (leb f i && ltb i (suc f)) ≡ eqb i f
single_held f i = go (dec_le f i) (dec_le i f)
  where
    go : Dec (f ≤ i) → Dec (i ≤ f) → (leb f i && ltb i (suc f)) ≡ eqb i f
    go (yes h) (yes k) = rw (le-leb f i h, lt-ltb i (suc f) (omega arith), eq-eqb i f (omega arith))
    go (yes h) (no k) = rw (le-ltb i (suc f) (omega arith), and-false (leb f i), ne_eqb i f (λ e. omega arith))
    go (no h) k = rw (lt-leb f i (omega arith), ne_eqb i f (λ e. omega arith))

singles_held : (b e : ℕ) (ns : List ℕ) → Apart b e ns → run_lengths ns ≡ length (firsts ns) → (i : ℕ) → held i ns ≡ member i (firsts ns)
singles_held b e [] a h i = refl
singles_held b e (f ∷ []) a h i = absurd a
singles_held b e (f ∷ p ∷ ns) a h i =
    let few = runs_some (suc p) e ns a.3 in
    let one : p ≡ suc f = omega (arith, few, h, a.1) in
    ap₂ (λ (x y : Bool). x || y) (ap (λ (q : ℕ). leb f i && ltb i q) one ∙ single_held f i)
    (singles_held (suc p) e ns a.3 (omega (arith, one, h)) i)

singles_above : (b c e : ℕ) (ns : List ℕ) → b ≤ c → Apart c e ns → run_lengths ns ≡ length (firsts ns) → Ascending b e (firsts ns)
singles_above b c e [] k a h = tt
singles_above b c e (f ∷ []) k a h = tt
singles_above b c e (f ∷ p ∷ ns) k a h =
    let few = runs_some (suc p) e ns a.3 in
    (omega (arith, k, a.0), omega (arith, a.1, a.2), singles_above (suc f) (suc p) e ns (omega (arith, a.1)) a.3 (omega (arith, few, h, a.1)))

module _ (e : ℕ) (ns : List ℕ) (a : Apart 0 e ns) (h : run_lengths ns ≡ length (firsts ns)) where
  pub singles_listed : in_runs e ns ≡ listed e (firsts ns)
  singles_listed = tab_ext 0 e (λ i. held i ns) (λ i. member i (firsts ns)) (λ i m. singles_held 0 e ns a h i)

  pub singles_ascending : Ascending 0 e (firsts ns)
  singles_ascending = singles_above 0 0 e ns (omega arith) a h
