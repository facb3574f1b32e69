-- The first row that a test takes: parts joined, a test said otherwise, the leap over two masks, and select. From the parts of what is known of each.
-- Assumes nothing.
use Prim.Native.Nat.{ℕ, zero, suc, ◌≤◌, ◌<◌}
use native.Mathlib.Decide.{dec_lt}
use native.Mathlib.Omega.{arith}
use mathlib.Core.Path.{◌≡◌, refl, sym, ap, ap₂, ◌∙◌}
use mathlib.Core.Bool.{Bool, true, false, not, ◌&&◌, and-false, false≢true}
use mathlib.Core.List.{List, [], ◌∷◌}
use borrow.Author.Tests.{not-true, not-false}
use lib.ListN.{length}
use Rattle.rows.specs.Rows.{outside}
use Rattle.rows.specs.Lists.{select}
use Rattle.rows.proofs.RecoverLaws.{outside_row}
use Rattle.rows.proofs.SelectLaws.{select_unset}
use Rattle.outside.specs.First.{has, Clear, First, Reach}

-- ---- parts

pub clear_join : (f : ℕ → Bool) (b m e : ℕ) → Clear f b m → Clear f m e → Clear f b e
clear_join f b m e p q i h k = by (dec_lt i m)
  where
    by : Dec (i < m) → f i ≡ false
    by (yes l) = p i h l
    by (no n) = q i (omega arith) k

pub clear_none : (f : ℕ → Bool) (b : ℕ) → Clear f b b
clear_none f b i h k = absurd (omega arith)

-- the first of the rest, behind rows of which none is taken
pub first_behind : (f : ℕ → Bool) (b m e r : ℕ) → b ≤ m → Clear f b m → First f m e r → First f b e r
first_behind f b m e r h c q = record {
  on = omega (arith, q.on);
  within = q.within;
  clear = clear_join f b m r c q.clear;
  here = q.here;
}

pub first_none : (f : ℕ → Bool) (b e : ℕ) → b ≤ e → Clear f b e → First f b e e
first_none f b e h c = record { on = h; within = omega arith; clear = c; here = λ l. absurd (omega arith) }

-- found before the end of a part, it is the first before a later end too
pub first_wider : (f : ℕ → Bool) (b m e r : ℕ) → r < m → m ≤ e → First f b m r → First f b e r
first_wider f b m e r h k q = record { on = q.on; within = omega arith; clear = q.clear; here = λ l. q.here h }

-- the first of the rows is one row alone
pub first_same : (f : ℕ → Bool) (b e p q : ℕ) → First f b e p → First f b e q → p ≡ q
first_same f b e p q h k = by (dec_lt p q) (dec_lt q p)
  where
    by : Dec (p < q) → Dec (q < p) → p ≡ q
    by (yes l) _ = absurd (false≢true (sym (k.clear p h.on l) ∙ h.here (omega (arith, k.within))))
    by (no n) (yes l) = absurd (false≢true (sym (h.clear q k.on l) ∙ k.here (omega (arith, h.within))))
    by (no n) (no m) = omega arith

-- ---- a test that says the same of the rows before e

pub first_as : (f g : ℕ → Bool) (b e r : ℕ) → ((i : ℕ) → i < e → g i ≡ f i) → First f b e r → First g b e r
first_as f g b e r s q = record {
  on = q.on;
  within = q.within;
  clear = λ i h k. s i (omega (arith, q.within)) ∙ q.clear i h k;
  here = λ l. s r l ∙ q.here l;
}

pub reach_as : (f g : ℕ → Bool) (b e r : ℕ) → b < e → ((i : ℕ) → i < e → g i ≡ f i) → Reach f b e r → Reach g b e r
reach_as f g b e r h s q = record {
  on = q.on;
  within = q.within;
  full = λ i l k. s i (omega (arith, q.within)) ∙ q.full i l k;
  stuck = λ p. s b h ∙ q.stuck p;
}

-- to the first row that the test does not take
pub reach_first : (f : ℕ → Bool) (b e r : ℕ) → b < e → First (λ i. not (f i)) b e r → Reach f b e r
reach_first f b e r h q = record {
  on = q.on;
  within = q.within;
  full = λ i l k. not-false (f i) (q.clear i l k);
  stuck = λ p. not-true (f b) (ap (λ (i : ℕ). not (f i)) (sym p) ∙ q.here (omega arith));
}

-- ---- the leap: k's next row is a, and s has all from there on to before r

module _ (s k : List Bool) (b a e : ℕ) (behind : Clear (has (outside s k)) 0 b) (next : First (has k) b e a) where
  -- what k has not is not outside
  to_next : Clear (has (outside s k)) 0 a
  to_next =
      clear_join (has (outside s k)) 0 b a behind (λ i h l. outside_row s k i ∙ ap (λ (x : Bool). x && not (has s i)) (next.clear i h l))

  -- what s has is not outside
  pub leap_on : (end r : ℕ) → Reach (has s) a end r → Clear (has (outside s k)) 0 r
  leap_on end r q =
      clear_join (has (outside s k)) 0 a r to_next
      (λ i h l. outside_row s k i ∙ ap (λ (x : Bool). has k i && not x) (q.full i h l) ∙ and-false (has k i))

  pub leap_found : a < e → has s a ≡ false → First (has (outside s k)) 0 e a
  leap_found h n = record {
    on = omega arith;
    within = next.within;
    clear = to_next;
    here = λ l. outside_row s k a ∙ ap₂ (λ (x y : Bool). x && not y) (next.here l) n;
  }

  pub leap_none : a ≡ e → First (has (outside s k)) 0 e e
  leap_none p = first_none (has (outside s k)) 0 e (omega arith) (λ i h l. to_next i h (omega arith))

-- ---- the first set row is select's at rank 0

pub first_select : (s : List Bool) (r : ℕ) → First (has s) 0 (length s) r → r ≡ select s 0
first_select [] r f = omega (arith, f.within)
first_select (true ∷ s) zero f = refl
first_select (true ∷ s) (suc r) f = absurd (false≢true (sym (f.clear 0 (omega arith) (omega arith))))
first_select (false ∷ s) zero f = absurd (false≢true (f.here (omega arith)))
first_select (false ∷ s) (suc r) f = ap suc (first_select s r later) ∙ sym (select_unset s 0)
  where
    later : First (has s) 0 (length s) r
    later = record {
      on = omega arith;
      within = omega (arith, f.within);
      clear = λ i h k. f.clear (suc i) (omega arith) (omega arith);
      here = λ l. f.here (omega arith);
    }
