-- The laws of `recover` and `outside`: length, rows, count, masks in pieces, and both ways between rows and ranks.
-- By recursion over both masks. Assumes nothing.
use Prim.Native.Nat.{ℕ, zero, suc, ◌+◌, ◌<◌}
use mathlib.Core.Path.{◌≡◌, refl, sym, ap, ◌∙◌}
use mathlib.Core.Bool.{Bool, true, false, not, ◌&&◌, false≢true}
use mathlib.Core.List.{List, [], ◌∷◌, ◌++◌}
use native.Mathlib.Nat.{suc_inj, le_of_suc-le-suc}
use native.Mathlib.Omega.{arith}
use lib.ListN.{length, get_or, replicate}
use Rattle.rows.specs.Rows.{count, rank_at, compose, recover, outside}
use Rattle.rows.specs.Lists.{select}
use Rattle.rows.proofs.RowLaws.{count_le_length, count_append}
use Rattle.rows.proofs.SelectLaws.{selects}

-- 1. length, rows, count

pub recover_length : (s k : List Bool) → length (recover s k) ≡ count s
recover_length [] k = refl
recover_length (false ∷ s) [] = recover_length s []
recover_length (false ∷ s) (x ∷ k) = recover_length s k
recover_length (true ∷ s) [] = ap suc (recover_length s [])
recover_length (true ∷ s) (x ∷ k) = ap suc (recover_length s k)

-- the rank of a set row has what k has at the row
pub recover_at : (s k : List Bool) (i : ℕ) → get_or s i false ≡ true → get_or (recover s k) (rank_at s i) false ≡ get_or k i false
recover_at [] k i e = absurd (false≢true e)
recover_at (false ∷ s) k zero e = absurd (false≢true e)
recover_at (false ∷ s) [] (suc i) e = recover_at s [] i e
recover_at (false ∷ s) (x ∷ k) (suc i) e = recover_at s k i e
recover_at (true ∷ s) [] zero e = refl
recover_at (true ∷ s) (x ∷ k) zero e = refl
recover_at (true ∷ s) [] (suc i) e = recover_at s [] i e
recover_at (true ∷ s) (x ∷ k) (suc i) e = recover_at s k i e

-- rank r is set exactly if the r-th set row of s is kept
pub recover_rank : (s k : List Bool) (r : ℕ) → r < count s → get_or (recover s k) r false ≡ get_or k (select s r) false
recover_rank s k r h =
    let found = selects s r h in
    ap (λ (n : ℕ). get_or (recover s k) n false) (sym found.rank) ∙ recover_at s k (select s r) found.set

pub recover_count : (s k : List Bool) → length k ≡ length s → count (outside s k) ≡ 0 → count (recover s k) ≡ count k
recover_count [] [] e i = refl
recover_count [] (x ∷ k) e i = absurd (omega arith)
recover_count (y ∷ s) [] e i = absurd (omega arith)
recover_count (false ∷ s) (false ∷ k) e i = recover_count s k (suc_inj e) i
recover_count (false ∷ s) (true ∷ k) e i = absurd (omega arith)
recover_count (true ∷ s) (false ∷ k) e i = recover_count s k (suc_inj e) i
recover_count (true ∷ s) (true ∷ k) e i = ap suc (recover_count s k (suc_inj e) i)

pub outside_length : (s k : List Bool) → length (outside s k) ≡ length k
outside_length s [] = refl
outside_length [] (x ∷ k) = ap suc (outside_length [] k)
outside_length (y ∷ s) (x ∷ k) = ap suc (outside_length s k)

pub outside_row : (s k : List Bool) (i : ℕ) → get_or (outside s k) i false ≡ (get_or k i false && not (get_or s i false))
outside_row s [] i = refl
outside_row [] (false ∷ k) zero = refl
outside_row [] (true ∷ k) zero = refl
outside_row [] (x ∷ k) (suc i) = outside_row [] k i
outside_row (y ∷ s) (x ∷ k) zero = refl
outside_row (y ∷ s) (x ∷ k) (suc i) = outside_row s k i

-- 2. masks in pieces, cut at the same row

pub recover_append : (s₁ s₂ k₁ k₂ : List Bool) → length k₁ ≡ length s₁ → recover (s₁ ++ s₂) (k₁ ++ k₂) ≡ recover s₁ k₁ ++ recover s₂ k₂
recover_append [] s₂ [] k₂ e = refl
recover_append [] s₂ (x ∷ k₁) k₂ e = absurd (omega arith)
recover_append (y ∷ s₁) s₂ [] k₂ e = absurd (omega arith)
recover_append (false ∷ s₁) s₂ (x ∷ k₁) k₂ e = recover_append s₁ s₂ k₁ k₂ (suc_inj e)
recover_append (true ∷ s₁) s₂ (x ∷ k₁) k₂ e = ap (λ (l : List Bool). x ∷ l) (recover_append s₁ s₂ k₁ k₂ (suc_inj e))

pub outside_append : (s₁ s₂ k₁ k₂ : List Bool) → length k₁ ≡ length s₁ → outside (s₁ ++ s₂) (k₁ ++ k₂) ≡ outside s₁ k₁ ++ outside s₂ k₂
outside_append [] s₂ [] k₂ e = refl
outside_append [] s₂ (x ∷ k₁) k₂ e = absurd (omega arith)
outside_append (y ∷ s₁) s₂ [] k₂ e = absurd (omega arith)
outside_append (y ∷ s₁) s₂ (x ∷ k₁) k₂ e = ap (λ (l : List Bool). (x && not y) ∷ l) (outside_append s₁ s₂ k₁ k₂ (suc_inj e))

-- 3. there and back

pub recover_compose : (s r : List Bool) → length r ≡ count s → recover s (compose s r) ≡ r
recover_compose [] [] e = refl
recover_compose [] (x ∷ r) e = absurd (omega arith)
recover_compose (false ∷ s) r e = recover_compose s r e
recover_compose (true ∷ s) [] e = absurd (omega arith)
recover_compose (true ∷ s) (x ∷ r) e = ap (λ (l : List Bool). x ∷ l) (recover_compose s r (suc_inj e))

pub compose_recover : (s k : List Bool) → length k ≡ length s → count (outside s k) ≡ 0 → compose s (recover s k) ≡ k
compose_recover [] [] e i = refl
compose_recover [] (x ∷ k) e i = absurd (omega arith)
compose_recover (y ∷ s) [] e i = absurd (omega arith)
compose_recover (false ∷ s) (false ∷ k) e i = ap (λ (l : List Bool). false ∷ l) (compose_recover s k (suc_inj e) i)
compose_recover (false ∷ s) (true ∷ k) e i = absurd (omega arith)
compose_recover (true ∷ s) (false ∷ k) e i = ap (λ (l : List Bool). false ∷ l) (compose_recover s k (suc_inj e) i)
compose_recover (true ∷ s) (true ∷ k) e i = ap (λ (l : List Bool). true ∷ l) (compose_recover s k (suc_inj e) i)

-- what is composed lies in s
pub compose_inside : (s r : List Bool) → count (outside s (compose s r)) ≡ 0
compose_inside [] r = refl
compose_inside (false ∷ s) r = compose_inside s r
compose_inside (true ∷ s) [] = compose_inside s []
compose_inside (true ∷ s) (false ∷ r) = compose_inside s r
compose_inside (true ∷ s) (true ∷ r) = compose_inside s r

-- 4. a mask that is full, or empty

pub recover_full : (s k : List Bool) → count s ≡ length s → length k ≡ length s → recover s k ≡ k
recover_full [] [] f e = refl
recover_full [] (x ∷ k) f e = absurd (omega arith)
recover_full (false ∷ s) k f e = absurd (omega (arith, count_le_length s))
recover_full (true ∷ s) [] f e = absurd (omega arith)
recover_full (true ∷ s) (x ∷ k) f e = ap (λ (l : List Bool). x ∷ l) (recover_full s k (suc_inj f) (suc_inj e))

pub recover_empty : (s k : List Bool) → count s ≡ 0 → recover s k ≡ []
recover_empty [] k e = refl
recover_empty (false ∷ s) [] e = recover_empty s [] e
recover_empty (false ∷ s) (x ∷ k) e = recover_empty s k e
recover_empty (true ∷ s) k e = absurd (omega arith)

-- rows of which none is kept
pub recover_none : (s : List Bool) (n : ℕ) → recover s (replicate n false) ≡ replicate (count s) false
recover_none [] n = refl
recover_none (false ∷ s) zero = recover_none s zero
recover_none (false ∷ s) (suc n) = recover_none s n
recover_none (true ∷ s) zero = ap (λ (l : List Bool). false ∷ l) (recover_none s zero)
recover_none (true ∷ s) (suc n) = ap (λ (l : List Bool). false ∷ l) (recover_none s n)

-- rows that are all kept
pub recover_all : (s : List Bool) → recover s (replicate (length s) true) ≡ replicate (count s) true
recover_all [] = refl
recover_all (false ∷ s) = recover_all s
recover_all (true ∷ s) = ap (λ (l : List Bool). true ∷ l) (recover_all s)

-- every row kept lies in s: then the rows before a row do too, and those from it on
pub inside_append : (s₁ s₂ k₁ k₂ : List Bool) → length k₁ ≡ length s₁ → count (outside (s₁ ++ s₂) (k₁ ++ k₂)) ≡ count (outside s₁ k₁) + count (outside s₂ k₂)
inside_append s₁ s₂ k₁ k₂ e = ap count (outside_append s₁ s₂ k₁ k₂ e) ∙ count_append (outside s₁ k₁) (outside s₂ k₂)

-- 5. the first row outside: it is one, and no earlier row is

none_before : (s : List Bool) (p j : ℕ) → rank_at s p ≡ 0 → j < p → get_or s j false ≡ false
none_before [] p j e h = refl
none_before (x ∷ s) zero j e h = absurd (omega arith)
none_before (false ∷ s) (suc p) zero e h = refl
none_before (false ∷ s) (suc p) (suc j) e h = none_before s p j e (le_of_suc-le-suc h)
none_before (true ∷ s) (suc p) j e h = absurd (omega arith)

in_first_only : (x y : Bool) → (x && not y) ≡ true → (x ≡ true) × (y ≡ false)
in_first_only false y e = absurd (false≢true e)
in_first_only true false e = (refl, refl)
in_first_only true true e = absurd (false≢true e)

pub record FirstOutside (s k : List Bool) (i : ℕ) : Type 0 where
  pub kept : get_or k i false ≡ true
  pub not_self : get_or s i false ≡ false
  pub earlier : (j : ℕ) → j < i → (get_or k j false && not (get_or s j false)) ≡ false

pub first_outside : (s k : List Bool) → 0 < count (outside s k) → FirstOutside s k (select (outside s k) 0)
first_outside s k h =
    let i = select (outside s k) 0 in
    let found = selects (outside s k) 0 h in
    let both = in_first_only (get_or k i false) (get_or s i false) (sym (outside_row s k i) ∙ found.set) in
    record { kept = both.0; not_self = both.1; earlier = λ j l. sym (outside_row s k j) ∙ none_before (outside s k) i j found.rank l }
