-- The rows of a composition whose self is a list: its entries at the set ranks, one after the other. From the law that the
-- rows of a composition are what the rank mask keeps of self's rows.
-- Assumes nothing.
use Prim.Native.Nat.{ℕ, zero, suc, ◌<◌}
use native.Mathlib.Nat.{zero-add, le_of_suc-le-suc}
use mathlib.Core.Path.{◌≡◌, refl, sym, ap, ◌∙◌}
use mathlib.Core.Bool.{Bool, false}
use mathlib.Core.List.{List, [], ◌∷◌, map}
use native.Mathlib.Omega.{arith}
use lib.ListN.{length, take, get_or, replicate, length-map, length-take}
use Rattle.rows.specs.Rows.{compose}
use Rattle.rows.specs.Lists.{member, listed, set_rows, Ascending}
use Rattle.rows.proofs.ListLaws.{tab_length, rows_listed, listed_count}
use Rattle.rows.specs.Laid.{laid, marked}
use Rattle.rows.proofs.RowLaws.{compose_length}
use Rattle.rows.proofs.FitLaws.{compose_cut}
use Rattle.rows.proofs.MarkLaws.{marked_rows}
use Rattle.rows.proofs.KeptLaws.{kept, rows_compose, kept_map}

map_at : (f : ℕ → ℕ) (l : List ℕ) (i : ℕ) → i < length l → get_or (map f l) i 0 ≡ f (get_or l i 0)
map_at f [] i h = absurd (omega arith)
map_at f (x ∷ l) zero h = refl
map_at f (x ∷ l) (suc i) h = map_at f l i (le_of_suc-le-suc h)

module _ (len : ℕ) (rows ranks : List ℕ) (up : Ascending 0 len rows) (ups : Ascending 0 (length rows) ranks) where
  abbrev result : List ℕ
  result = set_rows 0 (compose (listed len rows) (listed (length rows) ranks))

  result_is : result ≡ map (λ k. get_or rows k 0) ranks
  result_is =
      rows_compose 0 (listed len rows) (listed (length rows) ranks) ∙ ap (λ (l : List ℕ). kept l (listed (length rows) ranks)) (rows_listed len 0 len rows (zero-add len) up)
      ∙ kept_map 0 0 rows rows (listed (length rows) ranks) refl (omega (arith, tab_length 0 (length rows) (λ i. member i ranks)))
      ∙ ap (map (λ k. get_or rows k 0)) (rows_listed (length rows) 0 (length rows) ranks (zero-add (length rows)) ups)

  pub ranked_length : length (set_rows 0 (compose (listed len rows) (listed (length rows) ranks))) ≡ length ranks
  ranked_length = ap length result_is ∙ length-map ranks (λ k. get_or rows k 0)

  pub ranked_at : (i : ℕ) → i < length ranks → get_or (set_rows 0 (compose (listed len rows) (listed (length rows) ranks))) i 0 ≡ get_or rows (get_or ranks i 0) 0
  ranked_at i h = ap (λ (l : List ℕ). get_or l i 0) result_is ∙ map_at (λ k. get_or rows k 0) ranks i h

-- the rows of a composition by rank bits: the entries at the ranks that are set
pub rows_at_set : (len : ℕ) (rows : List ℕ) (r : List Bool) → Ascending 0 len rows
    → set_rows 0 (compose (listed len rows) r) ≡ map (λ k. get_or rows k 0) (set_rows 0 (take (length rows) r))
rows_at_set len rows r up =
    let cut = take (length rows) r in
    ap (set_rows 0) (sym (compose_cut (length rows) (listed len rows) r (omega (arith, listed_count len rows up))))
    ∙ rows_compose 0 (listed len rows) cut ∙ ap (λ (l : List ℕ). kept l cut) (rows_listed len 0 len rows (zero-add len) up)
    ∙ kept_map 0 0 rows rows cut refl (omega (arith, length-take (length rows) r))

-- the rows of a composition, marked where its part was cleared, are the composition laid there
pub marked_compose : (at len : ℕ) (s r : List Bool) (ws : List ℕ) → length s ≡ len → marked at (set_rows 0 (compose s r)) (laid at (replicate len false) ws) ≡ laid at (compose s r) ws
marked_compose at len s r ws e =
    ap (λ (k : ℕ). marked at (set_rows 0 (compose s r)) (laid at (replicate k false) ws)) (sym (compose_length s r ∙ e)) ∙ marked_rows at (compose s r) ws
