-- A walk over spans: where it begins, one span more, what is known of the span at which it stands, and entries and runs as spans. By recursion over the
-- spans.
-- Assumes nothing.
use Prim.Native.Nat.{ℕ, zero, suc, ◌+◌, ◌*◌, ◌/◌, ◌≤◌, ◌<◌}
use native.Mathlib.Nat.{le_of_suc-le-suc}
use native.Mathlib.Decide.{dec_lt, ℕ_discrete}
use native.Mathlib.Numerals.{add-one}
use native.Mathlib.Omega.{arith}
use mathlib.Core.Path.{◌≡◌, refl, sym, ap, ap₂, ◌∙◌}
use mathlib.Core.Bool.{Bool, false, ◌&&◌, ◌||◌, and-false}
use mathlib.Core.List.{List, [], ◌∷◌}
use borrow.Author.Tests.{lt-ltb, le-ltb, le-leb, lt-leb, eq-eqb, ne_eqb}
use lib.Dec.{eqb, leb, ltb}
use lib.ListN.{length, get_or, drop, length-drop, drop_of_length-le}
use lib.Seq.{drop-cons}
use Rattle.rows.specs.Lists.{member, Ascending}
use Rattle.rows.specs.Runs.{held, Apart}
use Rattle.rows.proofs.RunLaws.{held_past, held_first}
use Rattle.outside.specs.Spans.{doubled, Rising, Come, Stands}

-- ---- runs and entries are spans

pub apart_rising : (b c e : ℕ) (ns : List ℕ) → b ≤ c → Apart c e ns → Rising b e ns
apart_rising b c e [] h a = tt
apart_rising b c e (f ∷ []) h a = absurd a
apart_rising b c e (f ∷ p ∷ ns) h a = (omega arith, a.1, a.2, apart_rising p (suc p) e ns (omega arith) a.3)

pub ascending_rising : (b e : ℕ) (rs : List ℕ) → Ascending b e rs → Rising b e (doubled rs)
ascending_rising b e [] a = tt
ascending_rising b e (r ∷ rs) a = (a.0, omega arith, omega arith, ascending_rising (suc r) e rs a.2)

pub doubled_length : (rs : List ℕ) → length (doubled rs) ≡ length rs * 2
doubled_length [] = refl
doubled_length (r ∷ rs) = omega (arith, doubled_length rs)

pub doubled_at : (rs : List ℕ) (i : ℕ) → i < length rs
    → (get_or rs i 0 ≡ get_or (doubled rs) (i * 2) 0) × (get_or rs i 0 + 1 ≡ get_or (doubled rs) (i * 2 + 1) 0)
doubled_at [] i h = absurd (omega arith)
doubled_at (r ∷ rs) zero h = (refl, add-one r)
doubled_at (r ∷ rs) (suc i) h =
    let later = doubled_at rs i (le_of_suc-le-suc h) in
    let first : suc (suc (i * 2)) ≡ suc i * 2 = omega arith in
    let past : suc (suc (i * 2 + 1)) ≡ suc i * 2 + 1 = omega arith in
    (later.0 ∙ ap (λ (k : ℕ). get_or (doubled (r ∷ rs)) k 0) first, later.1 ∙ ap (λ (k : ℕ). get_or (doubled (r ∷ rs)) k 0) past)

pub doubled_held : (i : ℕ) (rs : List ℕ) → held i (doubled rs) ≡ member i rs
doubled_held i [] = refl
doubled_held i (r ∷ rs) = ap₂ ◌||◌ (by (ℕ_discrete i r)) (doubled_held i rs)
  where
    by : Dec (i ≡ r) → (leb r i && ltb i (suc r)) ≡ eqb i r
    by (yes e) = ap₂ ◌&&◌ (le-leb r i (omega arith)) (lt-ltb i (suc r) (omega arith)) ∙ sym (eq-eqb i r e)
    by (no n) = by_side (dec_lt i r)
      where
        by_side : Dec (i < r) → (leb r i && ltb i (suc r)) ≡ eqb i r
        by_side (yes l) = ap (λ (x : Bool). x && ltb i (suc r)) (lt-leb r i l) ∙ sym (ne_eqb i r n)
        by_side (no l) = ap (λ (x : Bool). leb r i && x) (le-ltb i (suc r) (omega arith)) ∙ and-false (leb r i) ∙ sym (ne_eqb i r n)

-- ---- spans that rise

rising_lower : (b c e : ℕ) (ns : List ℕ) → b ≤ c → Rising c e ns → Rising b e ns
rising_lower b c e [] h a = tt
rising_lower b c e (f ∷ []) h a = absurd a
rising_lower b c e (f ∷ p ∷ ns) h a = (omega arith, a.1, a.2, a.3)

-- they hold no row below them
rising_below : (row c e : ℕ) (ns : List ℕ) → row < c → Rising c e ns → held row ns ≡ false
rising_below row c e [] h a = refl
rising_below row c e (f ∷ []) h a = refl
rising_below row c e (f ∷ p ∷ ns) h a = rw (lt-leb f row (omega arith), rising_below row p e ns (omega arith) a.3)

rising_even : (b e : ℕ) (ns : List ℕ) → Rising b e ns → length ns ≡ length ns / 2 * 2
rising_even b e [] a = refl
rising_even b e (f ∷ []) a = absurd a
rising_even b e (f ∷ p ∷ ns) a = omega (arith, rising_even p e ns a.3)

-- ---- the walk

pub come_start : (ns : List ℕ) (e : ℕ) → Rising 0 e ns → Come ns e 0 0
come_start ns e a = record { ahead = a; behind = λ row h. refl }

pub come_later : (ns : List ℕ) (e i b c : ℕ) → b ≤ c → Come ns e i b → Come ns e i c
come_later ns e i b c h w = record { ahead = w.ahead; behind = λ row k. w.behind row (omega arith) }

-- no span is left
pub come_none : (ns : List ℕ) (e i b : ℕ) → length ns / 2 ≤ i → Come ns e i b → Stands ns e b e e
come_none ns e i b h w = record {
  low = omega arith;
  high = omega arith;
  before = λ row k l. w.behind row k ∙ ap (held row) none;
  in_it = λ row k l m. absurd (omega arith);
  some = λ l. absurd (omega arith);
}
  where
    none : drop (i * 2) ns ≡ []
    none = drop_of_length-le ns {i = i * 2} (omega (arith, rising_even 0 e (drop (i * 2) ns) w.ahead, length-drop (i * 2) ns))

-- span number i, and what is left after it
module _ (ns : List ℕ) (e i b first past : ℕ) (h : i < length ns / 2)
    (from : first ≡ get_or ns (i * 2) 0) (to : past ≡ get_or ns (i * 2 + 1) 0) (w : Come ns e i b) where
  abbrev left : List ℕ
  left = drop ((i + 1) * 2) ns

  is : drop (i * 2) ns ≡ first ∷ past ∷ left
  is =
      let two : suc (suc (i * 2)) ≡ (i + 1) * 2 = omega arith in
      drop-cons ns (i * 2) 0 (omega arith)
      ∙ ap₂ (λ (k : ℕ) (l : List ℕ). k ∷ l) (sym from) (drop-cons ns (suc (i * 2)) 0 (omega arith))
      ∙ ap₂ (λ (k : ℕ) (l : List ℕ). first ∷ k ∷ l)
      (ap (λ (k : ℕ). get_or ns k 0) (sym (add-one (i * 2))) ∙ sym to)
      (ap (λ (k : ℕ). drop k ns) two)

  rises : Rising 0 e (first ∷ past ∷ left)
  rises = rw is at w.ahead

  -- it is passed
  pub come_next : past ≤ b → Come ns e (i + 1) b
  come_next k = record {
    ahead = rising_lower 0 past e left (omega arith) rises.3;
    behind = λ row l. w.behind row l ∙ ap (held row) is ∙ held_past row first past left (omega arith);
  }

  -- it holds row b, or is the first after it
  pub come_stands : b < past → Stands ns e b first past
  come_stands k =
      let r = rises in
      record {
        low = omega arith;
        high = r.2;
        before = λ row l m. w.behind row l ∙ ap (held row) is ∙ rising_below row first e (first ∷ past ∷ left) m (omega arith, r.1, r.2, r.3);
        in_it = λ row l m n. w.behind row l ∙ ap (held row) is ∙ held_first row first past left m n;
        some = λ l. (r.1, k);
      }
