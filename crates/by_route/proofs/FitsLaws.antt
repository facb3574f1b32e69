-- The line of a route, in rows: what it says of the operands is what its kernel asks for, and its kernel's rows are the composition.
-- By the cases of the table, and the laws of a full, an empty and an accepted operand.
-- Assumes nothing.
use Prim.Native.Nat.{ℕ, zero, suc, ◌*◌}
use mathlib.Core.Path.{◌≡◌, refl, sym, ap, ap₂, ◌∙◌, subst}
use mathlib.Core.Bool.{Bool, true, false, ◌&&◌, cond, false≢true}
use mathlib.Core.Logic.{◌⊎◌, inl, inr}
use mathlib.Core.List.{List, []}
use native.Mathlib.Omega.{arith}
use borrow.Author.Tests.{eqb-true, lt-ltb}
use lib.ListN.{length, drop, replicate}
use lib.Dec.{ltb, eqb}
use Rattle.rows.specs.declared.Way.{Way}
use Rattle.rows.specs.Rows.{count, compose}
use Rattle.rows.specs.Words.{bits_of_all, view}
use Rattle.rows.specs.Lists.{listed, Ascending}
use Rattle.rows.specs.Runs.{in_runs, Apart}
use Rattle.rows.specs.Asks.{InView}
use Rattle.rows.specs.Table.{Met}
use Rattle.rows.proofs.RowLaws.{compose_full, compose_by_full, compose_empty, compose_by_empty}
use Rattle.rows.proofs.FitLaws.{compose_cut}
use Rattle.rows.proofs.ListLaws.{eqb_same}
use Rattle.rules.specs.declared.Form.{Form}
use Rattle.rules.specs.declared.Form.TheVariants.{All, None, Words, List as Listed, Runs}
use Rattle.rules.specs.declared.Factors.{Factors}
use Rattle.rules.specs.declared.Route.{Route}
use Rattle.rules.specs.declared.Route.TheVariants.{RankMask, SelfMask, NoRows, EntryAtRank, EntryIfSet, MaskDriven, Gathered, Read}
use Rattle.rules.specs.Operand.{Operand, lent, rows_of, length_of, count_by, count_of, empty, full, counts_as_list, checks_by, rows_by, Accepted}
use Rattle.rules.specs.Route.{route_of, route_by, way_by}
use Rattle.rules.specs.Compose.{Paired, result}
use Rattle.rules.proofs.OperandLaws.{accepted_length, accepted_count, words_reach}
use Rattle.rules.proofs.ComposeLaws.{ranks_length}
use Rattle.operand.specs.Flat.{has_row_numbers, has_runs, start_of}
use Rattle.operand.proofs.NumberLaws.{accepted_list, list_numbers, list_rows, accepted_runs, runs_rows}
use Rattle.by_route.specs.Fits.{AsList, InWords, Fits, keeps_runs}
use Rattle.rows.specs.Table.{no_operand}

-- ---- the chosen route's line fits, whatever the factors are

module _ (s r : Operand) where
  line : (fs fr es er sl rl driven : Bool) (way : Way) → full s ≡ fs → full r ≡ fr → empty s ≡ es → empty r ≡ er → counts_as_list s.form ≡ sl → counts_as_list r.form ≡ rl
      → Fits (cond fs RankMask (cond fr SelfMask (cond es NoRows (cond er NoRows (cond sl (cond rl EntryAtRank EntryIfSet) (cond driven MaskDriven (cond rl (Gathered way) (Read way)))))))) s r
  line true fr es er sl rl d w a b c e f g = a
  line false true es er sl rl d w a b c e f g = b
  line false false true er sl rl d w a b c e f g = inl c
  line false false false true sl rl d w a b c e f g = inr e
  line false false false false true true d w a b c e f g = (f, g)
  line false false false false true false d w a b c e f g = (f, (g, b, e))
  line false false false false false true true w a b c e f g = ((f, a, c), inl g)
  line false false false false false false true w a b c e f g = ((f, a, c), inr (g, b, e))
  line false false false false false true false w a b c e f g = ((f, a, c), g)
  line false false false false false false false w a b c e f g = ((f, a, c), (g, b, e))

  pub route_fits : (k : Factors) → Fits (route_of k s r) s r
  unfolding route_by
  route_fits k = line (full s) (full r) (empty s) (empty r) (counts_as_list s.form) (counts_as_list r.form) (ltb (k.driven * count_of r) (length_of r.form)) (way_by k s.form (count_of s)) refl refl refl refl refl refl

-- ---- an operand in words: where its rows stand

pub record Viewed (o : Operand) : Type 0 where
  pub rows : rows_of o ≡ view (start_of o.form) (length_of o.form) o.words
  pub in_view : InView (start_of o.form) (length_of o.form) o.words

both_same : (n : ℕ) → (ltb 0 n && eqb n n) ≡ false → eqb n 0 ≡ false → ⊥
both_same zero e h = false≢true (sym h)
both_same (suc n) e h = false≢true (sym e ∙ ap₂ ◌&&◌ (lt-ltb 0 (suc n) (omega arith)) (eqb_same (suc n)))

pub in_words : (o : Operand) → InWords o → Accepted o → Viewed o
in_words o w a = let v = by o.form w a in record { rows = v.0; in_view = v.1 }
  where
    by : (f : Form) → (counts_as_list f ≡ false) × ((ltb 0 (length_of f) && eqb (count_by f o.numbers) (length_of f)) ≡ false) × (eqb (count_by f o.numbers) 0 ≡ false) → Met (checks_by f no_operand o)
        → (rows_by f o ≡ view (start_of f) (length_of f) o.words) × InView (start_of f) (length_of f) o.words
    by (All n) w m = absurd (both_same n w.1 w.2)
    by (None n) w m = absurd (false≢true (sym w.2))
    by (Words start len claimed) w m = (refl, (m.0, m.1.0, omega (arith, words_reach start len claimed o m)))
    by (Listed len) w m = absurd (false≢true (sym w.0))
    by (Runs len) w m = absurd (false≢true (sym w.0))

-- ---- a list, or runs: its rows and its checks are of its numbers alone

pub bare_rows : (o : Operand) → AsList o → rows_of o ≡ rows_of (lent o.form [] o.numbers)
bare_rows o = by o.form
  where
    by : (f : Form) → counts_as_list f ≡ true → rows_by f o ≡ rows_by f (lent f [] o.numbers)
    by (All n) e = refl
    by (None n) e = refl
    by (Words start len claimed) e = absurd (false≢true e)
    by (Listed len) e = refl
    by (Runs len) e = refl

pub bare_accepted : (o : Operand) → AsList o → Accepted o → Accepted (lent o.form [] o.numbers)
bare_accepted o = by o.form
  where
    by : (f : Form) → counts_as_list f ≡ true → Met (checks_by f no_operand o) → Met (checks_by f no_operand (lent f [] o.numbers))
    by (All n) e m = m
    by (None n) e m = m
    by (Words start len claimed) e m = absurd (false≢true e)
    by (Listed len) e m = m
    by (Runs len) e m = m

-- ---- full and empty

full_count : (n len : ℕ) → (ltb 0 len && eqb n len) ≡ true → n ≡ len
full_count n len e = go (ltb 0 len) e
  where
    go : (b : Bool) → (b && eqb n len) ≡ true → n ≡ len
    go true h = eqb-true n len h
    go false h = absurd (false≢true h)

full_rows : (o : Operand) → full o ≡ true → Accepted o → count (rows_of o) ≡ length (rows_of o)
full_rows o e a = accepted_count o a ∙ full_count (count_of o) (length_of o.form) e ∙ sym (accepted_length o a)

empty_rows : (o : Operand) → empty o ≡ true → Accepted o → count (rows_of o) ≡ 0
empty_rows o e a = accepted_count o a ∙ eqb-true (count_of o) 0 e

-- ---- each line's rows are the composition's

module _ (s r : Operand) (p : Paired s r) where
  abbrev self : List Bool
  self = rows_of s

  abbrev rank : List Bool
  rank = rows_of r

  ranks_count : length_of r.form ≡ count self
  ranks_count = p.ranks ∙ sym (accepted_count s p.self)

  pub by_full_self : full s ≡ true → rows_of r ≡ result s r
  by_full_self e = sym (compose_full self rank (full_rows s e p.self) (ranks_length s r p))

  pub full_length : full s ≡ true → length_of r.form ≡ length_of s.form
  full_length e = p.ranks ∙ full_count (count_of s) (length_of s.form) e

  pub by_full_rank : full r ≡ true → rows_of s ≡ result s r
  by_full_rank e = sym (compose_by_full self rank (full_rows r e p.rank) (ranks_length s r p))

  pub by_empty : (empty s ≡ true) ⊎ (empty r ≡ true) → replicate (length_of s.form) false ≡ result s r
  by_empty (inl e) = ap (λ (k : ℕ). replicate k false) (sym (accepted_length s p.self)) ∙ sym (compose_empty self rank (empty_rows s e p.self))
  by_empty (inr e) = ap (λ (k : ℕ). replicate k false) (sym (accepted_length s p.self)) ∙ sym (compose_by_empty self rank (empty_rows r e p.rank))

  -- self in words: `in_words` says where its rows stand
  module _ (w : InWords s) where
    abbrev shown : List Bool
    shown = view (start_of s.form) (length_of s.form) s.words

    same : rows_of s ≡ shown
    same = (in_words s w p.self).rows

    pub words_count : length_of r.form ≡ count shown
    words_count = ranks_count ∙ ap count same

    pub words_ascends : has_row_numbers r.form ≡ true → Ascending 0 (count shown) r.numbers
    words_ascends e = subst (λ (k : ℕ). Ascending 0 k r.numbers) words_count (accepted_list r e p.rank)

    pub words_listed : has_row_numbers r.form ≡ true → compose shown (listed (count shown) r.numbers) ≡ result s r
    words_listed e = sym (ap₂ compose same (list_rows r e ∙ ap (λ (k : ℕ). listed k r.numbers) words_count))

    pub words_words : InWords r → compose shown (view (start_of r.form) (length_of r.form) r.words) ≡ result s r
    words_words v = sym (ap₂ compose same (in_words r v p.rank).rows)

    pub words_read : InWords r → compose shown (drop (start_of r.form) (bits_of_all 64 r.words)) ≡ result s r
    words_read v = sym (compose_cut (length_of r.form) shown (drop (start_of r.form) (bits_of_all 64 r.words)) (omega (arith, words_count))) ∙ words_words v

  -- self a list, or runs: no words are read of it
  module _ (l : AsList s) where
    abbrev alone : Operand
    alone = lent s.form [] s.numbers

    pub alone_accepted : Accepted alone
    alone_accepted = bare_accepted s l p.self

    pub alone_ranks : has_row_numbers r.form ≡ true → Ascending 0 (count_of s) r.numbers
    alone_ranks e = subst (λ (k : ℕ). Ascending 0 k r.numbers) p.ranks (accepted_list r e p.rank)

    pub alone_listed : has_row_numbers r.form ≡ true → compose (rows_of alone) (listed (count_of s) r.numbers) ≡ result s r
    alone_listed e = sym (ap₂ compose (bare_rows s l) (list_rows r e ∙ ap (λ (k : ℕ). listed k r.numbers) p.ranks))

    pub alone_read : InWords r → compose (rows_of alone) (drop (start_of r.form) (bits_of_all 64 r.words)) ≡ result s r
    alone_read v =
        sym (ap₂ compose (bare_rows s l) (in_words r v p.rank).rows
        ∙ compose_cut (length_of r.form) (rows_of alone) (drop (start_of r.form) (bits_of_all 64 r.words)) (omega (arith, ranks_count, ap count (bare_rows s l))))

  -- the rank mask is runs
  module _ (e : has_runs r.form ≡ true) where
    pub runs_apart : Apart 0 (count_of s) r.numbers
    runs_apart = subst (λ (k : ℕ). Apart 0 k r.numbers) p.ranks (accepted_runs r e p.rank)

    pub runs_kept : compose (rows_of s) (in_runs (count_of s) r.numbers) ≡ result s r
    runs_kept = sym (ap (compose (rows_of s)) (runs_rows r e ∙ ap (λ (k : ℕ). in_runs k r.numbers) p.ranks))

-- a rank mask without row numbers, on route 6
pub rank_in_words : (o : Operand) → AsList o ⊎ InWords o → has_runs o.form ≡ false → has_row_numbers o.form ≡ false → InWords o
rank_in_words o (inl e) d h = absurd (false≢true (sym h ∙ list_numbers o.form e d))
rank_in_words o (inr w) d h = w

-- runs that are kept are runs
pub kept_runs : (q : Route) (f : Form) → keeps_runs q f ≡ true → has_runs f ≡ true
kept_runs RankMask f e = absurd (false≢true e)
kept_runs SelfMask f e = absurd (false≢true e)
kept_runs NoRows f e = absurd (false≢true e)
kept_runs EntryAtRank f e = e
kept_runs EntryIfSet f e = e
kept_runs MaskDriven f e = e
kept_runs (Gathered way) f e = e
kept_runs (Read way) f e = e

-- self is then a list, or runs, or in words
pub kept_self : (q : Route) (s r : Operand) → keeps_runs q r.form ≡ true → Fits q s r → AsList s ⊎ InWords s
kept_self RankMask s r e f = absurd (false≢true e)
kept_self SelfMask s r e f = absurd (false≢true e)
kept_self NoRows s r e f = absurd (false≢true e)
kept_self EntryAtRank s r e f = inl f.0
kept_self EntryIfSet s r e f = inl f.0
kept_self MaskDriven s r e f = inr f.0
kept_self (Gathered way) s r e f = inr f.0
kept_self (Read way) s r e f = inr f.0

pub self_in_words : (o : Operand) → AsList o ⊎ InWords o → counts_as_list o.form ≡ false → InWords o
self_in_words o (inl e) d = absurd (false≢true (sym d ∙ e))
self_in_words o (inr w) d = w
