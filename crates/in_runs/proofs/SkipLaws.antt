-- An operand's rows passed over, form by form: how many are set among n from a row on, and where the walk over its numbers has come to behind them. A
-- list is parted by a row at the row's rank, since its entries are the set rows. Assumes nothing.
use Prim.Native.Nat.{ℕ, zero, suc, ◌+◌, ◌-◌, ◌^◌, ◌≤◌, ◌<◌}
use native.Mathlib.Nat.{zero-add}
use mathlib.Core.Path.{◌≡◌, refl, sym, ap, subst, ◌∙◌}
use mathlib.Core.Bool.{Bool, true, false}
use mathlib.Core.List.{List, [], ◌∷◌, ◌++◌}
use native.Mathlib.Omega.{arith}
use lib.ListN.{length, take, drop, length-append, length-drop, take-append-drop, drop_of_length-le}
use lib.Seq.{length-take-le, take_at, drop_at, take_all, take-add, drop-drop}
use Rattle.std.specs.List.{HoldsAt, AllWithin}
use Rattle.rows.specs.Rows.{count, rank_at}
use Rattle.rows.specs.Words.{Below}
use Rattle.rows.specs.Table.{Met}
use Rattle.rows.specs.Lists.{member, listed, Ascending, set_rows}
use Rattle.rows.specs.Runs.{held}
use Rattle.rows.proofs.RowLaws.{count_split}
use Rattle.rows.proofs.ListLaws.{tab_length, rows_listed, rows_count, rows_ascending}
use Rattle.rows.proofs.MarkLaws.{ascending_below}
use Rattle.rows.proofs.PartLaws.{rows_append}
use Rattle.rules.specs.declared.Form.{Form}
use Rattle.rules.specs.declared.Form.TheVariants.{All, None, Words, List as Listed, Runs}
use Rattle.rules.specs.Operand.{Operand, rows_by, rows_of, length_of, checks_by, Accepted}
use Rattle.rules.proofs.OperandLaws.{ascending, accepted_limit, accepted_few}
use Rattle.operand.specs.Flat.{has_row_numbers, has_runs, Flat, flat}
use Rattle.operand.proofs.FlatLaws.{flat_rows}
use Rattle.operand.proofs.NumberLaws.{accepted_list, list_rows, list_count, runs_rows}
use Rattle.books.specs.Gathers.{Climbs, Parted}
use Rattle.books.specs.Windows.{window, Reached}
use Rattle.books.proofs.GatherLaws.{tab_part, ascending_climbs, parted_once}
use Rattle.extracts.specs.Walk.{CameBy, Came}
use Rattle.extracts.proofs.WalkLaws.{list_told, runs_told_lem, flat_told, list_came}
use Rattle.in_runs.specs.Behind.{behind}
use Rattle.rows.specs.Table.{no_operand}

-- ---- a list

module _ (len : ℕ) (es : List ℕ) (a : Ascending 0 len es) where
  abbrev rows : List Bool
  rows = listed len es

  -- parted by a row at its rank
  parted_at : (row : ℕ) → row ≤ len → Parted row (rank_at rows row) es
  parted_at row h =
      let front = take row rows in
      let back = drop row rows in
      let all : length rows ≡ len = tab_length 0 len (λ i. member i es) in
      let long : length front ≡ row = length-take-le row rows (omega (arith, all)) in
      let many : length (set_rows 0 front) ≡ rank_at rows row = rows_count 0 front in
      let whole : es ≡ set_rows 0 front ++ set_rows row back =
      sym (rows_listed len 0 len es (zero-add len) a) ∙ ap (set_rows 0) (sym (take-append-drop row rows)) ∙ rows_append 0 front back
      ∙ ap (λ (k : ℕ). set_rows 0 front ++ set_rows k back) (zero-add (length front) ∙ long) in
      let low : take (rank_at rows row) es ≡ set_rows 0 front =
      ap (take (rank_at rows row)) whole ∙ take_at (set_rows 0 front) (set_rows row back) (rank_at rows row) many in
      let high : drop (rank_at rows row) es ≡ set_rows row back =
      ap (drop (rank_at rows row)) whole ∙ drop_at (set_rows 0 front) (set_rows row back) (rank_at rows row) many in
      record {
        within = omega (arith, ap length whole, length-append (set_rows 0 front) (set_rows row back), many);
        before = subst (λ (l : List ℕ). Below row l) (sym low)
            (ascending_below 0 row (set_rows 0 front) (rows_ascending 0 row front (zero-add (length front) ∙ long)));
        after = subst (λ (l : List ℕ). Climbs row l) (sym high)
            (ascending_climbs row len (set_rows row back) (rows_ascending row len back (omega (arith, length-drop row rows, all))));
      }

  module _ (row n next : ℕ) (h : row + n ≤ len) (p : Parted row next es) where
    rank_is : next ≡ rank_at rows row
    rank_is = parted_once row next (rank_at rows row) es p (parted_at row (omega arith))

    -- the entries between two rows are the set rows between them
    pub entries_count : (past : ℕ) → Parted (row + n) past es → past - next ≡ count (take n (drop row (listed len es)))
    entries_count past q =
        omega (arith, rank_is, parted_once (row + n) past (rank_at rows (row + n)) es q (parted_at (row + n) h), count_split row n rows)

    pub entries_behind : count (take n (drop row (listed len es))) ≡ n → Parted (row + n) (next + n) es
    entries_behind e =
        let is : rank_at rows (row + n) ≡ next + n = omega (arith, rank_is, count_split row n rows) in
        subst (λ (j : ℕ). Parted (row + n) j es) is (parted_at (row + n) h)

-- ---- an operand

module _ (o : Operand) (row n : ℕ) (h : row + n ≤ length_of o.form) where
  -- what was told is of a list
  pub list_skipped : (next past : ℕ) → has_row_numbers o.form ≡ true → Accepted o → Came o next row → Parted (row + n) past o.numbers
      → (past - next ≡ count (take n (drop row (rows_of o)))) × Came o past (row + n)
  list_skipped next past e m c p = (
    entries_count (length_of o.form) o.numbers (accepted_list o e m) row n next h (list_came o next row e c) past p
        ∙ ap (λ (l : List Bool). count (take n (drop row l))) (sym (list_rows o e)),
    (list_told o row n h _ past e (record { is = refl; parted = p })).1,
  )

  -- of runs
  pub runs_skipped : (set next : ℕ) → has_runs o.form ≡ true → set ≡ count (window row n o.numbers) → Reached o.numbers next (row + n)
      → (set ≡ count (take n (drop row (rows_of o)))) × Came o next (row + n)
  runs_skipped set next e c r =
      let f : ℕ → Bool = λ i. held i o.numbers in
      let part : take n (drop row (rows_of o)) ≡ window row n o.numbers =
      ap (λ (l : List Bool). take n (drop row l)) (runs_rows o e) ∙ tab_part 0 (length_of o.form) row n f h
      ∙ ap (λ (b : ℕ). window b n o.numbers) (zero-add row) in
      (c ∙ ap count (sym part), (runs_told_lem o row n h _ next e refl r).1)

  -- and of the other forms
  pub flat_skipped : (set next : ℕ) → has_row_numbers o.form ≡ false → has_runs o.form ≡ false → Flat o → set ≡ count (take n (drop row (rows_of (flat o))))
      → (set ≡ count (take n (drop row (rows_of o)))) × Came o next (row + n)
  flat_skipped set next e d m c =
      (c ∙ ap (λ (l : List Bool). count (take n (drop row l))) (sym (flat_rows o m)), (flat_told o row n h _ next e d m refl).1)

-- rows that are all set
pub came_behind : (o : Operand) (row n next : ℕ) → row + n ≤ length_of o.form → Accepted o → count (take n (drop row (rows_of o))) ≡ n → Came o next row
    → Came o (behind (has_row_numbers o.form) next n) (row + n)
came_behind o row n next = by o.form
  where
    by : (f : Form) → row + n ≤ length_of f → Met (checks_by f no_operand o) → count (take n (drop row (rows_by f o))) ≡ n → CameBy f o.numbers next row
        → CameBy f o.numbers (behind (has_row_numbers f) next n) (row + n)
    by (All m) h a e c = tt
    by (None m) h a e c = tt
    by (Words start len claimed) h a e c = tt
    by (Listed len) h a e c = entries_behind len o.numbers (ascending len o.numbers a.1.0 a.1.1.0) row n next h c e
    by (Runs len) h a e c = record { ahead = c.ahead; behind = λ r k. c.behind r (omega arith) }

-- ---- a gap and then a run, whose rows are all set

module _ (o : Operand) (row first past next : ℕ) (from : row ≤ first) (some : first < past) (within : past ≤ length_of o.form) (m : Accepted o)
    (c : Came o next (row + (first - row))) where
  came_to : Came o next first
  came_to = let place : row + (first - row) ≡ first = omega arith in subst (λ (x : ℕ). Came o next x) place c

  -- the walk has come behind the run
  pub came_over : (after : ℕ) → count (take (past - first) (drop first (rows_of o))) ≡ past - first
      → after ≡ behind (has_row_numbers o.form) next (past - first) → Came o after past
  came_over after full e =
      let place : first + (past - first) ≡ past = omega arith in
      let on = came_behind o first (past - first) next (omega arith) m full came_to in
      subst (λ (x : ℕ). Came o after x) place (subst (λ (j : ℕ). Came o j (first + (past - first))) (sym e) on)

  -- and its number is one
  pub steps_fit : has_row_numbers o.form ≡ true → next + (past - first) < 2 ^ 64
  steps_fit e =
      omega (arith, (list_came o next first e came_to).within, list_count o e, accepted_few o m, accepted_limit o m)

-- ---- entries looked at one by one

below_both : (e : ℕ) (xs ys : List ℕ) → Below e xs → Below e ys → Below e (xs ++ ys)
below_both e [] ys a b = b
below_both e (x ∷ xs) ys a b = (a.0, below_both e xs ys a.1 b)

-- the first that is not below a row parts those that climb
scanned : (end b : ℕ) (xs : List ℕ) (k : ℕ) → Climbs b xs → k < length xs → HoldsAt (λ x. end ≤ x) xs k → AllWithin (λ x. x < end) xs 0 k
    → Below end (take k xs) × Climbs end (drop k xs)
scanned end b [] k c h at all = absurd (omega arith)
scanned end b (x ∷ xs) zero c h at all = (tt, (at 0, c.1))
scanned end b (x ∷ xs) (suc k) c h at all =
    let rest = scanned end (suc x) xs k c.1 (omega arith) (λ d. at d) (λ j d lo hi. all (suc j) d (omega arith) (omega arith)) in
    ((all 0 0 (omega arith) (omega arith), rest.0), rest.1)

all_below : (end : ℕ) (xs : List ℕ) → AllWithin (λ x. x < end) xs 0 (length xs) → Below end xs
all_below end [] all = tt
all_below end (x ∷ xs) all =
    (all 0 0 (omega arith) (omega arith), all_below end xs (λ j d lo hi. all (suc j) d (omega arith) (omega arith)))

module _ (es : List ℕ) (next end : ℕ) (h : next ≤ length es) (low : Below end (take next es)) where
  pub parted_first : (k : ℕ) → Climbs 0 (drop next es) → k < length (drop next es) → HoldsAt (λ x. end ≤ x) (drop next es) k
      → AllWithin (λ x. x < end) (drop next es) 0 k → Parted end (next + k) es
  parted_first k c l at all =
      let both = scanned end 0 (drop next es) k c l at all in
      record {
        within = omega (arith, length-drop next es);
        before = subst (Below end) (sym (take-add next k es)) (below_both end (take next es) (take k (drop next es)) low both.0);
        after = subst (Climbs end) (drop-drop k next es) both.1;
      }

  pub parted_none : AllWithin (λ x. x < end) (drop next es) 0 (length (drop next es)) → Parted end (length es) es
  parted_none all = record {
    within = omega arith;
    before = subst (Below end) (take-append-drop next es ∙ sym (take_all (length es) es (omega arith)))
        (below_both end (take next es) (drop next es) low (all_below end (drop next es) all));
    after = subst (Climbs end) (sym (drop_of_length-le es {i = length es} (omega arith))) tt;
  }
