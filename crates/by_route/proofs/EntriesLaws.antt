-- An operand that counts as a list is one of two: runs that are longer than a row; or entries, those of a list or those that runs of one row each
-- stand for. What acceptance gives of each. Assumes nothing.
use Prim.Native.Nat.{ℕ, ◌/◌, ◌≤◌}
use mathlib.Core.Path.{◌≡◌, refl, sym, ◌∙◌}
use mathlib.Core.Bool.{Bool, true, false, not, ◌&&◌, false≢true}
use borrow.Author.Tests.{eqb-true}
use lib.Dec.{eqb}
use lib.ListN.{length}
use Rattle.rows.specs.Lists.{listed, Ascending}
use Rattle.rows.specs.Runs.{in_runs, run_lengths, Apart}
use Rattle.rules.specs.Operand.{Operand, rows_of, length_of, count_of, counts_as_list, Accepted}
use Rattle.rules.proofs.OperandLaws.{accepted_limit}
use Rattle.operand.specs.Flat.{has_runs}
use Rattle.operand.proofs.NumberLaws.{list_numbers, accepted_list, list_rows, list_count, accepted_runs, runs_rows, runs_sum}
use Rattle.marks.specs.Entries.{entries}
use Rattle.marks.proofs.EntryLaws.{firsts_length, singles_listed, singles_ascending}
use Rattle.marks.specs.declared.inner.Numbers.{Numbers}
use Rattle.by_route.specs.Fits.{has_long_runs, numbers_by, numbers_of}

-- its runs
pub record AsRuns (o : Operand) : Type 0 where
  pub apart : Apart 0 (length_of o.form) o.numbers
  pub limit : length_of o.form ≤ 1048576
  pub rows : in_runs (length_of o.form) o.numbers ≡ rows_of o
  pub sum : count_of o ≡ run_lengths o.numbers

-- its entries, as its numbers tell them
pub record AsEntries (o : Operand) (numbers : Numbers) : Type 0 where
  pub up : Ascending 0 (length_of o.form) (entries numbers o.numbers)
  pub rows : listed (length_of o.form) (entries numbers o.numbers) ≡ rows_of o
  pub many : count_of o ≡ length (entries numbers o.numbers)

module _ (o : Operand) (count : ℕ) (well : Accepted o) where
  abbrev runs : ℕ
  runs = length o.numbers / 2

  pub as_runs : has_long_runs o.form count o.numbers ≡ true → AsRuns o
  as_runs e = record { apart = accepted_runs o has well; limit = accepted_limit o well; rows = sym (runs_rows o has); sum = runs_sum o has }
    where
      by : (b x : Bool) → (b && x) ≡ true → b ≡ true
      by true x f = refl
      by false x f = absurd (false≢true f)

      has : has_runs o.form ≡ true
      has = by (has_runs o.form) (not (eqb count runs)) e

  pub as_entries : counts_as_list o.form ≡ true → count ≡ count_of o → has_long_runs o.form count o.numbers ≡ false → AsEntries o (numbers_of o.form)
  as_entries l c e = by (has_runs o.form) refl e
    where
      equal : (x : Bool) → not x ≡ false → x ≡ true
      equal true f = refl
      equal false f = absurd (false≢true (sym f))

      by : (b : Bool) → has_runs o.form ≡ b → (b && not (eqb count runs)) ≡ false → AsEntries o (numbers_by b)
      by true f g =
          let one = sym (runs_sum o f) ∙ sym c ∙ eqb-true count runs (equal (eqb count runs) g) ∙ sym (firsts_length o.numbers) in
          let a = accepted_runs o f well in
          record {
            up = singles_ascending (length_of o.form) o.numbers a one;
            rows = sym (runs_rows o f ∙ singles_listed (length_of o.form) o.numbers a one);
            many = runs_sum o f ∙ one;
          }
      by false f g =
          let n = list_numbers o.form l f in
          record { up = accepted_list o n well; rows = sym (list_rows o n); many = list_count o n }
