-- An operand whose numbers are its set rows: they ascend where it is accepted, they are its rows, and as many as it counts; what counts as
-- a list is one, or has runs; and the same of runs. Form by form.
-- Assumes nothing.
use mathlib.Core.Path.{◌≡◌, refl, sym}
use mathlib.Core.Bool.{true, false, false≢true}
use lib.ListN.{length}
use Rattle.rows.specs.Lists.{listed, Ascending}
use Rattle.rows.specs.Table.{Met}
use Rattle.rules.specs.declared.Form.{Form}
use Rattle.rules.specs.declared.Form.TheVariants.{All, None, Words, List as Listed, Runs}
use Rattle.rules.specs.Operand.{Operand, rows_by, rows_of, length_of, count_by, count_of, counts_as_list, checks_by, Accepted}
use Rattle.rows.specs.Runs.{in_runs, run_lengths, Apart}
use Rattle.rules.proofs.OperandLaws.{ascending, apart}
use Rattle.operand.specs.Flat.{has_row_numbers, has_runs}
use Rattle.rows.specs.Table.{no_operand}

-- what counts as a list and has no runs has its rows lent as numbers, and what does not has neither
pub list_numbers : (f : Form) → counts_as_list f ≡ true → has_runs f ≡ false → has_row_numbers f ≡ true
list_numbers (All n) e d = e
list_numbers (None n) e d = e
list_numbers (Words start len claimed) e d = e
list_numbers (Listed len) e d = e
list_numbers (Runs len) e d = absurd (false≢true (sym d))

pub no_numbers : (f : Form) → counts_as_list f ≡ false → has_row_numbers f ≡ false
no_numbers (All n) e = e
no_numbers (None n) e = e
no_numbers (Words start len claimed) e = e
no_numbers (Listed len) e = e
no_numbers (Runs len) e = refl

pub no_runs_lem : (f : Form) → counts_as_list f ≡ false → has_runs f ≡ false
no_runs_lem (All n) e = e
no_runs_lem (None n) e = e
no_runs_lem (Words start len claimed) e = e
no_runs_lem (Listed len) e = refl
no_runs_lem (Runs len) e = e

pub accepted_list : (o : Operand) → has_row_numbers o.form ≡ true → Accepted o → Ascending 0 (length_of o.form) o.numbers
accepted_list o = by o.form
  where
    by : (f : Form) → has_row_numbers f ≡ true → Met (checks_by f no_operand o) → Ascending 0 (length_of f) o.numbers
    by (All n) e m = absurd (false≢true e)
    by (None n) e m = absurd (false≢true e)
    by (Words start len claimed) e m = absurd (false≢true e)
    by (Listed len) e m = ascending len o.numbers m.1.0 m.1.1.0
    by (Runs len) e m = absurd (false≢true e)

pub list_rows : (o : Operand) → has_row_numbers o.form ≡ true → rows_of o ≡ listed (length_of o.form) o.numbers
list_rows o = by o.form
  where
    by : (f : Form) → has_row_numbers f ≡ true → rows_by f o ≡ listed (length_of f) o.numbers
    by (All n) e = absurd (false≢true e)
    by (None n) e = absurd (false≢true e)
    by (Words start len claimed) e = absurd (false≢true e)
    by (Listed len) e = refl
    by (Runs len) e = absurd (false≢true e)

pub list_count : (o : Operand) → has_row_numbers o.form ≡ true → count_of o ≡ length o.numbers
list_count o = by o.form
  where
    by : (f : Form) → has_row_numbers f ≡ true → count_by f o.numbers ≡ length o.numbers
    by (All n) e = absurd (false≢true e)
    by (None n) e = absurd (false≢true e)
    by (Words start len claimed) e = absurd (false≢true e)
    by (Listed len) e = refl
    by (Runs len) e = absurd (false≢true e)

-- ---- runs

pub accepted_runs : (o : Operand) → has_runs o.form ≡ true → Accepted o → Apart 0 (length_of o.form) o.numbers
accepted_runs o = by o.form
  where
    by : (f : Form) → has_runs f ≡ true → Met (checks_by f no_operand o) → Apart 0 (length_of f) o.numbers
    by (All n) e m = absurd (false≢true e)
    by (None n) e m = absurd (false≢true e)
    by (Words start len claimed) e m = absurd (false≢true e)
    by (Listed len) e m = absurd (false≢true e)
    by (Runs len) e m = apart 0 len o.numbers m.1.0

pub runs_rows : (o : Operand) → has_runs o.form ≡ true → rows_of o ≡ in_runs (length_of o.form) o.numbers
runs_rows o = by o.form
  where
    by : (f : Form) → has_runs f ≡ true → rows_by f o ≡ in_runs (length_of f) o.numbers
    by (All n) e = absurd (false≢true e)
    by (None n) e = absurd (false≢true e)
    by (Words start len claimed) e = absurd (false≢true e)
    by (Listed len) e = absurd (false≢true e)
    by (Runs len) e = refl

pub runs_sum : (o : Operand) → has_runs o.form ≡ true → count_of o ≡ run_lengths o.numbers
runs_sum o = by o.form
  where
    by : (f : Form) → has_runs f ≡ true → count_by f o.numbers ≡ run_lengths o.numbers
    by (All n) e = absurd (false≢true e)
    by (None n) e = absurd (false≢true e)
    by (Words start len claimed) e = absurd (false≢true e)
    by (Listed len) e = absurd (false≢true e)
    by (Runs len) e = refl
