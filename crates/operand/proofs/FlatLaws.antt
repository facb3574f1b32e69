-- An operand without row numbers and runs: what acceptance gives for reading it, and its rows of its words alone. Form by form.
-- Assumes nothing.
use Prim.Native.Nat.{◌≤◌}
use mathlib.Core.Path.{◌≡◌, refl, sym}
use mathlib.Core.Bool.{true, false, false≢true}
use native.Mathlib.Omega.{arith}
use lib.ListN.{length, length-replicate}
use Rattle.rows.specs.Words.{view}
use Rattle.rows.specs.Runs.{Apart, in_runs, run_lengths}
use Rattle.rows.specs.Asks.{InView}
use Rattle.rows.specs.Table.{Met}
use Rattle.rows.proofs.WordsLaws.{view_length}
use Rattle.rules.specs.declared.Form.{Form}
use Rattle.rules.specs.declared.Form.TheVariants.{All, None, Words, List as Listed, Runs}
use Rattle.rules.specs.Operand.{Operand, rows_by, rows_of, length_of, count_by, count_of, limit, checks_by, Accepted}
use Rattle.rules.proofs.OperandLaws.{words_reach, apart}
use Rattle.operand.specs.Flat.{has_row_numbers, has_runs, has_words, start_of, FlatBy, Flat, flat}
use Rattle.rows.specs.Table.{no_operand}

pub accepted_flat : (o : Operand) → has_row_numbers o.form ≡ false → has_runs o.form ≡ false → Accepted o → Flat o
accepted_flat o = by o.form
  where
    by : (f : Form) → has_row_numbers f ≡ false → has_runs f ≡ false → Met (checks_by f no_operand o) → FlatBy f o.words
    by (All n) e d m = m.0
    by (None n) e d m = m.0
    by (Words start len claimed) e d m = (m.0, m.1.0, omega (arith, words_reach start len claimed o m))
    by (Listed len) e d m = absurd (false≢true (sym e))
    by (Runs len) e d m = absurd (false≢true (sym d))

pub flat_rows : (o : Operand) → Flat o → rows_of o ≡ rows_of (flat o)
flat_rows o = by o.form
  where
    by : (f : Form) → FlatBy f o.words → rows_by f o ≡ rows_by f (flat o)
    by (All n) m = refl
    by (None n) m = refl
    by (Words start len claimed) m = refl
    by (Listed len) m = absurd m
    by (Runs len) m = absurd m

pub flat_length : (o : Operand) → Flat o → length (rows_of o) ≡ length_of o.form
flat_length o = by o.form
  where
    by : (f : Form) → FlatBy f o.words → length (rows_by f o) ≡ length_of f
    by (All n) m = length-replicate n true
    by (None n) m = length-replicate n false
    by (Words start len claimed) m = view_length start len o.words m.2
    by (Listed len) m = absurd m
    by (Runs len) m = absurd m

pub flat_limit : (o : Operand) → Flat o → length_of o.form ≤ limit
flat_limit o = by o.form
  where
    by : (f : Form) → FlatBy f o.words → length_of f ≤ limit
    by (All n) m = m
    by (None n) m = m
    by (Words start len claimed) m = m.0
    by (Listed len) m = absurd m
    by (Runs len) m = absurd m

-- an operand in words: they reach, and its rows are a view of them
pub accepted_words : (o : Operand) → has_words o.form ≡ true → Accepted o
    → InView (start_of o.form) (length_of o.form) o.words × (rows_of o ≡ view (start_of o.form) (length_of o.form) o.words)
accepted_words o = by o.form
  where
    by : (f : Form) → has_words f ≡ true → Met (checks_by f no_operand o) → InView (start_of f) (length_of f) o.words × (rows_by f o ≡ view (start_of f) (length_of f) o.words)
    by (All n) e m = absurd (false≢true e)
    by (None n) e m = absurd (false≢true e)
    by (Words start len claimed) e m = ((m.0, m.1.0, omega (arith, words_reach start len claimed o m)), refl)
    by (Listed len) e m = absurd (false≢true e)
    by (Runs len) e m = absurd (false≢true e)

-- an operand in runs
pub accepted_runs : (o : Operand) → has_runs o.form ≡ true → Accepted o
    → Apart 0 (length_of o.form) o.numbers × (rows_of o ≡ in_runs (length_of o.form) o.numbers) × (count_of o ≡ run_lengths o.numbers)
accepted_runs o = by o.form
  where
    by : (f : Form) → has_runs f ≡ true → Met (checks_by f no_operand o)
        → Apart 0 (length_of f) o.numbers × (rows_by f o ≡ in_runs (length_of f) o.numbers) × (count_by f o.numbers ≡ run_lengths o.numbers)
    by (All n) e m = absurd (false≢true e)
    by (None n) e m = absurd (false≢true e)
    by (Words start len claimed) e m = absurd (false≢true e)
    by (Listed len) e m = absurd (false≢true e)
    by (Runs len) e m = (apart 0 len o.numbers m.1.0, refl, refl)
