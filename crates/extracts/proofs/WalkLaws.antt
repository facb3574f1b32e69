-- An operand's rows a chunk at a time, form by form: where a walk over its numbers begins, and that a chunk of what they say is a window over it.
-- By the parts of a table. Assumes nothing.
use Prim.Native.Nat.{ℕ, ◌+◌, ◌≤◌}
use native.Mathlib.Nat.{zero-add}
use mathlib.Core.Path.{◌≡◌, refl, sym, ap, ◌∙◌}
use mathlib.Core.Bool.{Bool, true, false, false≢true}
use mathlib.Core.List.{List}
use native.Mathlib.Omega.{arith}
use lib.ListN.{take, drop}
use Rattle.rows.specs.Word.{word_of}
use Rattle.rows.specs.Table.{Met}
use Rattle.rows.specs.Lists.{tab, member}
use Rattle.rows.specs.Runs.{held}
use Rattle.rows.proofs.RunLaws.{apart_wider}
use Rattle.rules.specs.declared.Form.{Form}
use Rattle.rules.specs.declared.Form.TheVariants.{All, None, Words, List as Listed, Runs}
use Rattle.rules.specs.Operand.{Operand, rows_by, rows_of, length_of, checks_by, Accepted}
use Rattle.rules.proofs.OperandLaws.{ascending, apart}
use Rattle.operand.specs.Flat.{has_row_numbers, has_runs, Flat, flat}
use Rattle.operand.proofs.FlatLaws.{flat_rows}
use Rattle.books.specs.Gathers.{Parted, Gathers}
use Rattle.books.specs.Windows.{window, Reached}
use Rattle.books.proofs.GatherLaws.{tab_part, ascending_climbs}
use Rattle.extracts.specs.Walk.{CameBy, Came}
use Rattle.rows.specs.Table.{no_operand}

-- a walk begins with the first number
pub came_first : (o : Operand) → Accepted o → Came o 0 0
came_first o = by o.form
  where
    by : (f : Form) → Met (checks_by f no_operand o) → CameBy f o.numbers 0 0
    by (All n) m = tt
    by (None n) m = tt
    by (Words start len claimed) m = tt
    by (Listed len) m =
        record { within = omega arith; before = tt; after = ascending_climbs 0 len o.numbers (ascending len o.numbers m.1.0 m.1.1.0) }
    by (Runs len) m =
        record { ahead = apart_wider 0 0 len 1048576 o.numbers (omega arith) m.0 (apart 0 len o.numbers m.1.0); behind = λ r h. refl }

part : (len row n : ℕ) (f : ℕ → Bool) → row + n ≤ len → take n (drop row (tab 0 len f)) ≡ tab row n f
part len row n f h = tab_part 0 len row n f h ∙ ap (λ (b : ℕ). tab b n f) (zero-add row)

module _ (o : Operand) (row n : ℕ) (h : row + n ≤ length_of o.form) where
  -- what a chunk told is of a list
  pub list_told : (bits next : ℕ) → has_row_numbers o.form ≡ true → Gathers row n o.numbers bits next
      → (bits ≡ word_of (take n (drop row (rows_of o)))) × Came o next (row + n)
  list_told bits next e g = by o.form h e
    where
      by : (f : Form) → row + n ≤ length_of f → has_row_numbers f ≡ true → (bits ≡ word_of (take n (drop row (rows_by f o)))) × CameBy f o.numbers next (row + n)
      by (All m) k e = absurd (false≢true e)
      by (None m) k e = absurd (false≢true e)
      by (Words start len claimed) k e = absurd (false≢true e)
      by (Listed len) k e = (g.is ∙ ap word_of (sym (part len row n (λ i. member i o.numbers) k)), g.parted)
      by (Runs len) k e = absurd (false≢true e)

  -- of runs
  pub runs_told_lem : (bits next : ℕ) → has_runs o.form ≡ true → bits ≡ word_of (window row n o.numbers) → Reached o.numbers next (row + n)
      → (bits ≡ word_of (take n (drop row (rows_of o)))) × Came o next (row + n)
  runs_told_lem bits next e w r = by o.form h e
    where
      by : (f : Form) → row + n ≤ length_of f → has_runs f ≡ true → (bits ≡ word_of (take n (drop row (rows_by f o)))) × CameBy f o.numbers next (row + n)
      by (All m) k e = absurd (false≢true e)
      by (None m) k e = absurd (false≢true e)
      by (Words start len claimed) k e = absurd (false≢true e)
      by (Listed len) k e = absurd (false≢true e)
      by (Runs len) k e = (w ∙ ap word_of (sym (part len row n (λ i. held i o.numbers) k)), r)

  -- and of the other forms
  pub flat_told : (bits next : ℕ) → has_row_numbers o.form ≡ false → has_runs o.form ≡ false → Flat o → bits ≡ word_of (take n (drop row (rows_of (flat o))))
      → (bits ≡ word_of (take n (drop row (rows_of o)))) × Came o next (row + n)
  flat_told bits next e d m w = (w ∙ ap (λ (l : List Bool). word_of (take n (drop row l))) (sym (flat_rows o m)), by o.form e d)
    where
      by : (f : Form) → has_row_numbers f ≡ false → has_runs f ≡ false → CameBy f o.numbers next (row + n)
      by (All m) e d = tt
      by (None m) e d = tt
      by (Words start len claimed) e d = tt
      by (Listed len) e d = absurd (false≢true (sym e))
      by (Runs len) e d = absurd (false≢true (sym d))

-- what a walk over numbers asks
pub list_came : (o : Operand) (next row : ℕ) → has_row_numbers o.form ≡ true → Came o next row → Parted row next o.numbers
list_came o next row = by o.form
  where
    by : (f : Form) → has_row_numbers f ≡ true → CameBy f o.numbers next row → Parted row next o.numbers
    by (All m) e c = absurd (false≢true e)
    by (None m) e c = absurd (false≢true e)
    by (Words start len claimed) e c = absurd (false≢true e)
    by (Listed len) e c = c
    by (Runs len) e c = absurd (false≢true e)

pub runs_came : (o : Operand) (next row : ℕ) → has_runs o.form ≡ true → Came o next row → Reached o.numbers next row
runs_came o next row = by o.form
  where
    by : (f : Form) → has_runs f ≡ true → CameBy f o.numbers next row → Reached o.numbers next row
    by (All m) e c = absurd (false≢true e)
    by (None m) e c = absurd (false≢true e)
    by (Words start len claimed) e c = absurd (false≢true e)
    by (Listed len) e c = absurd (false≢true e)
    by (Runs len) e c = c
