-- `mask::list::list_flat` meets its contract.
-- The invariant: the set rows of the chunks before `i` are written, and k is their number. Assumes nothing.
use Rattle.std.proofs.Common.{[], ◌≡◌, ◌*◌, take}
use Rattle.rows.specs.Rows.{count, splice}
use Rattle.rows.specs.Lists.{set_rows}
use Rattle.rules.specs.Operand.{lent, rows_of}
use Rattle.mask.proofs.list.list_flat.Given as goal

abbrev pub invariant-loop-i : goal.invariant-loop-i
invariant-loop-i l = record {
  number : l.k ≡ count (take (l.i * 64) (rows_of (lent l.form l.words [])));
  written : l.out ≡ splice 0 l.fn.out (set_rows 0 (take (l.i * 64) (rows_of (lent l.form l.words []))));
}
