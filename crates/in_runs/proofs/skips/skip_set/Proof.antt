-- `in_runs::skips::skip_set` meets its contract: an entry for each row, or none. By what the test on the form tells.
-- Assumes nothing.
use mathlib.Core.Path.{sym, ap, ◌∙◌}
use mathlib.Core.Bool.{Bool}
use native.Mathlib.Omega.{arith}
use borrow.Author.Rules.{rules}
use Rattle.in_runs.specs.Behind.{behind}
use Rattle.in_runs.proofs.skips.skip_set.Statement.{statement}
use Rattle.in_runs.proofs.skips.skip_set.Tie as tie

abbrev start : tie.After-has_row_numbers → tie.Start
start c = c.before

has-row-numbers-requires : tie.Need-has_row_numbers-requires
has-row-numbers-requires c κs = search rules

add-result : tie.Need-overflow_add-result
add-result c =
    let listed = sym c.before.has_row_numbers.ensures ∙ c.if-has_row_numbers.true in
    omega (arith, (start c.before).requires listed)

returns : tie.Need-returns-then-has_row_numbers
returns c =
    let a = (start c.before).args in
    ap (λ (b : Bool). behind b a.next a.n) (sym c.if-has_row_numbers.true ∙ c.before.has_row_numbers.ensures)

returns-2 : tie.Need-returns
returns-2 c =
    let a = (start c.before).args in
    ap (λ (b : Bool). behind b a.next a.n) (sym c.if-has_row_numbers.false ∙ c.before.has_row_numbers.ensures)

pub skip_set_spec : {M : Type 1} → statement M
skip_set_spec = tie.close (tie.spec has-row-numbers-requires add-result returns returns-2)
