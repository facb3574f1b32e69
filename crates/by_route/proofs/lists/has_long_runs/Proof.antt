-- `by_route::lists::has_long_runs` meets its contract.
-- By the form: of runs, the count is held against how many they are. Assumes nothing.
use Prim.Native.Nat.{◌/◌}
use mathlib.Core.Path.{sym, ap, ◌∙◌}
use mathlib.Core.Bool.{Bool, not, ◌&&◌}
use lib.Dec.{eqb}
use lib.ListN.{length}
use borrow.Author.Rules.{rules}
use Rattle.by_route.proofs.lists.has_long_runs.Statement.{statement}
use Rattle.by_route.proofs.lists.has_long_runs.Tie as tie

abbrev start : tie.After-has_runs → tie.Start
start c = c.before.before

abbrev more : tie.After-has_runs → Bool
more c = not (eqb (start c).args.count (length (start c).args.numbers.now / 2))

has-runs-requires : tie.Need-has_runs-requires
has-runs-requires c κs = search rules

returns : tie.Need-returns-then-has_runs
returns c = sym (ap (λ (b : Bool). b && more c.before) (sym c.before.has_runs.ensures ∙ c.if-has_runs.true))

returns-2 : tie.Need-returns
returns-2 c = sym (ap (λ (b : Bool). b && more c.before) (sym c.before.has_runs.ensures ∙ c.if-has_runs.false))

pub has_long_runs_spec : {M : Type 1} → statement M
has_long_runs_spec = tie.close (tie.spec has-runs-requires returns returns-2)
