-- `in_runs::inner::lay_ranks` meets its contract: what is laid is so long as the places are apart.
-- By the contract of `lay_run`. Assumes nothing.
use Prim.Native.Nat.{ℕ, ◌+◌, ◌-◌}
use mathlib.Core.Path.{◌≡◌, refl, ap₂, ◌∙◌}
use mathlib.Core.Bool.{true, false}
use mathlib.Core.List.{◌++◌}
use native.Mathlib.Omega.{arith}
use lib.ListN.{replicate}
use borrow.Author.Rules.{rules}
use Rattle.rows.specs.Laid.{laid}
use Rattle.in_runs.proofs.inner.lay_ranks.Statement.{statement}
use Rattle.in_runs.proofs.inner.lay_ranks.Tie as tie

-- ---- the places, each from the one after it

abbrev start : tie.After-struct_known-1 → tie.Start
start c = c.before.before

abbrev back : tie.After-slice_known-2-1 → tie.After-lay_run
back c = c.before.before

-- ---- the answers

add-first : tie.Need-overflow_add-first
add-first c = omega (arith, (start c).requires.1)

add-past : tie.Need-overflow_add-past
add-past c = omega (arith, (start c).requires.1)

lay-run-requires : tie.Need-lay_run-requires
lay-run-requires c κs = (omega arith, omega arith, (start c.before).requires)

same_length : tie.Need-shape_of-out
same_length c = search rules

returns : tie.Need-returns
returns c =
    let a = (start (back c).before.before).args in
    let r : ℕ = a.rank.0 in
    let unset : r + a.unset - r ≡ a.unset = omega arith in
    let set : r + a.unset + a.set - (r + a.unset) ≡ a.set = omega arith in
    (refl, (back c).lay_run.ensures ∙ ap₂ (λ (m n : ℕ). laid (a.at + r) (replicate m false ++ replicate n true) a.out.now) unset set)

pub lay_ranks_spec : {M : Type 1} → statement M
lay_ranks_spec = tie.close (tie.spec add-first add-past lay-run-requires same_length returns)
