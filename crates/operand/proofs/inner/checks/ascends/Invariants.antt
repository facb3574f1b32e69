-- The invariant: the list climbs just if what was passed was fine and what is left climbs.
use mathlib.Core.Path.{◌≡◌}
use mathlib.Core.Bool.{◌&&◌}
use Prim.Native.Nat.{◌-◌, ◌≤◌}
use lib.ListN.{drop}
use Rattle.rules.specs.Operand.{climbs}
use Rattle.operand.proofs.inner.checks.ascends.Given as goal

abbrev pub invariant-loop-i : goal.invariant-loop-i
invariant-loop-i l = (1 ≤ l.i) × (climbs l.rows ≡ (l.fine && climbs (drop (l.i - 1) l.rows)))
