-- A route's number is small. By the cases of a route.
-- Assumes nothing.
use Prim.Native.Nat.{◌≤◌}
use native.Mathlib.Omega.{arith}
use Rattle.rows.specs.declared.Way.TheVariants.{Network, Loop}
use Rattle.rules.specs.declared.Route.{Route}
use Rattle.rules.specs.declared.Route.TheVariants.{RankMask, SelfMask, NoRows, EntryAtRank, EntryIfSet, MaskDriven, Gathered, Read}
use Rattle.rules.specs.Route.{number_of}

pub route_small : (r : Route) → number_of r ≤ 10
route_small RankMask = omega arith
route_small SelfMask = omega arith
route_small NoRows = omega arith
route_small EntryAtRank = omega arith
route_small EntryIfSet = omega arith
route_small MaskDriven = omega arith
route_small (Gathered Network) = omega arith
route_small (Gathered Loop) = omega arith
route_small (Read Network) = omega arith
route_small (Read Loop) = omega arith
