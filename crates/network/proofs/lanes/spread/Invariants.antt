-- `network::lanes::spread` meets its contract.
-- The stages undone so far, with those still to undo, are all of them.
use Rattle.std.proofs.Common.{◌≡◌}
use Rattle.network.specs.Lanes.{undo_from}
use Rattle.network.proofs.lanes.spread.Given as goal

abbrev pub invariant-loop-i : goal.invariant-loop-i
invariant-loop-i l = undo_from 64 l.landed l.i l.result ≡ undo_from 64 l.landed 3 l.low
