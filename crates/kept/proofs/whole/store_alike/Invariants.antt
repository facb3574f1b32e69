-- `kept::whole::store_alike`: k words are stored, what the stretch has less what is left is their count, and so many ranks are of the stretch.
use Rattle.std.proofs.Common.{◌+◌, ◌-◌, ◌*◌, ◌≤◌, replicate}
use Rattle.deposits.proofs.WholeLaws.{Stored}
use Rattle.kept.proofs.whole.store_alike.Given as goal

abbrev pub invariant-loop-k : goal.invariant-loop-k
invariant-loop-k l = record {
  within : l.left ≤ l.alike.most;
  stored : Stored (l.start + l.first * 64) (l.to + l.first) l.words l.fn.out (replicate l.alike.most l.alike.set) l.k (l.alike.most - l.left) l.out;
}
