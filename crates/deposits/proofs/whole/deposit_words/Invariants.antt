-- `deposits::whole::deposit_words` meets its contract.
-- The invariant: the words before `i` are stored, `rank` is their count in self, and the ranks may be asked for from it on. Assumes nothing.
use Rattle.std.proofs.Common.{◌≡◌, ◌*◌}
use Rattle.rows.specs.Rows.{count}
use Rattle.rows.specs.Words.{view}
use Rattle.rows.specs.Lists.{tab}
use Rattle.deposits.proofs.WholeLaws.{Stored}
use Rattle.deposits.proofs.whole.deposit_words.Given as goal

abbrev pub invariant-loop-i : goal.invariant-loop-i
invariant-loop-i g l =
    let r = g.R.Ranks in record {
      stored : Stored l.start l.to l.words l.fn.out (tab 0 (count (view l.start (l.n * 64) l.words)) (r.has l.fn.ranks)) l.i l.rank.0 l.out;
      reached : r.reaches l.ranks l.rank.0;
      same : r.has l.ranks ≡ r.has l.fn.ranks;
    }
