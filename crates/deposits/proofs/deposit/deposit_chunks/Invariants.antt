-- `deposits::deposit::deposit_chunks` meets its contract.
-- The invariant: the rows before `done` are laid, `rank` is the first rank and their count in self, and the ranks may be asked for from it on. Assumes nothing.
use Rattle.std.proofs.Common.{◌≡◌, ◌≤◌}
use Rattle.rows.specs.Rows.{count}
use Rattle.rows.specs.Words.{view}
use Rattle.rows.specs.Lists.{tab}
use Rattle.deposits.proofs.DepositLaws.{Deposited}
use Rattle.deposits.proofs.deposit.deposit_chunks.Given as goal

abbrev pub invariant-loop-done : goal.invariant-loop-done
invariant-loop-done g l =
    let r = g.R.Ranks in record {
      within : l.done ≤ l.len;
      deposited : Deposited l.start l.at l.fn.first.0 l.words l.fn.out
          (tab l.fn.first.0 (count (view l.start l.len l.words)) (r.has l.fn.ranks)) l.done l.rank.0 l.out;
      reached : r.reaches l.ranks l.rank.0;
      same : r.has l.ranks ≡ r.has l.fn.ranks;
    }
