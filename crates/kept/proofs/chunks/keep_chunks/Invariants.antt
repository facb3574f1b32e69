-- `kept::chunks::keep_chunks`: the rows before `row` are laid, the walk over the runs has come to the rank after them, and `held` ranks before it are
-- kept.
use Rattle.std.proofs.Common.{◌-◌}
use Rattle.kept.proofs.KeepLaws.{Keeping}
use Rattle.kept.proofs.chunks.keep_chunks.Given as goal

abbrev pub invariant-loop-row : goal.invariant-loop-row
invariant-loop-row l = Keeping l.start l.len l.at l.fn.from.rank.0 l.words l.ranks l.fn.out l.row l.rank.0 l.next l.held l.out

abbrev pub decreases-loop-row : goal.decreases-loop-row
decreases-loop-row l = l.len - l.row
