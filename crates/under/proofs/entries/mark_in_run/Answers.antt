-- `under::entries::mark_in_run`: one more rank is taken.
-- By the law of one more rank.
use Rattle.std.proofs.Common.{arith}
use Rattle.under.proofs.EntryLaws.{taken_next}
use Rattle.under.proofs.entries.mark_in_run.Goals as goal

pub loop-i-preserved : goal.loop-i-preserved
loop-i-preserved c = taken_next _ _ _ _ _ _ _ _ _ c.loop-i.invariant (omega arith) _ (omega arith) c.mark_row.ensures
