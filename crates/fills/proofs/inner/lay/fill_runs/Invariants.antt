-- `fills::inner::lay::fill_runs` meets its contract.
-- The runs from number i on are left to set in what was cleared.
use Rattle.fills.proofs.FillLaws.{Setting}
use Rattle.fills.proofs.inner.lay.fill_runs.Given as goal

abbrev pub invariant-loop-i : goal.invariant-loop-i
invariant-loop-i l = Setting l.runs l.len l.at l.i l.initial.out l.out
