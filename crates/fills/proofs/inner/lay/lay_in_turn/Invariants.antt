-- `fills::inner::lay::lay_in_turn` meets its contract.
-- The rows before `done` are laid, and the runs from number i on are left.
use Rattle.fills.proofs.LayLaws.{Laying}
use Rattle.fills.proofs.inner.lay.lay_in_turn.Given as goal

abbrev pub invariant-loop-i : goal.invariant-loop-i
invariant-loop-i l = Laying l.runs l.len l.at l.done l.i l.initial.out l.out
