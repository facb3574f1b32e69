-- `laid::inner::copy_bits` meets its contract.
-- The bits before `done` are laid, and `sum` is their count.
use Rattle.laid.proofs.CopyLaws.{Copying}
use Rattle.laid.proofs.inner.copy_bits.Given as goal

abbrev pub invariant-loop-done : goal.invariant-loop-done
invariant-loop-done l = Copying l.words l.from l.n l.at l.done l.sum l.initial.out l.out
