-- `outside::spans::Numbers::stand` meets its contract.
-- The invariant: the walk has come to the row. Assumes nothing.
use Rattle.outside.specs.Spans.{spans, Come}
use Rattle.outside.proofs.spans.Numbers.stand.Given as goal

abbrev pub invariant-loop-i : goal.invariant-loop-i
invariant-loop-i l = Come (spans l.self) l.len l.i l.row
