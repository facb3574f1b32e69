-- `outside::words::first_in_whole` meets its contract.
-- The invariant: of the words passed no row is outside. Assumes nothing.
use Rattle.std.proofs.Common.{◌*◌}
use Rattle.rows.specs.Rows.{outside}
use Rattle.rows.specs.Words.{view}
use Rattle.outside.specs.First.{has, Clear}
use Rattle.outside.proofs.words.first_in_whole.Given as goal

abbrev pub invariant-loop-i : goal.invariant-loop-i
invariant-loop-i l = Clear (has (outside (view l.sstart l.len l.swords) (view l.kstart l.len l.kwords))) 0 (l.i * 64)
