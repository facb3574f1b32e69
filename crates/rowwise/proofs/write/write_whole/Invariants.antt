-- `rowwise::write::write_whole` meets its contract.
-- The invariant: the words before `i` are laid, and `count` is the number of their set rows. Assumes nothing.
use Rattle.std.proofs.Common.{◌*◌, ◌^◌}
use Rattle.rows.specs.Word.{both}
use Rattle.rows.specs.Words.{Below, view}
use Rattle.rowwise.proofs.WriteLaws.{Made}
use Rattle.rowwise.proofs.write.write_whole.Given as goal

abbrev pub invariant-loop-i : goal.invariant-loop-i
invariant-loop-i g l = record {
  below : Below (2 ^ 64) l.out;
  made : Made (both g.O.RowOperation.on_rows (view l.astart (l.n * 64) l.awords) (view l.bstart (l.n * 64) l.bwords)) l.fn.out (l.i * 64) l.count l.out;
}
