-- `rowwise::write::write_all` meets its contract: the rows laid over words whose last was cleared are the rows written.
-- By the law of rows laid from bit 0 on. Assumes nothing.
use Rattle.std.proofs.Common.{ℕ, ◌^◌, [], ap, ◌∙◌, rules}
use Rattle.rows.specs.Laid.{laid, last_cleared}
use Rattle.rows.proofs.LaidLaws.{below_all}
use Rattle.rows.proofs.WrittenLaws.{laid_written}
use Rattle.rules.specs.Operand.{lent, length_of}
use Rattle.rules.specs.SetOps.{combination}
use Rattle.rowwise.proofs.WriteLaws.{result_length}
use Rattle.rowwise.proofs.write.write_all.Goals as goal

pub returns : goal.returns
returns g c =
    let a = c.args in
    let on = g.O.RowOperation.on_rows in
    let one = lent a.a a.awords.now [] in
    let two = lent a.b a.bwords.now [] in
    let rows = combination on one two in
    let small = below_all (2 ^ 64) a.out.now (λ i. search rules) in
    let cleared = c.clear_last.ensures ∙ ap (λ (n : ℕ). last_cleared n a.out.now) c.length_of-len.ensures in (
      c.write_rows.ensures.0,
      c.write_rows.ensures.1
          ∙ ap (laid 0 rows) cleared
          ∙ laid_written (length_of a.a) rows a.out.now small (result_length on one two c.requires.0) c.requires.1,
    )
