-- `rowwise::inner::answer` meets its contract: the count that the loop gives is the count of the rows that it wrote.
-- By the loop's promise and the result's length. Assumes nothing.
use Prim.Native.Nat.{ℕ}
use mathlib.Core.Path.{sym, ap₂, ◌∙◌}
use mathlib.Core.List.{[]}
use native.Mathlib.Omega.{arith}
use Rattle.rows.proofs.RowLaws.{count_le_length}
use Rattle.rules.specs.Operand.{lent}
use Rattle.rules.specs.Answer.{accepted, no_route}
use Rattle.rules.specs.SetOps.{combination, row_of}
use Rattle.operand.proofs.FlatLaws.{flat_limit}
use Rattle.rowwise.proofs.WriteLaws.{result_length}
use Rattle.rowwise.proofs.inner.answer.Goals as goal

pub accepted-requires : goal.accepted-requires
accepted-requires c =
    let a = c.args in
    let one = lent a.a a.awords.now [] in
    let two = lent a.b a.bwords.now [] in
    let rows = combination (row_of a.op) one two in
    let long = result_length (row_of a.op) one two c.requires.0 in
    let limited = flat_limit one c.requires.0.0 in
    (omega (arith, c.write-count.ensures.0, count_le_length rows, long, limited), omega (arith, c.length_of.ensures, limited))

pub returns : goal.returns
returns c =
    let a = c.args in
    let long = result_length (row_of a.op) (lent a.a a.awords.now []) (lent a.b a.bwords.now []) c.requires.0 in (
      c.accepted.ensures ∙ ap₂ (λ (n len : ℕ). accepted n no_route len) c.write-count.ensures.0 (c.length_of.ensures ∙ sym long),
      c.write-count.ensures.1,
    )
