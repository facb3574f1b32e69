-- The two operands of a composition: what is known of them where their checks are met, and the length and count of the result.
-- By the laws of tables and of `compose`. Assumes nothing.
use mathlib.Core.Path.{◌≡◌, sym, ◌∙◌}
use mathlib.Core.Logic.{◌↔◌}
use lib.ListN.{length}
use Rattle.rows.specs.Rows.{count}
use Rattle.rows.specs.Table.{Met}
use Rattle.rows.proofs.TableLaws.{parts_met, none_met}
use Rattle.rows.proofs.RowLaws.{compose_length, compose_count}
use Rattle.rules.specs.Operand.{Operand, rows_of, length_of, count_of, Accepted}
use Rattle.rules.specs.Compose.{Paired, both_checks, result}
use Rattle.rules.proofs.OperandLaws.{accepted_as, accepted_length, accepted_count}
use Rattle.rows.specs.Table.{operand_1, operand_2}

module _ (s r : Operand) where
  pub both_met : Met (both_checks s r) ↔ (Accepted s × Accepted r)
  both_met = (to, from)
    where
      to : Met (both_checks s r) → Accepted s × Accepted r
      to m =
          let p = (parts_met _ _).0 m in
          let q = (parts_met _ _).0 p.1 in
          ((accepted_as operand_1 s).0 p.0, (accepted_as operand_2 r).0 q.0)

      from : Accepted s × Accepted r → Met (both_checks s r)
      from t = (parts_met _ _).1 ((accepted_as operand_1 s).1 t.0, (parts_met _ _).1 ((accepted_as operand_2 r).1 t.1, none_met))

  -- the rank mask has a row for each set row of self
  pub ranks_length : Paired s r → length (rows_of r) ≡ count (rows_of s)
  ranks_length p = accepted_length r p.rank ∙ p.ranks ∙ sym (accepted_count s p.self)

  -- the result is as long as self
  pub result_length : Paired s r → length (result s r) ≡ length_of s.form
  result_length p = compose_length (rows_of s) (rows_of r) ∙ accepted_length s p.self

  -- and has as many set rows as the rank mask
  pub result_count : Paired s r → count (result s r) ≡ count_of r
  result_count p = compose_count (rows_of s) (rows_of r) (ranks_length p) ∙ accepted_count r p.rank
