-- A feed's checks after its state's and its operands': 11, 17 and 8. No promise to a user rests on it.
-- Assumes nothing.
use Rattle.std.specs.Prelude.{ℕ, ◌+◌, List, [], ◌∷◌}
use Rattle.rows.specs.Table.{Line, in_order}
use Rattle.rules.specs.declared.RecoveryState.{RecoveryState}
use Rattle.rules.specs.Recover.{inside_checks, room_checks}
use Rattle.rules.specs.RecoverStream.{Masks, long, set, limit_checks}

abbrev pub piece_checks : RecoveryState → Masks → ℕ → List Line
piece_checks st m room =
    in_order (limit_checks (st.done.0 + long m) ∷ inside_checks m.self m.kept ∷ room_checks (st.ranks.0 + set m) room ∷ [])
