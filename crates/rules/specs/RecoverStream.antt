-- What is right of a feed of recovery, and of feeds run one after the other on one output, each handed the state that the one before gave back.
-- Hold it against document 02, P6: "a feed lends matching pieces of both masks, writes the bits from the state's ranks on, one for each of the
-- piece's set rows, needs words for ranks plus that many bits, and adds to done, ranks and kept as before"; "17 with the first row outside self,
-- counted in the piece for a feed .., after 7 and 11 and before 8"; and document 01's refusals 10 and 11.
-- Assumes nothing.
use Rattle.std.specs.Prelude.{ℕ, ◌+◌, Bool, List, [], ◌∷◌, length}
use Rattle.std.proofs.Math.Decide.{dec_le}
use Rattle.rows.specs.Table.{Verdict}
use Rattle.rows.specs.Rows.{count}
use Rattle.rows.specs.Laid.{laid}
use Rattle.rows.specs.Table.{Line, need, first, in_order, if_fine}
use Rattle.rules.specs.Answer.{Answer}
use Rattle.rules.specs.declared.RecoveryState.{RecoveryState}
use Rattle.rules.specs.declared.Fed.{Fed}
use Rattle.rules.specs.Operand.{Operand, limit, rows_of, length_of, count_of}
use Rattle.rules.specs.Answer.{answered, no_route}
use Rattle.rules.specs.Compose.{both_checks}
use Rattle.rules.specs.Recover.{lengths_checks, inside_checks, room_checks, recovery}
use Rattle.rules.specs.Stream.{bound_checks}
use Rattle.rows.specs.declared.Reason.TheVariants.{StreamOverLimit}
use Rattle.rows.specs.Table.{no_operand}

-- two masks of rows: self and the second mask, whole or a piece of each
pub record Masks : Type 0 where
  pub self : Operand
  pub kept : Operand

abbrev pub masks_of : Operand → Operand → Masks
masks_of s k = record { self = s; kept = k }

-- how many rows they have, how many of them self has set, and the ranks that are recovered
abbrev pub long : Masks → ℕ
long m = length_of m.self.form

abbrev pub set : Masks → ℕ
set m = count_of m.self

abbrev pub ranks : Masks → List Bool
ranks m = recovery m.self m.kept

-- ---- one feed

abbrev pub state_of : ℕ → ℕ → ℕ → RecoveryState
state_of done ranks kept = record { done = record { 0 = done }; ranks = record { 0 = ranks }; kept = kept }

-- all 0 when fresh
abbrev pub fresh : RecoveryState
fresh = state_of 0 0 0

-- refusal 10's bound, of these three numbers too
abbrev pub state_checks : RecoveryState → List Line
state_checks st = bound_checks st.done.0 st.ranks.0 st.kept

-- 11, done plus the piece's length is over the limit
abbrev pub limit_checks : ℕ → List Line
limit_checks end = need (dec_le end limit) StreamOverLimit no_operand ∷ []

-- 10; the first operand's, then the second's; 7, 11, 17, 8
abbrev pub feed_checks : RecoveryState → Masks → ℕ → List Line
feed_checks st m room =
    in_order
    (state_checks st
    ∷ both_checks m.self m.kept
    ∷ lengths_checks m.self m.kept
    ∷ limit_checks (st.done.0 + long m)
    ∷ inside_checks m.self m.kept
    ∷ room_checks (st.ranks.0 + set m) room
    ∷ [])

-- the state after the masks: their rows, self's set rows and the result's are added
abbrev pub moved : RecoveryState → Masks → RecoveryState
moved st m = state_of (st.done.0 + length (rows_of m.self)) (st.ranks.0 + count (rows_of m.self)) (st.kept + count (ranks m))

-- by the verdict: the answer, the state handed back, and the output as it is left, its bits from ranks on and no other written
abbrev pub fed_by : Verdict → RecoveryState → Masks → Fed RecoveryState
fed_by v st m = record { answer = answered v (ranks m) no_route; state = if_fine v (moved st m) st }

abbrev pub out_by : Verdict → RecoveryState → Masks → List ℕ → List ℕ
out_by v st m out = if_fine v (laid st.ranks.0 (ranks m) out) out

unfoldable pub judged : RecoveryState → Masks → ℕ → Verdict
judged st m room = first (feed_checks st m room)

abbrev pub fed : RecoveryState → Masks → List ℕ → Fed RecoveryState
fed st m out = fed_by (judged st m (length out)) st m

abbrev pub fed_out : RecoveryState → Masks → List ℕ → List ℕ
fed_out st m out = out_by (judged st m (length out)) st m out

-- ---- feeds one after the other

pub record Run : Type 0 where
  pub answers : List Answer
  pub state : RecoveryState
  pub out : List ℕ

abbrev pub after : Answer → Run → Run
after a t = record { answers = a ∷ t.answers; state = t.state; out = t.out }

abbrev pub run : RecoveryState → List ℕ → List Masks → Run
run st out [] = record { answers = []; state = st; out = out }
run st out (m ∷ ms) = after (fed st m out).answer (run (fed st m out).state (fed_out st m out) ms)
