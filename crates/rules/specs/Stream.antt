-- What is right of a feed, and of feeds run one after the other on one output, each handed the state that the one before gave back.
-- Hold it against document 01, "Stream composer", sentence by sentence; and its refusals: "10 first for a feed; .. then 7, 11, 8".
-- Assumes nothing.
use Rattle.std.specs.Prelude.{ℕ, ◌+◌, Bool, List, [], ◌∷◌, length}
use Rattle.std.proofs.Math.Decide.{ℕ_discrete, dec_le}
use Rattle.rows.specs.Table.{Verdict}
use Rattle.rows.specs.Rows.{count}
use Rattle.rows.specs.Laid.{words_for, laid}
use Rattle.rows.specs.Table.{Line, need, first, in_order, if_fine}
use Rattle.rules.specs.Answer.{Answer}
use Rattle.rules.specs.declared.State.{State}
use Rattle.rules.specs.declared.Fed.{Fed}
use Rattle.rules.specs.Operand.{Operand, limit, rows_of, length_of, count_of}
use Rattle.rules.specs.Answer.{answered}
use Rattle.rules.specs.Route.{published}
use Rattle.rules.specs.Compose.{both_checks, result, routed}
use Rattle.rows.specs.declared.Reason.TheVariants.{LengthsDiffer, NoRoom, StateOutOfBound, StreamOverLimit}
use Rattle.rows.specs.Table.{no_operand}

-- a pair: self and the rank mask, whole or a piece of each
pub record Pair : Type 0 where
  pub self : Operand
  pub rank : Operand

abbrev pub pair_of : Operand → Operand → Pair
pair_of s r = record { self = s; rank = r }

-- the length of self, and the rows of the composition
abbrev pub long : Pair → ℕ
long p = length_of p.self.form

abbrev pub kept : Pair → List Bool
kept p = result p.self p.rank

-- ---- one feed

abbrev pub state_of : ℕ → ℕ → ℕ → State
state_of done ranks kept = record { done = record { 0 = done }; ranks = record { 0 = ranks }; kept = kept }

-- all 0 when fresh
abbrev pub fresh : State
fresh = state_of 0 0 0

-- refusal 10's bound: kept <= ranks <= done <= 1,048,576
abbrev pub bound_checks : ℕ → ℕ → ℕ → List Line
bound_checks done ranks kept =
    need (dec_le kept ranks) StateOutOfBound no_operand
    ∷ need (dec_le ranks done) StateOutOfBound no_operand
    ∷ need (dec_le done limit) StateOutOfBound no_operand
    ∷ []

abbrev pub state_checks : State → List Line
state_checks st = bound_checks st.done.0 st.ranks.0 st.kept

-- 7, the rank piece's length is not the self piece's count; 11, done plus the piece's length is over the limit; 8
abbrev pub piece_checks : ℕ → ℕ → ℕ → ℕ → List Line
piece_checks ranks set end room =
    need (ℕ_discrete ranks set) LengthsDiffer no_operand
    ∷ need (dec_le end limit) StreamOverLimit no_operand
    ∷ need (dec_le (words_for end) room) NoRoom no_operand
    ∷ []

-- 10; the first operand's, then the second's; 7, 11, 8
abbrev pub feed_checks : State → Pair → ℕ → List Line
feed_checks st p room =
    in_order
    (state_checks st
    ∷ both_checks p.self p.rank
    ∷ piece_checks (length_of p.rank.form) (count_of p.self) (st.done.0 + long p) room
    ∷ [])

-- the state after the pair: its rows, their set rows and the result's are added
abbrev pub moved : State → Pair → State
moved st p = state_of (st.done.0 + length (rows_of p.self)) (st.ranks.0 + count (rows_of p.self)) (st.kept + count (kept p))

-- by the verdict: the answer, the state handed back, and the output as it is left, its bits from done on and no other written
abbrev pub fed_by : Verdict → State → Pair → Fed State
fed_by v st p = record { answer = answered v (kept p) (routed published p.self p.rank); state = if_fine v (moved st p) st }

abbrev pub out_by : Verdict → State → Pair → List ℕ → List ℕ
out_by v st p out = if_fine v (laid st.done.0 (kept p) out) out

unfoldable pub judged : State → Pair → ℕ → Verdict
judged st p room = first (feed_checks st p room)

abbrev pub fed : State → Pair → List ℕ → Fed State
fed st p out = fed_by (judged st p (length out)) st p

abbrev pub fed_out : State → Pair → List ℕ → List ℕ
fed_out st p out = out_by (judged st p (length out)) st p out

-- ---- feeds one after the other

pub record Run : Type 0 where
  pub answers : List Answer
  pub state : State
  pub out : List ℕ

abbrev pub after : Answer → Run → Run
after a t = record { answers = a ∷ t.answers; state = t.state; out = t.out }

abbrev pub run : State → List ℕ → List Pair → Run
run st out [] = record { answers = []; state = st; out = out }
run st out (p ∷ ps) = after (fed st p out).answer (run (fed st p out).state (fed_out st p out) ps)
