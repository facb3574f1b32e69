-- What is right of a call of the C boundary: what it tells, cell by cell, and what it leaves of the memory that is lent to it. Each call
-- tells what the entry point's own definition says.
-- Assumes nothing.
use Rattle.std.specs.Prelude.{ℕ, Bool, cond, ◌&&◌, ◌||◌, List, [], ◌∷◌, ◌++◌, leb, eqb, Float, length, drop, Option, Some, None, Result}
use Rattle.rows.specs.declared.Refusal.{Refusal}
use Rattle.rows.specs.Table.{number_told, operand_told, row_told}
use Rattle.rows.specs.WordAnswer.{deposited, selected, rank_read, value_told}
use Rattle.rules.specs.declared.Form.{Form}
use Rattle.rules.specs.declared.Form.TheVariants.{All, None as NoRows, Words, List as Listed, Runs}
use Rattle.rules.specs.declared.State.{State}
use Rattle.rules.specs.declared.Fed.{Fed}
use Rattle.rules.specs.declared.RecoveryState.{RecoveryState}
use Rattle.rules.specs.declared.Written.{Written as InRuns}
use Rattle.rules.specs.Operand.{Operand, lent}
use Rattle.rules.specs.Answer.{Answer, no_density, summary_told}
use Rattle.rules.specs.Convert.{to_words, to_words_out, to_list, to_list_out, to_runs, to_runs_out, answer_of, runs_told as runs_number}
use Rattle.rules.specs.SetOps.{and_not, combined, combined_out, negated, negated_out}
use Rattle.rules.specs.Route.{published, route_number}
use Rattle.rules.specs.Compose.{composed, composed_out}
use Rattle.rules.specs.Stream.{pair_of, fed, fed_out}
use Rattle.rules.specs.Recover.{recovered, recovered_out}
use Rattle.rules.specs.RecoverStream.{masks_of, fed as recoveryFed, fed_out as recoveryFedOut}
use Rattle.lines.specs.declared.Written.{Written}
use Rattle.lines.specs.Text.{written_for, text_out}
use Rattle.cells.specs.declared.Told.{Told}

-- ---- the answer, into `ans` and `den`

pub record AnswerCells : Type 0 where
  pub ans : List ℕ
  pub den : List Float

abbrev pub answer_cells : List ℕ → List Float → AnswerCells
answer_cells ans den = record { ans = ans; den = den }

-- 0 refusal, 1 operand, 2 count, 3 route (of a composition, a feed or the program), 4 word or position, 5 done, 6 ranks, 7 kept, 8 and 9 are 0,
-- 10 the first row outside self that 17 is about, 11 to 14 are 0, 15 a number
abbrev pub cells : Told → List ℕ
cells t =
    t.refusal
    ∷ t.operand
    ∷ t.count
    ∷ t.route
    ∷ t.word
    ∷ t.done
    ∷ t.ranks
    ∷ t.kept
    ∷ 0
    ∷ 0
    ∷ t.outside
    ∷ 0
    ∷ 0
    ∷ 0
    ∷ 0
    ∷ t.number
    ∷ []

-- `ans` has 16 cells or more, and `den` 1 or more
unfoldable pub enough : ℕ → ℕ → Bool
enough nans nden = leb 16 nans && leb 1 nden

abbrev pub ready : AnswerCells → Bool
ready l = enough (length l.ans) (length l.den)

-- all 16 cells are written, and the density; cells past the 16th, and `den` past its first, stay
abbrev pub over : Told → AnswerCells → AnswerCells
over t l = answer_cells (cells t ++ drop 16 l.ans) (t.density ∷ drop 1 l.den)

-- a call with no output: where `ans` or `den` is too short it does nothing at all
abbrev pub tells : Told → AnswerCells → AnswerCells
tells t l = cond (ready l) (over t l) l

-- ---- a call with an output

pub record Memory : Type 0 where
  pub out : List ℕ
  pub answer : AnswerCells

abbrev pub memory : List ℕ → List ℕ → List Float → Memory
memory out ans den = record { out = out; answer = answer_cells ans den }

-- what the call tells, and the output as it leaves it
pub record Done : Type 0 where
  pub told : Told
  pub out : List ℕ

abbrev pub ended : Told → List ℕ → Done
ended t out = record { told = t; out = out }

abbrev pub does : Done → Memory → Memory
does d m = cond (ready m.answer) (record { out = d.out; answer = over d.told m.answer }) m

-- ---- what is told: a cell that a call does not speak of is 0

-- a word or a position
abbrev pub word_told : Result ℕ Refusal → Told
word_told r =
    record {
      refusal = number_told r;
      operand = operand_told r;
      count = 0;
      route = 0;
      word = value_told r;
      done = 0;
      ranks = 0;
      kept = 0;
      outside = 0;
      number = 0;
      density = no_density;
    }

-- an answer with the row outside self that 17 has, a state's three numbers, and how many bytes or runs were written
abbrev pub state_told : Answer → ℕ → ℕ → ℕ → ℕ → Told
state_told a done ranks kept number =
    record {
      refusal = number_told a;
      operand = operand_told a;
      count = (summary_told a).count;
      route = route_number (summary_told a).route;
      word = 0;
      done = done;
      ranks = ranks;
      kept = kept;
      outside = row_told a;
      number = number;
      density = (summary_told a).density;
    }

abbrev pub answer_told : Answer → Told
answer_told a = state_told a 0 0 0 0

abbrev pub fed_told : Fed State → Told
fed_told f = state_told f.answer f.state.done.0 f.state.ranks.0 f.state.kept 0

abbrev pub recovery_fed_told : Fed RecoveryState → Told
recovery_fed_told r = state_told r.answer r.state.done.0 r.state.ranks.0 r.state.kept 0

-- the answer that the lines tell, and how many bytes they are
abbrev pub written_told : Written → Told
written_told w = state_told w.answer 0 0 0 w.len

-- the answer of the writer of runs, and how many they are
abbrev pub runs_told : Result InRuns Refusal → Told
runs_told w = state_told (answer_of w) 0 0 0 (runs_number w)

-- ---- an operand's form: 0 all, 1 none, 2 words, 3 list, 4 runs; any other number is bad

-- start and claimed are of words alone
unfoldable pub form_of : ℕ → ℕ → ℕ → ℕ → Option Form
form_of kind length start claimed =
    cond (eqb kind 0) (Some (All length))
    (cond (eqb kind 1) (Some (NoRows length))
    (cond (eqb kind 2) (Some (Words start length claimed))
    (cond (eqb kind 3) (Some (Listed length))
    (cond (eqb kind 4) (Some (Runs length)) None))))

-- a bad form: 99 in cell 0, 0 in all others, density 0.0. It is no refusal of a table
abbrev pub bad_told : Told
bad_told =
    record {
      refusal = 99;
      operand = 0;
      count = 0;
      route = 0;
      word = 0;
      done = 0;
      ranks = 0;
      kept = 0;
      outside = 0;
      number = 0;
      density = no_density;
    }

-- an operand as it comes in: a good form with what is lent beside it, and none where the form is bad
abbrev pub given : Option Form → List ℕ → List ℕ → Option Operand
given (Some f) ws es = Some (lent f ws es)
given None ws es = None

-- the call of the operand, or a bad one told, and no other memory changes
abbrev pub if_good : Option Operand → (Operand → Done) → List ℕ → Done
if_good (Some o) call out = call o
if_good None call out = ended bad_told out

-- the same of two operands, also where the call ignores one
abbrev pub if_both : Option Operand → Option Operand → (Operand → Operand → Done) → List ℕ → Done
if_both a b call out = if_good a (λ x. if_good b (λ y. call x y) out) out

-- ---- each call

-- by any way
abbrev pub deposit_told : ℕ → ℕ → ℕ → Told
deposit_told source mask claimed = word_told (deposited source mask claimed)

abbrev pub select_told : ℕ → ℕ → Told
select_told word rank = word_told (selected word rank)

abbrev pub read_told : List ℕ → ℕ → ℕ → Told
read_told words start offset = word_told (rank_read words start offset)

abbrev pub to_words_done : Option Operand → List ℕ → Done
to_words_done a out = if_good a (λ x. ended (answer_told (to_words x out)) (to_words_out x out)) out

abbrev pub to_list_done : Option Operand → List ℕ → Done
to_list_done a out = if_good a (λ x. ended (answer_told (to_list x out)) (to_list_out x out)) out

abbrev pub to_runs_done : Option Operand → List ℕ → Done
to_runs_done a out = if_good a (λ x. ended (runs_told (to_runs x out)) (to_runs_out x out)) out

abbrev pub compose_done : Option Operand → Option Operand → List ℕ → Done
compose_done a b out = if_both a b (λ x y. ended (answer_told (composed published x y out)) (composed_out x y out)) out

-- 0 and, 1 or, 2 and-not, else not, which ignores its second operand
unfoldable pub set_done : ℕ → Operand → Operand → List ℕ → Done
set_done which x y out =
    cond (eqb which 0) (ended (answer_told (combined ◌&&◌ x y out)) (combined_out ◌&&◌ x y out))
    (cond (eqb which 1) (ended (answer_told (combined ◌||◌ x y out)) (combined_out ◌||◌ x y out))
    (cond (eqb which 2) (ended (answer_told (combined and_not x y out)) (combined_out and_not x y out))
    (ended (answer_told (negated x out)) (negated_out x out))))

abbrev pub sets_done : ℕ → Option Operand → Option Operand → List ℕ → Done
sets_done which a b out = if_both a b (λ x y. set_done which x y out) out

-- the state after it, as given where it is refused
abbrev pub feed_done : State → Option Operand → Option Operand → List ℕ → Done
feed_done st a b out = if_both a b (λ x y. ended (fed_told (fed st (pair_of x y) out)) (fed_out st (pair_of x y) out)) out

abbrev pub recover_done : Option Operand → Option Operand → List ℕ → Done
recover_done a b out = if_both a b (λ x y. ended (answer_told (recovered x y out)) (recovered_out x y out)) out

-- the state after it, as given where it is refused
abbrev pub recover_feed_done : RecoveryState → Option Operand → Option Operand → List ℕ → Done
recover_feed_done st a b out =
    if_both a b (λ x y. ended (recovery_fed_told (recoveryFed st (masks_of x y) out)) (recoveryFedOut st (masks_of x y) out)) out

-- the program: its lines into the output; where that is too short for them 8, and nothing is written
abbrev pub program_done : List ℕ → List ℕ → Done
program_done input out = ended (written_told (written_for input (length out))) (text_out input out)
