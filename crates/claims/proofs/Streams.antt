-- Demands 1 and 3 for the stream composer, of whatever the contract of `feed` allows: of one call, x is what it gives and `left` what
-- then stands in the output; of calls one after the other, each is handed the state that the one before gave back and the output as it
-- left it. By the theorems about the definitions. Assumes nothing.
use mathlib.Core.Path.{◌≡◌, refl, sym, ap, ◌∙◌}
use mathlib.Core.Logic.{◌↔◌, ◌≢◌}
use mathlib.Core.Bool.{Bool, true, false}
use mathlib.Core.List.{List, [], ◌∷◌}
use Prim.Native.Nat.{ℕ, ◌<◌}
use lib.ListN.{length, get_or}
use lib.Seq.{get_or-take}
use contract.Lifetimes.{Lfts}
use borrow.Fn.Kinds.{Dens, res_t, ended_of}
use denote.Triple.Clauses.{Lasts, at_exit}
use Rattle.rows.specs.declared.Refusal.{Refusal}
use Rattle.rows.specs.Rows.{rank_at}
use Rattle.rows.specs.Words.{bits_of_all}
use Rattle.rules.specs.declared.State.{State}
use Rattle.rules.specs.declared.Fed.{Fed}
use Rattle.rules.specs.Operand.{lent, in_words, rows_of, Accepted}
use Rattle.rules.specs.Route.{published}
use Rattle.rules.specs.Stream.{Pair, pair_of, long, fresh, fed, fed_out, Run, after, run}
use Rattle.rules.specs.Demand3.{once, once_out, Pieces, joined, Joins, AllAccepted, taken, Whole}
use Rattle.rules.proofs.AnswerLaws.{Bare}
use Rattle.rules.proofs.Writes.{bit_at, row}
use Rattle.rules.proofs.Compositions.{composed_accepts, composed_row}
use Rattle.rules.proofs.StreamLaws.{Within, Accepts}
use Rattle.rules.proofs.Feeds.{Refuses, Feeds, fed_refuses, fed_accepts, fed_refused, fed_within, fed_feeds}
use Rattle.rules.proofs.Densities.{Nearest}
use Rattle.rules.proofs.Demand3.{forward, converse, converse_in_words}
use Rattle.composer.proofs.feed.Kinds as kinds
use Rattle.composer.proofs.feed.Reads as reads
use Rattle.claims.proofs.Densities.{fed_nearest}
use Rattle.rows.specs.Table.{number_told}
use Rattle.rules.specs.Answer.{summary_told}
use Rattle.std.specs.Prelude.{Err}

-- ---- one call

module _ (κs : Lfts 5) (a : Dens κs kinds.ps) where
  abbrev pub state : State
  state = a.0

  abbrev pub pair : Pair
  pair = pair_of (lent a.1.0 a.1.1.0.now a.1.1.1.0.now) (lent a.1.1.1.1.0 a.1.1.1.1.1.0.now a.1.1.1.1.1.1.0.now)

  abbrev pub out : List ℕ
  out = a.1.1.1.1.1.1.1.0.now

  abbrev pub left : Lasts (ended_of 5 kinds.ps kinds.r) κs a → List ℕ
  left v = v.1.1.1.1.1.1.1.0

  module _ (x : (res_t kinds.r κs).Denot) (v : Lasts (ended_of 5 kinds.ps kinds.r) κs a) (allowed : reads.Post κs a x (at_exit (ended_of 5 kinds.ps kinds.r) κs a v)) where
    abbrev gave : Fed State
    gave = x

    -- 10, each operand's number, 7, 11 and 8, each with its operand exactly when document 01 says, in its order
    pub feed_refuses_exactly : (x : Refusal) → (gave.answer ≡ Err x) ↔ Refuses state pair (length out) x
    feed_refuses_exactly = rw allowed.0 (fed_refuses state pair out)

    -- accepted exactly otherwise
    pub feed_accepts_exactly : ((number_told gave.answer) ≡ 0) ↔ Accepts state pair (length out)
    feed_accepts_exactly = rw allowed.0 (fed_accepts state pair out)

    -- a refusal hands the state back as given, changes no lent word, and reports count 0, route 0 and density 0.0
    pub refused_feed_changes_nothing : (number_told gave.answer) ≢ 0 → (gave.state ≡ state) × (left v ≡ out) × Bare gave.answer
    refused_feed_changes_nothing = rw (allowed.0, allowed.1) (fed_refused state pair out)

    -- accepted: the piece's rows from done on and no other bit, its count, route and density, and the state moved
    pub accepted_feed_writes : Accepts state pair (length out) → Feeds state pair gave (left v) out
    accepted_feed_writes = rw (allowed.0, allowed.1) (fed_feeds state pair out)

    -- the density told is the value of the format nearest to the told count over the piece's length
    pub accepted_feed_density : Accepts state pair (length out) → 0 < long pair → Nearest (summary_told gave.answer).count (long pair) (summary_told gave.answer).density
    accepted_feed_density t = fed_nearest t (accepted_feed_writes t)

    -- and the state is within refusal 10's bound again
    pub feed_keeps_bound : Accepts state pair (length out) → Within gave.state
    feed_keeps_bound = rw allowed.0 (fed_within state pair out)

-- ---- calls one after the other

-- a call that the contract allows: handed this state, this pair and this output, it gives that and leaves that
pub record Call (st : State) (p : Pair) (before : List ℕ) (gave : Fed State) (after : List ℕ) : Type 1 where
  pub κs : Lfts 5
  pub args : Dens κs kinds.ps
  pub lasts : Lasts (ended_of 5 kinds.ps kinds.r) κs args
  pub allowed : reads.Post κs args gave (at_exit (ended_of 5 kinds.ps kinds.r) κs args lasts)
  pub handed_state : state κs args ≡ st
  pub handed_pair : pair κs args ≡ p
  pub handed_out : out κs args ≡ before
  pub leaves : left κs args lasts ≡ after

pub call_is : (st : State) (p : Pair) (before : List ℕ) (gave : Fed State) (after : List ℕ) → Call st p before gave after → (gave ≡ fed st p before) × (after ≡ fed_out st p before)
call_is st p before gave after c = rw (← c.handed_state, ← c.handed_pair, ← c.handed_out, ← c.leaves) c.allowed

-- calls that the contract allows, each handed the state that the one before gave back and the output as it left it; t is what came of them
pub data Calls : State → List ℕ → List Pair → Run → Type 1 where
  none : (st : State) (before : List ℕ) → Calls st before [] (record { answers = []; state = st; out = before })
  next : (st : State) (p : Pair) (before : List ℕ) (gave : Fed State) (left : List ℕ) (ps : List Pair) (t : Run) → Call st p before gave left → Calls gave.state left ps t
      → Calls st before (p ∷ ps) (after gave.answer t)

-- they are the run that demand 3 speaks of
pub calls_run : {st : State} {before : List ℕ} {ps : List Pair} {t : Run} → Calls st before ps t → t ≡ run st before ps
calls_run (none st before) = refl
calls_run (next st p before gave left ps t c cs) =
    let is = call_is st p before gave left c in
    rw (calls_run cs, is.0, is.1) refl

-- demand 3: every feed is accepted, and rows, summed counts and end state are demand 2's for the whole
pub pieces_are_the_whole : (whole : Pair) (before : List ℕ) (ps : List Pair) (t : Run) → Calls fresh before ps t → (number_told (once whole before)) ≡ 0 → Pieces ps → Joins whole ps
    → AllAccepted t.answers × Whole whole before t
pieces_are_the_whole whole before ps t cs = rw (calls_run cs) (forward whole before ps)

-- conversely, any feeds so run, refused ones between: the accepted ones' pieces joined are the whole
pub accepted_pieces_are_a_whole : (whole : Pair) (before : List ℕ) (ps : List Pair) (t : Run) → Calls fresh before ps t → Accepted whole.self → Accepted whole.rank → Joins whole (taken ps t.answers)
    → Whole whole before t
accepted_pieces_are_a_whole whole before ps t cs = rw (calls_run cs) (converse whole before ps)

-- and there is such a whole: the accepted pieces joined, in words
pub accepted_pieces_joined : (before : List ℕ) (ps : List Pair) (t : Run) → Calls fresh before ps t
    → let qs = taken ps t.answers in Whole (pair_of (in_words (joined (λ p. p.self) qs)) (in_words (joined (λ p. p.rank) qs))) before t
accepted_pieces_joined before ps t cs = rw (calls_run cs) (converse_in_words before ps)

-- demand 2's rows: row i is set exactly if self has i and the rank mask has i's rank
pub whole_row_exactly : (whole : Pair) (before : List ℕ) (t : Run) → Whole whole before t → (i : ℕ) → i < long whole
    → (bit_at t.out i ≡ true) ↔ ((row whole.self i ≡ true) × (row whole.rank (rank_at (rows_of whole.self) i) ≡ true))
whole_row_exactly w before t q i h =
    let a = (composed_accepts w.self w.rank published before).0 q.accepted in
    let same = sym (get_or-take (long w) (bits_of_all 64 t.out) i false h) ∙ ap (λ (l : List Bool). get_or l i false) q.rows ∙ get_or-take (long w) (bits_of_all 64 (once_out w before)) i false h in
    rw same (composed_row w.self w.rank before a i h)
