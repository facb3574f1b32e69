-- The recovery stream, of whatever the contract of its `feed` allows: of one call, x is what it gives and `left` what then stands in the output; of
-- calls one after the other, each is handed the state that the one before gave back and the output as it left it. By the theorems about the
-- definitions. Assumes nothing.
use mathlib.Core.Path.{◌≡◌, refl}
use mathlib.Core.Logic.{◌↔◌, ◌≢◌}
use mathlib.Core.List.{List, [], ◌∷◌}
use Prim.Native.Nat.{ℕ}
use lib.ListN.{length}
use contract.Lifetimes.{Lfts}
use borrow.Fn.Kinds.{Dens, res_t, ended_of}
use denote.Triple.Clauses.{Lasts, at_exit}
use Rattle.rows.specs.declared.Refusal.{Refusal}
use Rattle.rows.proofs.RecoverLaws.{FirstOutside}
use Rattle.rules.specs.declared.RecoveryState.{RecoveryState}
use Rattle.rows.specs.declared.Row.{Row}
use Rattle.rows.specs.declared.Reason.TheVariants.{RowOutside}
use Rattle.rules.specs.declared.Fed.{Fed}
use Rattle.rules.specs.Operand.{lent, in_words, rows_of, Accepted}
use Rattle.rules.specs.RecoverStream.{Masks, masks_of, fresh, fed, fed_out, Run, after, run}
use Rattle.rules.specs.Demand3.{joined, AllAccepted, taken}
use Rattle.rules.specs.RecoverCut.{once, Pieces, Joins, Whole}
use Rattle.rules.proofs.AnswerLaws.{Bare}
use Rattle.rules.proofs.RecoverFeeds.{Bounded, Accepts, Refuses, Feeds, fed_refuses, fed_accepts, fed_refused, fed_bounded, fed_outside_first, fed_outside_else, fed_feeds}
use Rattle.rules.proofs.RecoverCut.{forward, converse, converse_in_words}
use Rattle.recoverer.proofs.feed.Kinds as kinds
use Rattle.recoverer.proofs.feed.Reads as reads
use Rattle.rows.specs.Table.{Named, refusal, number_told, row_told, numbered}
use Rattle.std.specs.Prelude.{Err}

-- ---- one call

module _ (κs : Lfts 5) (a : Dens κs kinds.ps) where
  abbrev pub state : RecoveryState
  state = a.0

  abbrev pub masks : Masks
  masks = masks_of (lent a.1.0 a.1.1.0.now a.1.1.1.0.now) (lent a.1.1.1.1.0 a.1.1.1.1.1.0.now a.1.1.1.1.1.1.0.now)

  abbrev pub out : List ℕ
  out = a.1.1.1.1.1.1.1.0.now

  abbrev pub left : Lasts (ended_of 5 kinds.ps kinds.r) κs a → List ℕ
  left v = v.1.1.1.1.1.1.1.0

  module _ (x : (res_t kinds.r κs).Denot) (v : Lasts (ended_of 5 kinds.ps kinds.r) κs a) (allowed : reads.Post κs a x (at_exit (ended_of 5 kinds.ps kinds.r) κs a v)) where
    abbrev gave : Fed RecoveryState
    gave = x

    -- 10, each operand's number, 7, 11, 17 and 8, each exactly when the documents say, in their order
    pub recovery_feed_refuses_exactly : (r : Refusal) → (gave.answer ≡ Err r) ↔ Refuses state masks (length out) r
    recovery_feed_refuses_exactly = rw allowed.0 (fed_refuses state masks out)

    -- accepted exactly otherwise
    pub recovery_feed_accepts_exactly : ((number_told gave.answer) ≡ 0) ↔ Accepts state masks (length out)
    recovery_feed_accepts_exactly = rw allowed.0 (fed_accepts state masks out)

    -- a refusal hands the state back as given, changes no lent word, and reports count 0, route 0 and density 0.0
    pub refused_recovery_feed_changes_nothing : (number_told gave.answer) ≢ 0 → (gave.state ≡ state) × (left v ≡ out) × Bare gave.answer
    refused_recovery_feed_changes_nothing = rw (allowed.0, allowed.1) (fed_refused state masks out)

    -- the row told with 17 is the first of the piece outside self's; in every other answer it is 0
    pub feed_outside_first : (row : Row) (who : Named) → gave.answer ≡ Err (refusal (numbered 17 (RowOutside row) refl) who) → FirstOutside (rows_of masks.self) (rows_of masks.kept) row.0
    feed_outside_first = rw allowed.0 (fed_outside_first state masks out)

    pub feed_outside_else : number_told gave.answer ≢ 17 → row_told gave.answer ≡ 0
    feed_outside_else = rw allowed.0 (fed_outside_else state masks out)

    -- accepted: the piece's ranks from ranks on and no other bit, its count, route and density, and the state moved
    pub accepted_recovery_feed_writes : Accepts state masks (length out) → Feeds state masks gave (left v) out
    accepted_recovery_feed_writes = rw (allowed.0, allowed.1) (fed_feeds state masks out)

    -- and the state is within refusal 10's bound again
    pub recovery_feed_keeps_bound : Accepts state masks (length out) → Bounded gave.state
    recovery_feed_keeps_bound = rw allowed.0 (fed_bounded state masks out)

-- ---- calls one after the other

-- a call that the contract allows: handed this state, these masks and this output, it gives that and leaves that
pub record Call (st : RecoveryState) (m : Masks) (before : List ℕ) (gave : Fed RecoveryState) (after : List ℕ) : Type 1 where
  pub κs : Lfts 5
  pub args : Dens κs kinds.ps
  pub lasts : Lasts (ended_of 5 kinds.ps kinds.r) κs args
  pub allowed : reads.Post κs args gave (at_exit (ended_of 5 kinds.ps kinds.r) κs args lasts)
  pub handed_state : state κs args ≡ st
  pub handed_masks : masks κs args ≡ m
  pub handed_out : out κs args ≡ before
  pub leaves : left κs args lasts ≡ after

pub call_is : (st : RecoveryState) (m : Masks) (before : List ℕ) (gave : Fed RecoveryState) (after : List ℕ) → Call st m before gave after
    → (gave ≡ fed st m before) × (after ≡ fed_out st m before)
call_is st m before gave after c = rw (← c.handed_state, ← c.handed_masks, ← c.handed_out, ← c.leaves) c.allowed

-- calls that the contract allows, each handed the state that the one before gave back and the output as it left it; t is what came of them
pub data Calls : RecoveryState → List ℕ → List Masks → Run → Type 1 where
  none : (st : RecoveryState) (before : List ℕ) → Calls st before [] (record { answers = []; state = st; out = before })
  next : (st : RecoveryState) (m : Masks) (before : List ℕ) (gave : Fed RecoveryState) (left : List ℕ) (ms : List Masks) (t : Run) → Call st m before gave left
      → Calls gave.state left ms t → Calls st before (m ∷ ms) (after gave.answer t)

-- they are the run that the cut rule speaks of
pub calls_run : {st : RecoveryState} {before : List ℕ} {ms : List Masks} {t : Run} → Calls st before ms t → t ≡ run st before ms
calls_run (none st before) = refl
calls_run (next st m before gave left ms t c cs) =
    let is = call_is st m before gave left c in
    rw (calls_run cs, is.0, is.1) refl

-- the cut rule: every feed is accepted, and ranks, summed counts and end state are the whole's
pub recovered_pieces_are_the_whole : (whole : Masks) (before : List ℕ) (ms : List Masks) (t : Run) → Calls fresh before ms t
    → (number_told (once whole before)) ≡ 0 → Pieces ms → Joins whole ms → AllAccepted t.answers × Whole whole before t
recovered_pieces_are_the_whole whole before ms t cs = rw (calls_run cs) (forward whole before ms)

-- conversely, any feeds so run, refused ones between: the accepted ones' pieces joined are the whole
pub accepted_recoveries_are_a_whole : (whole : Masks) (before : List ℕ) (ms : List Masks) (t : Run) → Calls fresh before ms t
    → Accepted whole.self → Accepted whole.kept → Joins whole (taken ms t.answers) → Whole whole before t
accepted_recoveries_are_a_whole whole before ms t cs = rw (calls_run cs) (converse whole before ms)

-- and there is such a whole: the accepted pieces joined, in words
pub accepted_recoveries_joined : (before : List ℕ) (ms : List Masks) (t : Run) → Calls fresh before ms t
    → let qs = taken ms t.answers in Whole (masks_of (in_words (joined (λ m. m.self) qs)) (in_words (joined (λ m. m.kept) qs))) before t
accepted_recoveries_joined before ms t cs = rw (calls_run cs) (converse_in_words before ms)
