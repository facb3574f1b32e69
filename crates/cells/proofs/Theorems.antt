-- What include/probe.h says of every call, as statements about the definitions that the contracts cite: when nothing is done, what is
-- written and what stays, what a bad form tells, which state a refused feed tells, and which row recovery's 17. By cases, and by computation.
-- Assumes nothing.
use Prim.Native.Nat.{ℕ, ◌≤◌, ◌<◌}
use native.Mathlib.Omega.{arith}
use mathlib.Core.Path.{◌≡◌, refl, ap}
use mathlib.Core.Logic.{◌⊎◌, inl, inr, ◌≢◌}
use mathlib.Core.Bool.{Bool, true, false, ◌&&◌}
use mathlib.Core.List.{List, [], ◌∷◌}
use lib.Dec.{leb}
use lib.ListN.{length, take, drop, replicate}
use borrow.Author.Tests.{le-leb, lt-leb, ne_eqb}
use Rattle.std.specs.Prelude.{Option, Some, None, Ok, Err}
use Rattle.rows.specs.declared.Reason.TheVariants.{RowOutside}
use Rattle.rows.specs.declared.Refusal.{Refusal}
use Rattle.rows.specs.Table.{Verdict, refusal, operand_1, operand_2, no_operand, number_of, row_of, number_told, row_told}
use Rattle.rows.specs.Lists.{select}
use Rattle.rules.specs.declared.Form.{Form}
use Rattle.rules.specs.declared.State.{State}
use Rattle.rules.specs.declared.RecoveryState.{RecoveryState}
use Rattle.rules.specs.Operand.{Operand}
use Rattle.rules.specs.Answer.{Answer, no_density}
use Rattle.rules.specs.Stream.{Pair, pair_of, judged, fed_by, out_by}
use Rattle.rules.specs.Recover.{strays, first_stray, recovered}
use Rattle.rules.specs.RecoverStream.{Masks, masks_of, fed, judged as recoveryJudged, fed_by as recoveryFedBy, out_by as recoveryOutBy}
use Rattle.rules.proofs.Operands.{operand_numbers}
use Rattle.rules.proofs.Compositions.{OperandRefuses}
use Rattle.rules.proofs.Recoveries.{Refuses, recovered_refuses, told_else, number}
use Rattle.rules.proofs.RecoverFeeds.{Refuses as FeedRefuses, fed_refuses}
use Rattle.cells.specs.declared.Told.{Told}
use Rattle.cells.specs.Probe.{AnswerCells, cells, enough, ready, tells, Memory, Done, does, fed_told, recovery_fed_told, given, form_of, if_good, if_both}
use Rattle.cells.specs.Probe.{to_words_done, to_list_done, to_runs_done, compose_done, sets_done, feed_done, recover_done, recover_feed_done}

-- ---- where `ans` has fewer than 16 cells or `den` fewer than 1, the call does nothing at all

abbrev pub Short : AnswerCells → Type 0
Short l = (length l.ans < 16) ⊎ (length l.den < 1)

and_false : (b : Bool) → b && false ≡ false
and_false true = refl
and_false false = refl

not_ready : (l : AnswerCells) → Short l → ready l ≡ false
unfolding enough
not_ready l (inl h) = rw (lt-leb 16 (length l.ans) h)
not_ready l (inr h) = rw (lt-leb 1 (length l.den) h) (and_false (leb 16 (length l.ans)))

pub tells_nothing : (t : Told) (l : AnswerCells) → Short l → tells t l ≡ l
tells_nothing t l h = rw (not_ready l h)

pub does_nothing : (d : Done) (m : Memory) → Short m.answer → does d m ≡ m
does_nothing d m h = rw (not_ready m.answer h)

-- ---- else all cells are written; cells past the 16th, and `den` past its first, stay

pub record Leaves (t : Told) (before after : AnswerCells) : Type 0 where
  pub told : take 16 after.ans ≡ cells t
  pub density : take 1 after.den ≡ t.density ∷ []
  pub rest : drop 16 after.ans ≡ drop 16 before.ans
  pub others : drop 1 after.den ≡ drop 1 before.den

has_room : (l : AnswerCells) → 16 ≤ length l.ans → 1 ≤ length l.den → ready l ≡ true
unfolding enough
has_room l h k = rw (le-leb 16 (length l.ans) h, le-leb 1 (length l.den) k)

pub tells_written : (t : Told) (l : AnswerCells) → 16 ≤ length l.ans → 1 ≤ length l.den → Leaves t l (tells t l)
tells_written t l h k = rw (has_room l h k) record { told = refl; density = refl; rest = refl; others = refl }

pub does_written : (d : Done) (m : Memory) → 16 ≤ length m.answer.ans → 1 ≤ length m.answer.den → Leaves d.told m.answer (does d m).answer × ((does d m).out ≡ d.out)
does_written d m h k = rw (has_room m.answer h k) (record { told = refl; density = refl; rest = refl; others = refl }, refl)

-- ---- a form that is none of the five, in either operand: 99 in cell 0, 0 in all others, density 0.0, and no other memory changes

pub record Bads (out : List ℕ) (d : Done) : Type 0 where
  pub told : cells d.told ≡ 99 ∷ replicate 15 0
  pub density : d.told.density ≡ no_density
  pub stays : d.out ≡ out

pub bad_form : (kind length start claimed : ℕ) (ws es : List ℕ) → 4 < kind → given (form_of kind length start claimed) ws es ≡ None
unfolding form_of
bad_form kind length start claimed ws es h = ap (λ (g : Option Form). given g ws es) bad
  where
    bad : form_of kind length start claimed ≡ None
    bad = rw (ne_eqb kind 0 (λ e. omega arith), ne_eqb kind 1 (λ e. omega arith), ne_eqb kind 2 (λ e. omega arith), ne_eqb kind 3 (λ e. omega arith), ne_eqb kind 4 (λ e. omega arith))

one_bad : (a : Option Operand) (call : Operand → Done) (out : List ℕ) → a ≡ None → Bads out (if_good a call out)
one_bad a call out e = rw e record { told = refl; density = refl; stays = refl }

second_bad : (a : Option Operand) (call : Operand → Operand → Done) (out : List ℕ) → Bads out (if_both a None call out)
second_bad (Some x) call out = record { told = refl; density = refl; stays = refl }
second_bad None call out = record { told = refl; density = refl; stays = refl }

either_bad : (a b : Option Operand) (call : Operand → Operand → Done) (out : List ℕ) → (a ≡ None) ⊎ (b ≡ None) → Bads out (if_both a b call out)
either_bad a b call out (inl e) = rw e record { told = refl; density = refl; stays = refl }
either_bad a b call out (inr e) = rw e (second_bad a call out)

module _ (a : Option Operand) (out : List ℕ) (e : a ≡ None) where
  pub to_words_bad : Bads out (to_words_done a out)
  to_words_bad = one_bad a _ out e

  pub to_list_bad : Bads out (to_list_done a out)
  to_list_bad = one_bad a _ out e

  pub to_runs_bad : Bads out (to_runs_done a out)
  to_runs_bad = one_bad a _ out e

-- also in one that the call ignores, as not does its second
module _ (a b : Option Operand) (out : List ℕ) (e : (a ≡ None) ⊎ (b ≡ None)) where
  pub compose_bad : Bads out (compose_done a b out)
  compose_bad = either_bad a b _ out e

  pub set_bad : (which : ℕ) → Bads out (sets_done which a b out)
  set_bad which = either_bad a b _ out e

  pub feed_bad : (st : State) → Bads out (feed_done st a b out)
  feed_bad st = either_bad a b _ out e

  pub recover_bad : Bads out (recover_done a b out)
  recover_bad = either_bad a b _ out e

  pub recover_feed_bad : (st : RecoveryState) → Bads out (recover_feed_done st a b out)
  recover_feed_bad st = either_bad a b _ out e

-- ---- the state after a feed, of the composer or of recovery, as given where it is refused

pub record Keeps (d r k : ℕ) (t : Told) : Type 0 where
  pub done : t.done ≡ d
  pub ranks : t.ranks ≡ r
  pub kept : t.kept ≡ k

by_verdict : (v : Verdict) (st : State) (p : Pair) (out : List ℕ) → let t = fed_told (fed_by v st p) in
    (t.refusal ≡ 0 → ⊥) → Keeps st.done.0 st.ranks.0 st.kept t × (out_by v st p out ≡ out)
by_verdict (Ok u) st p out h = absurd (h refl)
by_verdict (Err r) st p out h = (record { done = refl; ranks = refl; kept = refl }, refl)

pub refused_feed : (st : State) (x y : Operand) (out : List ℕ) → let d = feed_done st (Some x) (Some y) out in
    (d.told.refusal ≡ 0 → ⊥) → Keeps st.done.0 st.ranks.0 st.kept d.told × (d.out ≡ out)
refused_feed st x y out = by_verdict (judged st (pair_of x y) (length out)) st (pair_of x y) out

by_recovery_verdict : (v : Verdict) (st : RecoveryState) (m : Masks) (out : List ℕ) → let t = recovery_fed_told (recoveryFedBy v st m) in
    (t.refusal ≡ 0 → ⊥) → Keeps st.done.0 st.ranks.0 st.kept t × (recoveryOutBy v st m out ≡ out)
by_recovery_verdict (Ok u) st m out h = absurd (h refl)
by_recovery_verdict (Err r) st m out h = (record { done = refl; ranks = refl; kept = refl }, refl)

pub refused_recovery_feed : (st : RecoveryState) (x y : Operand) (out : List ℕ) → let d = recover_feed_done st (Some x) (Some y) out in
    (d.told.refusal ≡ 0 → ⊥) → Keeps st.done.0 st.ranks.0 st.kept d.told × (d.out ≡ out)
refused_recovery_feed st x y out = by_recovery_verdict (recoveryJudged st (masks_of x y) (length out)) st (masks_of x y) out

-- ---- cell 10: with 17 the first row outside self, counted in the piece for a feed; 0 in all other answers of recovery

pub record Outside (x y : Operand) (t : Told) : Type 0 where
  pub row : t.refusal ≡ 17 → t.outside ≡ select (strays x y) 0
  pub else : t.refusal ≢ 17 → t.outside ≡ 0

-- the row that a refusal with 17 has is told
row_told_of : (a : Answer) (n : ℕ) → ((r : Refusal) → a ≡ Err r → number_of r.reason ≡ 17 → row_of r.reason ≡ n) → number_told a ≡ 17 → row_told a ≡ n
row_told_of (Ok s) n h e = absurd (omega (arith, e))
row_told_of (Err r) n h e = h r refl e

-- and it is the first that lies outside: no other line of recovery's tables has 17
first_row : (x y : Operand) (r : Refusal) → r ≡ refusal (RowOutside (first_stray x y)) no_operand → row_of r.reason ≡ select (strays x y) 0
first_row x y r e = ap (λ (q : Refusal). row_of q.reason) e

operands_first : (x y : Operand) (r : Refusal) → number_of r.reason ≡ 17 → OperandRefuses x y r → row_of r.reason ≡ select (strays x y) 0
operands_first x y r e (inl w) = absurd (omega (arith, e, operand_numbers operand_1 x r w))
operands_first x y r e (inr (t, w)) = absurd (omega (arith, e, operand_numbers operand_2 y r w))

recovery_first : (x y : Operand) (room : ℕ) (r : Refusal) → number_of r.reason ≡ 17 → Refuses x y room r → row_of r.reason ≡ select (strays x y) 0
recovery_first x y room r e (inl w) = operands_first x y r e w
recovery_first x y room r e (inr (inl t)) = absurd (omega (arith, e, number t.0))
recovery_first x y room r e (inr (inr (inl t))) = first_row x y r t.0
recovery_first x y room r e (inr (inr (inr t))) = absurd (omega (arith, e, number t.0))

piece_first : (st : RecoveryState) (m : Masks) (room : ℕ) (r : Refusal) → number_of r.reason ≡ 17 → FeedRefuses st m room r → row_of r.reason ≡ select (strays m.self m.kept) 0
piece_first st m room r e (inl t) = absurd (omega (arith, e, number t.0))
piece_first st m room r e (inr (inl t)) = operands_first m.self m.kept r e t.1
piece_first st m room r e (inr (inr (b, s, k, inl t))) = absurd (omega (arith, e, number t.0))
piece_first st m room r e (inr (inr (b, s, k, inr (inl t)))) = absurd (omega (arith, e, number t.0))
piece_first st m room r e (inr (inr (b, s, k, inr (inr (inl t))))) = first_row m.self m.kept r t.0
piece_first st m room r e (inr (inr (b, s, k, inr (inr (inr t))))) = absurd (omega (arith, e, number t.0))

pub recover_outside : (x y : Operand) (out : List ℕ) → Outside x y (recover_done (Some x) (Some y) out).told
recover_outside x y out = record {
  row = row_told_of (recovered x y out) _ (λ r q e. recovery_first x y (length out) r e ((recovered_refuses x y out r).0 q));
  else = told_else (recovered x y out);
}

pub recover_feed_outside : (st : RecoveryState) (x y : Operand) (out : List ℕ) → Outside x y (recover_feed_done st (Some x) (Some y) out).told
recover_feed_outside st x y out =
    let m = masks_of x y in
    record {
      row = row_told_of (fed st m out).answer _ (λ r q e. piece_first st m (length out) r e ((fed_refuses st m out r).0 q));
      else = told_else (fed st m out).answer;
    }
