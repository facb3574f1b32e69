-- `recoverer::step::step` meets its contract: the ranks are laid from ranks on, and rows, self's set rows and the kept ones are added.
-- By what acceptance gives. Assumes nothing.
use Prim.Native.Nat.{ℕ, ◌+◌}
use mathlib.Core.Path.{◌≡◌, sym, ap₂, ◌∙◌}
use native.Mathlib.Omega.{arith}
use lib.ListN.{length}
use borrow.Author.Rules.{rules}
use Rattle.rows.specs.Rows.{count}
use Rattle.rules.specs.declared.RecoveryState.{RecoveryState}
use Rattle.rules.specs.Operand.{lent, rows_of}
use Rattle.rules.specs.Answer.{accepted}
use Rattle.rules.specs.RecoverStream.{Masks, masks_of, ranks, state_of, moved}
use Rattle.rules.proofs.OperandLaws.{accepted_few}
use Rattle.rules.proofs.RecoverFeeds.{Accepts, moved_bounded, self_length, self_count, ranks_length, ranks_count, feed_fine}
use Rattle.std.specs.Prelude.{Ok}
use Rattle.recoverer.proofs.step.step.Statement.{statement}
use Rattle.recoverer.proofs.step.step.Tie as tie
use Rattle.rules.specs.Answer.{no_route}

-- ---- the places, each from the one after it

abbrev entry : tie.After-shared_slice_known-3-1 → tie.Start
entry c = c.before.before.before

abbrev start : tie.After-length_of → tie.Start
start c = entry c.before.before.before

abbrev measured : tie.After-lay_recovery-arg-1 → tie.After-length_of
measured c = c.before.before

abbrev laid_there : tie.After-slice_known-2-1 → tie.After-lay_recovery
laid_there c = c.before.before

-- ---- the pieces that are fed, and what acceptance gives

module _ (s : tie.Start) where
  abbrev state : RecoveryState
  state = s.args.state

  abbrev masks : Masks
  masks =
      let a = s.args in
      masks_of (lent a.s.form a.swords.now a.srows.now) (lent a.k.form a.kwords.now a.krows.now)

  takes : Accepts state masks (length s.args.out.now)
  takes = (feed_fine state masks (length s.args.out.now)).0 s.requires.0

-- ---- the numbers that are counted, in the words of the state after the masks

module _ (c : tie.After-length_of) where
  abbrev s : tie.Start
  s = start c

  rows_counted : c.length_of.result ≡ length (rows_of (masks s).self)
  rows_counted = c.length_of.ensures ∙ sym (self_length (masks s) (takes s).within)

  set_counted : s.args.s.count ≡ count (rows_of (masks s).self)
  set_counted = s.requires.1 ∙ sym (self_count (masks s) (takes s).within)

  kept_counted : s.args.k.count ≡ count (ranks (masks s))
  kept_counted = s.requires.2 ∙ sym (ranks_count (masks s) (takes s).within)

  ranks_long : s.args.s.count ≡ length (ranks (masks s))
  ranks_long = s.requires.1 ∙ sym (ranks_length (masks s) (takes s).within)

moved_to : (c : tie.After-moved-next) → c.moved-next.result ≡ moved (state (s c.before)) (masks (s c.before))
moved_to c =
    let n = c.before in
    let st = state (s n) in
    c.moved-next.ensures ∙ (λ i. state_of (st.done.0 + rows_counted n i) (st.ranks.0 + set_counted n i) (st.kept + kept_counted n i))

-- ---- the answers

length-of-requires : tie.Need-length_of-requires
length-of-requires c κs = search rules

moved-requires : tie.Need-moved-next-requires
moved-requires c κs =
    let w = moved_bounded (state (s c)) (masks (s c)) (length (s c).args.out.now) (takes (s c)) in
    (omega (arith, rows_counted c, w.2), omega (arith, set_counted c, w.1, w.2), omega (arith, kept_counted c, w.0, w.1, w.2))

lay-recovery-requires : tie.Need-lay_recovery-requires
lay-recovery-requires c κs =
    let b = s (measured c) in
    let t = takes b in
    let few = accepted_few (masks b).self t.within.self in
    (t.within, b.requires.1, (omega (arith, t.space), omega (arith, few, t.bounded)))

accepted-requires : tie.Need-accepted-requires
accepted-requires c κs =
    let b = s (measured (laid_there c).before) in
    let w = (takes b).within in
    (omega (arith, b.requires.2, accepted_few (masks b).kept w.kept), omega (arith, b.requires.1, accepted_few (masks b).self w.self))

same_length : tie.Need-shape_of-out
same_length c = search rules

returns : tie.Need-returns
returns c =
    let l = laid_there c.before in
    let k = l.before.before in
    let n = k.before in
    let summary = c.accepted.ensures ∙ ap₂ (λ (x y : ℕ). accepted x no_route y) (kept_counted n) (ranks_long n) in
    ((λ i. record { answer = Ok (summary i); state = moved_to k i }), l.lay_recovery.ensures)

pub step_spec : {M : Type 1} → statement M
step_spec =
    tie.close
    (tie.spec
    length-of-requires
    moved-requires
    lay-recovery-requires
    accepted-requires
    same_length
    returns)
