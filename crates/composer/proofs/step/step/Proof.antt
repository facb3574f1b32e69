-- `composer::step::step` meets its contract: the pair is laid from done on, and its rows, their set rows and the result's are added.
-- By what acceptance gives. Assumes nothing.
use Prim.Native.Nat.{◌+◌}
use mathlib.Core.Path.{◌≡◌, sym, ap, ◌∙◌}
use native.Mathlib.Omega.{arith}
use lib.ListN.{length}
use Rattle.std.specs.Prelude.{Ok}
use Rattle.rows.specs.Rows.{count}
use Rattle.rules.specs.declared.Factors.{Factors}
use Rattle.rules.specs.declared.State.{State}
use Rattle.rules.specs.Operand.{lent, rows_of}
use Rattle.rules.specs.Answer.{summed}
use Rattle.rules.specs.Compose.{routed}
use Rattle.rules.specs.Stream.{Pair, pair_of, kept, state_of, moved}
use Rattle.rules.proofs.StreamLaws.{Accepts, moved_within, self_length, self_count, kept_count}
use Rattle.rules.proofs.Feeds.{feed_takes}
use borrow.Author.Rules.{rules}
use Rattle.composer.proofs.step.step.Statement.{statement}
use Rattle.composer.proofs.step.step.Tie as tie

-- ---- the places, each from the one after it: a statement more in the code changes one of these and no answer

abbrev entry : tie.After-shared_slice_known-3-1 → tie.Start
entry c = c.before.before.before

abbrev start : tie.After-length_of → tie.Start
start c = entry c.before.before.before

abbrev measured : tie.After-document_factors-factors → tie.After-length_of
measured c = c.before.before

abbrev chosen : tie.After-lay_composition-summary → tie.After-document_factors-factors
chosen c = c.before.before

abbrev laid_there : tie.After-slice_known-2-1 → tie.After-lay_composition-summary
laid_there c = c.before.before

-- ---- the pieces that are fed, and what acceptance gives

module _ (s : tie.Start) where
  abbrev state : State
  state = s.args.state

  abbrev pair : Pair
  pair =
      let a = s.args in
      pair_of (lent a.s.form a.swords.now a.srows.now) (lent a.r.form a.rwords.now a.rrows.now)

  takes : Accepts state pair (length s.args.out.now)
  takes = feed_takes state pair (length s.args.out.now) s.requires.0

-- ---- the numbers that are counted, in the words of the state after the pair

module _ (c : tie.After-length_of) where
  abbrev s : tie.Start
  s = start c

  rows_counted : c.length_of.result ≡ length (rows_of (pair s).self)
  rows_counted = c.length_of.ensures ∙ sym (self_length (pair s) (takes s).matched)

  ranks_counted : s.args.s.count ≡ count (rows_of (pair s).self)
  ranks_counted = s.requires.1 ∙ sym (self_count (pair s) (takes s).matched)

  kept_counted : s.args.r.count ≡ count (kept (pair s))
  kept_counted = s.requires.2 ∙ sym (kept_count (pair s) (takes s).matched)

moved_to : (c : tie.After-moved-next) → c.moved-next.result ≡ moved (state (s c.before)) (pair (s c.before))
moved_to c =
    let n = c.before in
    let st = state (s n) in
    c.moved-next.ensures ∙ (λ i. state_of (st.done.0 + rows_counted n i) (st.ranks.0 + ranks_counted n i) (st.kept + kept_counted n i))

-- ---- the answers

length-of-requires : tie.Need-length_of-requires
length-of-requires c κs = search rules

moved-requires : tie.Need-moved-next-requires
moved-requires c κs =
    let w = moved_within (state (s c)) (pair (s c)) (length (s c).args.out.now) (takes (s c)) in
    (omega (arith, rows_counted c, w.2), omega (arith, ranks_counted c, w.1, w.2), omega (arith, kept_counted c, w.0, w.1, w.2))

document-factors-requires : tie.Need-document_factors-factors-requires
document-factors-requires c κs = search rules

lay-composition-requires : tie.Need-lay_composition-summary-requires
lay-composition-requires c κs =
    let b = s (measured c.before) in
    let t = takes b in
    (t.matched, b.requires.1, b.requires.2, (omega (arith, t.space), omega (arith, t.limited)))

same_length : tie.Need-shape_of-out
same_length c = search rules

returns : tie.Need-returns
returns c =
    let l = laid_there c in
    let f = chosen l in
    let p = pair (s (measured f)) in
    let summary = l.lay_composition-summary.ensures.0 ∙ ap (λ (x : Factors). summed (kept p) (routed x p.self p.rank)) f.document_factors-factors.ensures in
    ((λ i. record { answer = Ok (summary i); state = moved_to f.before i }), l.lay_composition-summary.ensures.1)

pub step_spec : {M : Type 1} → statement M
step_spec =
    tie.close
    (tie.spec
    length-of-requires
    moved-requires
    document-factors-requires
    lay-composition-requires
    same_length
    returns)
