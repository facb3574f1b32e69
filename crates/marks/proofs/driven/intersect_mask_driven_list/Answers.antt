-- `marks::driven::intersect_mask_driven_list` meets its contract: a rank more is marked, and where none is left all are.
-- By the law of one rank. Assumes nothing.
use Rattle.std.proofs.Common.{◌≡◌, ◌+◌, ◌∙◌, List, [], ℕ, drop, get_or, map, sym, ap, add-one, arith, drop-cons}
use Rattle.std.proofs.Math.ListN.{drop_of_length-le}
use Rattle.rows.specs.Words.{view}
use Rattle.rows.specs.Lists.{select}
use Rattle.rows.specs.Laid.{marked}
use Rattle.marks.proofs.DrivenLaws.{left_turn, rows_at}
use Rattle.marks.proofs.driven.intersect_mask_driven_list.Goals as goal

pub mark_rank-place-requires : goal.mark_rank-place-requires
mark_rank-place-requires c =
    let l = c.loop-entry in
    let t = rw (drop-cons c.args.ranks.now l.entry-index 0 c.loop-entry-test.true) at l.invariant.ahead in
    (c.requires.0, (omega arith, c.requires.2.1), l.invariant.walked, t.0, t.1)

pub loop-entry-preserved : goal.loop-entry-preserved
loop-entry-preserved c =
    let l = c.loop-entry in
    let ranks = c.args.ranks.now in
    let m = c.mark_rank-place.ensures in
    left_turn _ _ l.place _ (get_or ranks l.entry-index 0) (drop (l.entry-index + 1) ranks) l.out _ _
    (rw (add-one l.entry-index) (rw (drop-cons ranks l.entry-index 0 c.loop-entry-test.true) at l.invariant)) m.0 m.1 m.2

pub returns : goal.returns
returns c =
    let a = c.args in
    let l = c.loop-entry in
    let v = view a.start a.len a.words.now in
    let none : drop l.entry-index a.ranks.now ≡ [] = drop_of_length-le a.ranks.now {i = l.entry-index} c.loop-entry-test.false in
    sym (ap (λ (rs : List ℕ). marked a.at (map (select v) rs) l.out) none)
    ∙ l.invariant.marks
    ∙ ap (λ (rs : List ℕ). marked a.at rs a.out.now) (sym (rows_at v a.ranks.now c.requires.1))
