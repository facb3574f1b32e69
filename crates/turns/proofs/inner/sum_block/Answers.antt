-- `turns::inner::sum_block` meets its contract: a run more of each half is added, and each half's sum exceeds by its runs' lengths.
-- By the law of one run packed: 32 bits hold the firsts, or the pasts, of half a block. Assumes nothing.
use Rattle.std.proofs.Common.{◌≡◌, ◌+◌, ◌/◌, ℕ, length, drop, arith}
use Rattle.rows.specs.Runs.{run_lengths}
use Rattle.rows.proofs.RunTurnLaws.{lengths_none}
use Rattle.turns.proofs.SumLaws.{Exceeds, Adding, two_more, adding_none, adding_as, adding_fits, adding_run, adding_all, lengths_less}
use Rattle.turns.proofs.inner.sum_block.Goals as goal
use Rattle.turns.proofs.inner.sum_block.Goals.{After-packed-one, After-packed-other, Left-loop-i, else-loop-i-test, then-loop-i-test+else-half-i-gt2}

pub loop-i-init : goal.loop-i-init
loop-i-init c = record {
  within = omega arith;
  even = omega arith;
  first_half = adding_none _ 0 (omega arith) c.requires.2;
  other_half = adding_none _ _ (omega (arith, c.requires.0)) c.requires.2;
}

one_more : (c : After-packed-one) → Adding c.args.runs.now 0 (c.loop-i.i + 2) (c.loop-i.one + c.packed-one.result)
one_more c =
    adding_run _ 0 c.loop-i.i c.loop-i.one c.loop-i.invariant.first_half c.loop-i.i (omega arith) (omega arith) c.packed-one.result c.packed-one.ensures

other_more : (c : After-packed-other) → Adding c.args.runs.now (length c.args.runs.now / 2) (c.loop-i.i + 2) (c.loop-i.other + c.packed-other.result)
other_more c =
    adding_run _ (length c.args.runs.now / 2) c.loop-i.i c.loop-i.other c.loop-i.invariant.other_half (length c.args.runs.now / 2 + c.loop-i.i)
    (omega arith) (omega arith) c.packed-other.result c.packed-other.ensures

pub overflow_add-one : goal.overflow_add-one
overflow_add-one c =
    let two = two_more _ _ c.requires.0 c.loop-i.invariant.even c.loop-i-test.true in
    omega (arith, adding_fits _ _ _ _ (one_more c) (omega (arith, two, c.requires.1)))

pub bounds-runs-half-in-loop-i : goal.bounds-runs-half-in-loop-i
bounds-runs-half-in-loop-i c = omega (arith, two_more _ _ c.requires.0 c.loop-i.invariant.even c.loop-i-test.true)

pub overflow_add-other : goal.overflow_add-other
overflow_add-other c =
    let two = two_more _ _ c.requires.0 c.loop-i.invariant.even c.loop-i-test.true in
    omega (arith, adding_fits _ _ _ _ (other_more c) (omega (arith, two, c.requires.1)))

pub loop-i-preserved : goal.loop-i-preserved
loop-i-preserved c = record {
  within = omega arith;
  even = omega (arith, c.loop-i.invariant.even);
  first_half = one_more (goal.at.loop-i-preserved c).After-packed-one;
  other_half = other_more (goal.at.loop-i-preserved c).After-packed-other;
}

-- all are added
done : (c : Left-loop-i)
    → Adding c.args.runs.now 0 (length c.args.runs.now / 2) c.loop-i-test.one
    × Adding c.args.runs.now (length c.args.runs.now / 2) (length c.args.runs.now / 2) c.loop-i-test.other
done c =
    let half = length c.args.runs.now / 2 in
    let l = c.loop-i in
    elim c.loop-i-test.branch [
      | else-loop-i-test w ↦ (
        adding_as _ 0 _ _ half _ l.invariant.first_half (omega arith) w.one-is,
        adding_as _ half _ _ half _ l.invariant.other_half (omega arith) w.other-is,
      )
      | then-loop-i-test+else-half-i-gt2 w ↦
          let two = two_more _ _ c.requires.0 l.invariant.even w.loop-i-test.true in (
            adding_as _ 0 _ _ half _
                (adding_run _ 0 l.i l.one l.invariant.first_half l.i (omega arith) (omega arith) w.packed-one.result w.packed-one.ensures)
                (omega (arith, two)) w.one-is,
            adding_as _ half _ _ half _
                (adding_run _ half l.i l.other l.invariant.other_half (half + l.i) (omega arith) (omega arith) w.packed-other.result w.packed-other.ensures)
                (omega (arith, two)) w.other-is,
          )
    ]

module _ (c : Left-loop-i) where
  abbrev half : ℕ
  half = length c.args.runs.now / 2

  one_all : Exceeds c.args.runs.now 0 half c.loop-i-test.one
  one_all =
      adding_all _ 0 half _ (done c).0 half (omega arith) (omega (arith, c.requires.1)) (lengths_less half _ (omega (arith, c.requires.0)) c.requires.2)

  none : run_lengths (drop (length c.args.runs.now) c.args.runs.now) ≡ 0
  none = lengths_none (length c.args.runs.now) c.args.runs.now (omega arith)

  other_all : Exceeds c.args.runs.now half (length c.args.runs.now) c.loop-i-test.other
  other_all =
      adding_all _ half half _ (done c).1 (length c.args.runs.now) (omega (arith, c.requires.0)) (omega (arith, c.requires.1)) (omega (arith, none))

pub excess-requires : goal.excess-requires
excess-requires c = (one_all c).0

pub excess-requires-2 : goal.excess-requires-2
excess-requires-2 c = (other_all (goal.at.excess-requires-2 c).Left-loop-i).0

pub returns : goal.returns
returns c =
    let l = (goal.at.returns c).Left-loop-i in
    omega (arith, c.excess.ensures, (one_all l).1, c.excess-2.ensures, (other_all l).1, none l)
