-- `runs::search::find_in_list` meets its contract: an entry that follows the last is passed, and another ends the run.
-- By the laws of entries that follow each other. Assumes nothing.
use Rattle.std.proofs.Common.{ℕ, suc, ◌+◌, ◌≡◌, drop, get_or, ap₂, add-one, arith}
use Rattle.rows.proofs.MarkLaws.{below_at}
use Rattle.runs.specs.Searched.{run_on}
use Rattle.runs.proofs.SearchLaws.{on_next}
use Rattle.runs.proofs.search.find_in_list.Goals as goal

pub overflow_add-past : goal.overflow_add-past
overflow_add-past c = record { fits = omega (arith, below_at 1048576 c.args.rows.now c.args.at c.requires.1 c.requires.0) }

pub loop-i-init : goal.loop-i-init
loop-i-init c =
    let l = c.args.rows.now in
    let k = c.args.at in
    let same : get_or l k 0 + 1 ≡ suc (get_or l k 0) = add-one (get_or l k 0) in
    record {
      within = omega (arith, c.requires.0);
      low = omega (arith, below_at 1048576 l k c.requires.1 c.requires.0);
      rows = ap₂ (λ (p i : ℕ). p + run_on p (drop i l)) same (add-one k);
      entries = ap₂ (λ (p i : ℕ). i + run_on p (drop i l)) same (add-one k);
    }

pub overflow_add-past-in-loop-i : goal.overflow_add-past-in-loop-i
overflow_add-past-in-loop-i c = record { fits = omega (arith, c.loop-i.invariant.low) }

pub loop-i-preserved : goal.loop-i-preserved
loop-i-preserved c =
    let l = c.loop-i in
    let es = c.args.rows.now in
    let more = on_next l.past l.i es c.loop-i-test.true c.if-rows-i.false in
    let same : run_on (l.past + 1) (drop (l.i + 1) es) ≡ run_on (suc l.past) (drop (suc l.i) es) =
    ap₂ (λ (p i : ℕ). run_on p (drop i es)) (add-one l.past) (add-one l.i) in
    record {
      within = omega arith;
      low = omega (arith, c.if-rows-i.false, below_at 1048576 es l.i c.requires.1 c.loop-i-test.true);
      rows = omega (arith, same, more, l.invariant.rows);
      entries = omega (arith, same, more, l.invariant.entries);
    }
