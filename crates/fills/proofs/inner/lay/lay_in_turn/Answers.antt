-- `fills::inner::lay::lay_in_turn` meets its contract.
-- A turn lays one run more, by the laws of runs laid in turn.
use Rattle.std.proofs.Common.{◌+◌, ◌^◌, get_or, arith}
use Rattle.rows.proofs.LaidLaws.{below_all}
use Rattle.fills.proofs.LayLaws.{laying_none, laying_run, laying_last}
use Rattle.fills.proofs.inner.lay.lay_in_turn.Goals as goal
use Rattle.fills.proofs.inner.lay.lay_in_turn.Goals.{else-loop-i-test, then-loop-i-test+else-i-end-i-gt2}

pub loop-i-init : goal.loop-i-init
loop-i-init c =
    let a = c.args in
    laying_none a.runs.now a.len a.at a.out.now c.requires.0 (below_all (2 ^ 64) a.out.now (λ i. (c.type_inv.out i).fits))

pub loop-i-preserved : goal.loop-i-preserved
loop-i-preserved c =
    let a = c.args in
    let l = c.loop-i in
    laying_run a.runs.now a.len a.at l.done l.i a.out.now l.out l.invariant c.lay_run.new.out c.loop-i-test.true c.lay_run.ensures

pub returns : goal.returns
returns c =
    let a = c.args in
    let l = c.loop-i in
    elim c.loop-i-test.branch [
      | else-loop-i-test w ↦
          laying_last a.runs.now a.len a.at l.done l.i a.out.now l.out l.invariant c.clear.new.out w.loop-i-test.false (rw (w.out-is, w.done-is) at c.clear.ensures)
      | then-loop-i-test+else-i-end-i-gt2 w ↦
          laying_last a.runs.now a.len a.at (get_or a.runs.now (l.i + 1) 0) (l.i + 2) a.out.now w.lay_run.new.out
          (laying_run a.runs.now a.len a.at l.done l.i a.out.now l.out l.invariant w.lay_run.new.out w.loop-i-test.true w.lay_run.ensures)
          c.clear.new.out (omega arith) (rw (w.out-is, w.done-is) at c.clear.ensures)
    ]
