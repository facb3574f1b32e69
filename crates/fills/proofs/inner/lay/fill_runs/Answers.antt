-- `fills::inner::lay::fill_runs` meets its contract.
-- A turn sets one run more, by the laws of runs set where all was cleared.
use Rattle.std.proofs.Common.{◌+◌, length, replicate, false, ap, ◌∙◌, arith}
use Rattle.rows.proofs.LaidLaws.{laid_length}
use Rattle.fills.proofs.FillLaws.{setting_next, setting_run, setting_all}
use Rattle.fills.proofs.inner.lay.fill_runs.Goals as goal

pub set_run-requires : goal.set_run-requires
set_run-requires c =
    let a = c.args in
    let l = c.loop-i in
    let r = setting_next a.runs.now a.len a.at l.i c.clear.new.out l.out l.invariant c.loop-i-test.true in
    let long = ap length c.clear.ensures ∙ laid_length 64 a.at (replicate a.len false) a.out.now in
    (r.some, (omega (arith, r.within, long), omega (arith, r.within)))

pub loop-i-preserved : goal.loop-i-preserved
loop-i-preserved c =
    let a = c.args in
    setting_run a.runs.now a.len a.at c.loop-i.i c.clear.new.out c.loop-i.out c.loop-i.invariant c.set_run.new.out c.loop-i-test.true c.set_run.ensures

pub returns : goal.returns
returns c =
    let a = c.args in
    let l = c.loop-i in
    setting_all a.runs.now a.len a.at l.i c.clear.new.out l.out l.invariant a.out.now (omega arith) c.requires.0 c.clear.ensures

pub returns-2 : goal.returns-2
returns-2 c =
    let a = c.args in
    let l = c.loop-i in
    let last = setting_run a.runs.now a.len a.at l.i c.clear.new.out l.out l.invariant c.set_run.new.out c.loop-i-test.true c.set_run.ensures in
    setting_all a.runs.now a.len a.at (l.i + 2) c.clear.new.out c.set_run.new.out last a.out.now (omega arith) c.requires.0 c.clear.ensures
