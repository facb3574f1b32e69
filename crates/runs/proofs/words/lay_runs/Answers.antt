-- `runs::words::lay_runs` meets its contract: a turn lays one run more, and then the rows past the last.
-- By the law of one run more. Assumes nothing.
use Rattle.std.proofs.Common.{◌∙◌, arith}
use Rattle.runs.proofs.LayLaws.{laying_none, ahead_one, laying_next, laying_last}
use Rattle.runs.proofs.words.lay_runs.Goals as goal

pub loop-run-init : goal.loop-run-init
loop-run-init c = laying_none c.args.length c.args.runs.now c.args.out.now c.requires.0

pub lay_run-requires : goal.lay_run-requires
lay_run-requires c =
    let l = c.loop-run in
    let a = ahead_one c.args.length c.args.runs.now l.done l.run-index c.args.out.now l.out l.invariant c.loop-run-test.true in
    (a.0, omega (arith, a.1), (omega (arith, a.2, c.requires.1.0, l.auto.out), omega (arith, a.2, c.requires.1.1)))

pub loop-run-preserved : goal.loop-run-preserved
loop-run-preserved c =
    let l = c.loop-run in
    laying_next c.args.length c.args.runs.now l.done l.run-index c.args.out.now l.out l.invariant c.loop-run-test.true _ c.lay_run.ensures

pub clear-requires : goal.clear-requires
clear-requires c =
    let l = c.loop-run in
    (omega (arith, l.invariant.within, c.requires.1.0, l.auto.out), omega (arith, l.invariant.within, c.requires.1.1))

pub returns : goal.returns
returns c =
    let l = c.loop-run in
    c.clear.ensures ∙ laying_last c.args.length c.args.runs.now l.done l.run-index c.args.out.now l.out l.invariant c.loop-run-test.false
