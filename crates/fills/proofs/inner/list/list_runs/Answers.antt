-- `fills::inner::list::list_runs` meets its contract.
-- A turn lists the rows of one run more, by the laws of runs listed.
use Rattle.std.proofs.Common.{◌+◌, arith}
use Rattle.rows.proofs.RunTurnLaws.{lengths_next}
use Rattle.fills.proofs.ListLaws.{listing_none, listing_next, listing_run, listing_all}
use Rattle.fills.proofs.inner.list.list_runs.Goals as goal

pub loop-i-init : goal.loop-i-init
loop-i-init c = listing_none c.args.runs.now c.args.len c.args.out.now c.requires.0 c.requires.1

pub list_run-next-requires : goal.list_run-next-requires
list_run-next-requires c =
    let a = c.args in
    let l = c.loop-i in
    let r = listing_next a.runs.now a.len l.next l.i a.out.now l.out l.invariant c.loop-i-test.true in
    let left = lengths_next l.invariant.done a.len l.i a.runs.now r in
    (omega (arith, r.some), omega (arith, r.within), omega (arith, l.invariant.room, left))

pub loop-i-preserved : goal.loop-i-preserved
loop-i-preserved c =
    let a = c.args in
    let l = c.loop-i in
    let e = c.list_run-next.ensures in
    listing_run a.runs.now a.len l.next l.i a.out.now l.out l.invariant c.list_run-next.result c.list_run-next.new.out c.loop-i-test.true e.0 e.1

pub returns : goal.returns
returns c =
    let a = c.args in
    let l = c.loop-i in
    listing_all a.runs.now a.len l.next l.i a.out.now l.out l.invariant (omega arith)

pub returns-2 : goal.returns-2
returns-2 c =
    let a = c.args in
    let l = c.loop-i in
    let e = c.list_run-next.ensures in
    let last = listing_run a.runs.now a.len l.next l.i a.out.now l.out l.invariant c.list_run-next.result c.list_run-next.new.out c.loop-i-test.true e.0 e.1 in
    listing_all a.runs.now a.len c.list_run-next.result (l.i + 2) a.out.now c.list_run-next.new.out last (omega arith)
