-- `runs::search::write_found` meets its contract: a turn finds one run more and stores its record.
-- By the laws of runs that are left to find. Assumes nothing.
use Rattle.std.proofs.Common.{length}
use Rattle.runs.proofs.FoundLaws.{finding_none, finding_next, finding_all}
use Rattle.runs.proofs.search.write_found.Goals as goal

pub loop-record-init : goal.loop-record-init
loop-record-init c =
    let a = c.args in
    finding_none a.form a.words.now a.rows.now c.requires.0 a.out.now c.requires.1

pub loop-record-preserved : goal.loop-record-preserved
loop-record-preserved c =
    let a = c.args in
    let l = c.loop-record in
    finding_next a.form a.words.now a.rows.now c.requires.0 (length a.out.now) l.record-index l.at l.out l.invariant c.find-found.result
    c.loop-record-test.true c.find-found.ensures

pub returns : goal.returns
returns c =
    let a = c.args in
    let l = c.loop-record in
    finding_all a.form a.words.now a.rows.now c.requires.0 (length a.out.now) l.record-index l.at l.out l.invariant c.loop-record-test.false
