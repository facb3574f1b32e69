-- `outside::walks::reach` meets its contract.
-- By the law of the form that the match tells. Assumes nothing.
use Rattle.outside.proofs.WalkLaws.{reach_listed, reach_runs}
use Rattle.outside.proofs.walks.reach.Goals as goal

pub returns-in-List : goal.returns-in-List
returns-in-List c =
    let e = c.in-List.is in
    let n = c.held_to.ensures in
    let r = rw e at c.requires in
    rw e (reach_listed c.args.words.now c.args.rows.now c.args.row _ c.in-List.length _ r.1 n.0 n.1)

pub returns-in-Runs : goal.returns-in-Runs
returns-in-Runs c =
    let e = c.in-Runs.is in
    let n = c.held_to-in-Runs.ensures in
    let r = rw e at c.requires in
    rw e (reach_runs c.args.words.now c.args.rows.now c.args.row _ c.in-Runs.length _ r.1 n.0 n.1)
