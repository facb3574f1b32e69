-- `outside::walks::next_set` meets its contract.
-- By the law of the form that the match tells. Assumes nothing.
use Rattle.outside.proofs.WalkLaws.{set_listed, set_runs}
use Rattle.outside.proofs.walks.next_set.Goals as goal

pub returns-in-List : goal.returns-in-List
returns-in-List c =
    let e = c.in-List.is in
    let n = c.next_held.ensures in
    rw e (set_listed c.args.words.now c.args.rows.now c.args.row _ c.in-List.length _ n.0 n.1)

pub returns-in-Runs : goal.returns-in-Runs
returns-in-Runs c =
    let e = c.in-Runs.is in
    let n = c.next_held-in-Runs.ensures in
    rw e (set_runs c.args.words.now c.args.rows.now c.args.row _ c.in-Runs.length _ n.0 n.1)
