-- `marks::inner::entry_at` meets its contract: of runs of one row each the first number of a pair is read.
-- By the law of where those lie. Assumes nothing.
use Rattle.std.proofs.Common.{rules, ◌+◌, ◌*◌, ◌<◌, ◌∙◌, sym, ap, length, get_or, arith}
use Rattle.marks.specs.Entries.{firsts, entries}
use Rattle.marks.proofs.EntryLaws.{firsts_length, firsts_at}
use Rattle.marks.proofs.inner.entry_at.Goals as goal
use Rattle.marks.proofs.inner.entry_at.Goals.{In-Runs}

ranked : (c : In-Runs) → c.args.rank.0 < length (firsts c.args.rows.now)
ranked c = rw c.in-Runs.is at c.requires

there : (c : In-Runs) → c.args.rank.0 * 2 + 1 < length c.args.rows.now
there c = omega (arith, ranked c, firsts_length c.args.rows.now)

pub overflow_mul-result : goal.overflow_mul-result
overflow_mul-result c = search (rules, there (goal.at.overflow_mul-result c).In-Runs)

pub offset_bounds-rows-at-in-Runs : goal.offset_bounds-rows-at-in-Runs
offset_bounds-rows-at-in-Runs c = search (rules, there (goal.at.offset_bounds-rows-at-in-Runs c).In-Runs)

pub bounds-rows-at-in-Runs : goal.bounds-rows-at-in-Runs
bounds-rows-at-in-Runs c = omega (arith, there (goal.at.bounds-rows-at-in-Runs c).In-Runs)

pub returns-in-Runs : goal.returns-in-Runs
returns-in-Runs c =
    let k = (goal.at.returns-in-Runs c).In-Runs in
    sym (ap (λ n. get_or (entries n c.args.rows.now) c.args.rank.0 0) c.in-Runs.is ∙ firsts_at c.args.rows.now c.args.rank.0 (ranked k))
