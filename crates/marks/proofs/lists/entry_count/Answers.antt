-- `marks::lists::entry_count` meets its contract.
-- Runs of one row each are half as many as their numbers. Assumes nothing.
use Rattle.std.proofs.Common.{◌∙◌, sym, ap, length}
use Rattle.marks.specs.Entries.{entries}
use Rattle.marks.proofs.EntryLaws.{firsts_length}
use Rattle.marks.proofs.lists.entry_count.Goals as goal

pub returns-in-Runs : goal.returns-in-Runs
returns-in-Runs c = sym (ap (λ n. length (entries n c.args.rows.now)) c.in-Runs.is ∙ firsts_length c.args.rows.now)
