-- `texts::case::tells` is safe: what is written lies within the output.
-- By the law that a text has room where it is told. Assumes nothing.
use Rattle.std.proofs.Common.{arith}
use Rattle.lines.proofs.Theorems.{written_within}
use Rattle.texts.proofs.case.tells.Goals as goal

pub split_at-requires : goal.split_at-requires
split_at-requires c =
    let a = c.answer-written in
    omega (arith, written_within _ _ a.result a.ensures.0, a.auto.out)
