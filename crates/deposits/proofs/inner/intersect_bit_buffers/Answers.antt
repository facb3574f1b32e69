-- `deposits::inner::intersect_bit_buffers` meets its contract: as many rank bits as self has rows are all that composition takes.
-- By the law of rank bits read from words. Assumes nothing.
use Rattle.std.proofs.Common.{◌∙◌, ap, drop}
use Rattle.rows.specs.Words.{bits_of_all, view}
use Rattle.rows.specs.Laid.{laid}
use Rattle.deposits.proofs.RankLaws.{read_all}
use Rattle.deposits.proofs.inner.intersect_bit_buffers.Goals as goal

pub returns : goal.returns
returns c =
    let a = c.args in
    c.deposit_rows.ensures ∙ ap (λ l. laid a.at l a.out.now) (read_all (view a.start a.len a.words.now) (drop a.from (bits_of_all 64 a.ranks.now)))
