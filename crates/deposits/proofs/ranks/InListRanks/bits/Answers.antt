-- `deposits::ranks::InListRanks::bits`: the walk over the list tells the ranks of the chunk, and stands at those of the next.
-- By what gathering ensures. Assumes nothing.
use Rattle.std.proofs.Common.{refl}
use Rattle.rows.specs.Lists.{member}
use Rattle.deposits.proofs.RankLaws.{gathered_told}
use Rattle.deposits.proofs.ranks.InListRanks.bits.Goals as goal

pub returns : goal.returns
returns c =
    let g = c.rank_bits_for_chunk-gathered.ensures in
    (gathered_told c.args.rank.0 c.args.set _ (λ k. member k c.args.self.now.entries.now) c.requires.1 g.is, g.parted, refl)
