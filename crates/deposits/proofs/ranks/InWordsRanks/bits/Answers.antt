-- `deposits::ranks::InWordsRanks::bits`: what is read begins with the ranks of the chunk.
-- By what reading ensures. Assumes nothing.
use Rattle.std.proofs.Common.{refl}
use Rattle.rows.specs.Words.{bits_of_all}
use Rattle.deposits.proofs.RankLaws.{read_told}
use Rattle.deposits.proofs.ranks.InWordsRanks.bits.Goals as goal

pub returns : goal.returns
returns c =
    let s = c.args.self.now in
    (read_told c.args.rank.0 c.args._set _ s.from (bits_of_all 64 s.words.now) c.requires.1 c.rank_bits.ensures, c.requires.2, refl)
