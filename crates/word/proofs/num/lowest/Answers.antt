-- `word::num::lowest` meets its contract: a word and its negative share the lowest set digit alone.
-- By the law of a word and its negative, over the width.
use Rattle.std.proofs.Common.{arith}
use Rattle.word.proofs.NumLaws.{low_word}
use Rattle.word.proofs.num.lowest.Goals as goal

pub returns : goal.returns
returns c = low_word c.args.x c.wrapping_neg.result c.ranges.x.fits (omega arith)
