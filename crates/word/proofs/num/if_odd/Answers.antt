-- `word::num::if_odd` meets its contract: zero minus a digit is no bits or all of them.
-- By the two cases of the digit.
use Rattle.std.proofs.Common.{arith}
use lib.Bits.{and_mask}
use Rattle.word.proofs.NumLaws.{if_odd_word}
use Rattle.word.proofs.num.if_odd.Goals as goal

pub returns : goal.returns
returns c = if_odd_word c.args.x c.args.b c.wrapping_neg.result c.ranges.x.fits (omega (arith, and_mask c.args.b 1))
