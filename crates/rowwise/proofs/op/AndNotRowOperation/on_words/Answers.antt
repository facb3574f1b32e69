-- `rowwise::op::AndNotRowOperation::on_words` meets its contract: and-not of two words is and-not of their rows.
-- By the law of the operation over the width, at 64. Assumes nothing.
use Rattle.rowwise.proofs.OpLaws.{and_not_word}
use Rattle.rowwise.proofs.op.AndNotRowOperation.on_words.Goals as goal

pub returns : goal.returns
returns c = and_not_word 64 c.args.x c.args.y c.ranges.x.fits c.ranges.y.fits
