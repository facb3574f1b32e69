-- `rowwise::op::AndRowOperation::on_words` meets its contract: and of two words is and of their rows.
-- By the law of the operation over the width, at 64. Assumes nothing.
use Rattle.rowwise.proofs.OpLaws.{and_word}
use Rattle.rowwise.proofs.op.AndRowOperation.on_words.Goals as goal

pub returns : goal.returns
returns c = and_word 64 c.args.x c.args.y c.ranges.x.fits c.ranges.y.fits
