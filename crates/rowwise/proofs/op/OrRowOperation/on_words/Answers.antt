-- `rowwise::op::OrRowOperation::on_words` meets its contract: or of two words is or of their rows.
-- By the law of the operation over the width, at 64. Assumes nothing.
use Rattle.rowwise.proofs.OpLaws.{or_word}
use Rattle.rowwise.proofs.op.OrRowOperation.on_words.Goals as goal

pub returns : goal.returns
returns c = or_word 64 c.args.x c.args.y c.ranges.x.fits c.ranges.y.fits
