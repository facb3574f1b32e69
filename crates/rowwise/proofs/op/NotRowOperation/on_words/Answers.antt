-- `rowwise::op::NotRowOperation::on_words` meets its contract: not of two words is not of their rows.
-- By the law of the operation over the width, at 64. Assumes nothing.
use Rattle.rowwise.proofs.OpLaws.{not_word}
use Rattle.rowwise.proofs.op.NotRowOperation.on_words.Goals as goal

pub returns : goal.returns
returns c = not_word 64 c.args.x c.args._y c.ranges.x.fits c.ranges._y.fits
