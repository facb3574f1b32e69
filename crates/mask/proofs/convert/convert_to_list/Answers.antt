-- `mask::convert::convert_to_list` meets its contract: the set rows are written, and the operand is its own result.
-- By what acceptance gives of its count and length. Assumes nothing.
use mathlib.Core.Path.{◌∙◌}
use Rattle.rules.specs.Operand.{lent}
use Rattle.mask.proofs.JudgeLaws.{own_within, own_summary}
use Rattle.mask.proofs.convert.convert_to_list.Goals as goal

pub own_answer-requires : goal.own_answer-requires
own_answer-requires c = own_within (lent c.args.operand.form c.args.words.now c.args.rows.now) c.requires.0 c.requires.1

pub returns : goal.returns
returns c =
    let o = lent c.args.operand.form c.args.words.now c.args.rows.now in
    (c.own_answer.ensures ∙ own_summary o c.requires.0 c.requires.1, c.write_list.ensures)
