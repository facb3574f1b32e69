-- `lent::rank_read` meets its contract: a start over 63 is refused, and else the word is read.
-- By the two lines of what rank read answers. Assumes nothing.
use Rattle.std.proofs.Common.{arith, sym, ap, ◌∙◌, Ok, Err}
use Rattle.rows.proofs.Theorems.{read_refused, read_answers}
use Rattle.lent.proofs.rank_read.Goals as goal

pub returns-then-start-gt63 : goal.returns-then-start-gt63
returns-then-start-gt63 c =
    let a = c.args in
    ap Err c.refusal.ensures ∙ sym (read_refused a.words.now a.start a.offset (λ h. omega arith))

pub returns : goal.returns
returns c =
    let a = c.args in
    ap Ok c.read.ensures ∙ sym (read_answers a.words.now a.start a.offset (omega arith))
