-- `word::select` meets its contract: a rank that is not below the word's set bits is refused, and else the walk finds the position.
-- By the two lines of what select answers. Assumes nothing.
use Rattle.std.proofs.Common.{arith, sym, ap, ◌∙◌, Ok, Err}
use Rattle.rows.proofs.WordLaws.{count_bits}
use Rattle.rows.proofs.Theorems.{select_refused, select_accepted}
use Rattle.word.proofs.select.Goals as goal

pub returns-then-rank-word : goal.returns-then-rank-word
returns-then-rank-word c =
    let a = c.args in
    ap Err c.refusal.ensures ∙ sym (select_refused a.word a.rank (λ h. omega (arith, count_bits 64 a.word c.ranges.word.fits)))

pub returns : goal.returns
returns c =
    let a = c.args in
    ap Ok c.select_bit_position.ensures ∙ sym (select_accepted a.word a.rank (omega (arith, count_bits 64 a.word c.ranges.word.fits)))
