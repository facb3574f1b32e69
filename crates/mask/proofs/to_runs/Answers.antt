-- `mask::to_runs` meets its contract: the operand's refusal is answered and nothing written; else its runs are written and answered, or 8.
-- By the verdict of its checks. Assumes nothing.
use borrow.Author.Rules.{rules}
use mathlib.Core.Path.{◌≡◌, sym, ◌∙◌}
use Rattle.std.specs.Prelude.{Ok, Err}
use Rattle.rules.specs.Operand.{lent}
use Rattle.mask.proofs.JudgeLaws.{judged_count}
use Rattle.mask.proofs.RunOutLaws.{runs_barred, runs_refused}
use Rattle.mask.proofs.to_runs.Goals as goal

pub returns-in_err-count : goal.returns-in_err-count
returns-in_err-count c =
    let o = lent c.args.form c.args.words.now c.args.rows.now in
    let out = c.args.out.now in
    let w : c.check.result ≡ Err c.in_err-count.field-0.0 = c.in_err-count.was in
    let r : c.from_residual.result ≡ Err c.in_err-count.field-0.0 = search rules in
    let p = runs_refused o out (runs_barred o out (sym c.check.ensures ∙ w)) in
    (r ∙ p.0, p.1)

pub convert_to_runs-requires : goal.convert_to_runs-requires
convert_to_runs-requires c =
    let own : c.check.result ≡ Ok c.in_ok-count.count = c.in_ok-count.was in
    judged_count (lent c.args.form c.args.words.now c.args.rows.now) (sym c.check.ensures ∙ own)
