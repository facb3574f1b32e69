-- `recover::recover` meets its contract: a refusal is answered and nothing written; else the work is done.
-- By the verdict of its table. Assumes nothing.
use Rattle.std.proofs.Common.{◌≡◌, sym, ap, ◌∙◌, rules, Ok, Err, length}
use Rattle.rows.specs.Table.{first}
use Rattle.rows.specs.Laid.{written}
use Rattle.rows.proofs.TableLaws.{granted_ok, granted_err}
use Rattle.rules.specs.Operand.{lent, count_of}
use Rattle.rules.specs.Answer.{summed, no_route}
use Rattle.rules.specs.Recover.{recover_checks, recovery, recovered, recovered_out}
use Rattle.rules.proofs.AnswerLaws.{by_fine, by_refusal}
use Rattle.rules.proofs.Recoveries.{recover_fine}
use Rattle.recover.specs.declared.inner.judge.Matched.{Matched}
use Rattle.recover.specs.Judged.{counts_of}
use Rattle.recover.proofs.recover.Goals as goal

pub returns-in_err-judged : goal.returns-in_err-judged
unfolding recovered recovered_out
returns-in_err-judged c =
    let a = c.args in
    let s = lent a.s a.swords.now a.srows.now in
    let k = lent a.k a.kwords.now a.krows.now in
    let out = a.out.now in
    let v = first (recover_checks s k (length out)) in
    let w : c.judge.result ≡ Err c.in_err-judged.field-0.0 = c.in_err-judged.was in
    let r : c.from_residual.result ≡ Err c.in_err-judged.field-0.0 = search rules in
    let p = by_refusal v (summed (recovery s k) no_route) (written (count_of s) (recovery s k) out) out _ (granted_err v (counts_of s k) (sym c.judge.ensures ∙ w)) in
    (r ∙ p.0, p.1)

pub recover_within-requires : goal.recover_within-requires
recover_within-requires c =
    let a = c.args in
    let s = lent a.s a.swords.now a.srows.now in
    let k = lent a.k a.kwords.now a.krows.now in
    let w : c.judge.result ≡ Ok c.in_ok-judged.judged = c.in_ok-judged.was in
    let own = granted_ok (first (recover_checks s k (length a.out.now))) (sym c.judge.ensures ∙ w) in
    let well = (recover_fine s k (length a.out.now)).0 own.0 in
    (well.0, ap (λ (m : Matched). m.set) (sym own.1), ap (λ (m : Matched). m.kept) (sym own.1), well.1)

pub returns : goal.returns
unfolding recovered recovered_out
returns c =
    let a = c.args in
    let s = lent a.s a.swords.now a.srows.now in
    let k = lent a.k a.kwords.now a.krows.now in
    let out = a.out.now in
    let v = first (recover_checks s k (length out)) in
    let w : c.judge.result ≡ Ok c.in_ok-judged.judged = c.in_ok-judged.was in
    let p = by_fine v (summed (recovery s k) no_route) (written (count_of s) (recovery s k) out) out (granted_ok v (sym c.judge.ensures ∙ w)).0 in
    (ap Ok c.recover_within.ensures.0 ∙ p.0, c.recover_within.ensures.1 ∙ p.1)
