-- `intersect_by_rank::inner::compose::compose_with` meets its contract: a refusal is answered and nothing written; else the work is done.
-- By the verdict of its table. Assumes nothing.
use Rattle.std.proofs.Common.{◌≡◌, sym, ap, ◌∙◌, rules, Ok, Err, length}
use Rattle.rows.specs.Table.{first}
use Rattle.rows.specs.Laid.{written}
use Rattle.rows.proofs.TableLaws.{granted_ok, granted_err}
use Rattle.rules.specs.Operand.{lent, length_of}
use Rattle.rules.specs.Answer.{summed}
use Rattle.rules.specs.Compose.{compose_checks, result, routed, composed, composed_out}
use Rattle.rules.proofs.AnswerLaws.{by_fine, by_refusal}
use Rattle.rules.proofs.Compositions.{compose_fine}
use Rattle.intersect_by_rank.specs.declared.inner.judge.Judged.{Judged}
use Rattle.intersect_by_rank.specs.Judged.{counts_of}
use Rattle.intersect_by_rank.proofs.inner.compose.compose_with.Goals as goal

pub returns-in_err-judged : goal.returns-in_err-judged
unfolding composed composed_out
returns-in_err-judged c =
    let a = c.args in
    let s = lent a.s a.swords.now a.srows.now in
    let r = lent a.r a.rwords.now a.rrows.now in
    let out = a.out.now in
    let v = first (compose_checks s r (length out)) in
    let w : c.judge.result ≡ Err c.in_err-judged.field-0.0 = c.in_err-judged.was in
    let e : c.from_residual.result ≡ Err c.in_err-judged.field-0.0 = search rules in
    let p = by_refusal v (summed (result s r) (routed a.factors s r)) (written (length_of a.s) (result s r) out) out _ (granted_err v (counts_of s r) (sym c.judge.ensures ∙ w)) in
    (e ∙ p.0, p.1)

pub compose_accepted-requires : goal.compose_accepted-requires
compose_accepted-requires c =
    let a = c.args in
    let s = lent a.s a.swords.now a.srows.now in
    let r = lent a.r a.rwords.now a.rrows.now in
    let w : c.judge.result ≡ Ok c.in_ok-judged.judged = c.in_ok-judged.was in
    let own = granted_ok (first (compose_checks s r (length a.out.now))) (sym c.judge.ensures ∙ w) in
    let well = (compose_fine s r (length a.out.now)).0 own.0 in
    (well.0, ap (λ (j : Judged). j.rows) (sym own.1), ap (λ (j : Judged). j.ranks) (sym own.1), well.1)

pub returns : goal.returns
unfolding composed composed_out
returns c =
    let a = c.args in
    let s = lent a.s a.swords.now a.srows.now in
    let r = lent a.r a.rwords.now a.rrows.now in
    let out = a.out.now in
    let v = first (compose_checks s r (length out)) in
    let w : c.judge.result ≡ Ok c.in_ok-judged.judged = c.in_ok-judged.was in
    let p = by_fine v (summed (result s r) (routed a.factors s r)) (written (length_of a.s) (result s r) out) out (granted_ok v (sym c.judge.ensures ∙ w)).0 in
    (ap Ok c.compose_accepted.ensures.0 ∙ p.0, c.compose_accepted.ensures.1 ∙ p.1)
