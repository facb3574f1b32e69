-- `intersect_by_rank::inner::judge::judge_both` meets its contract: self's refusal, then the rank mask's, and else both counts.
-- By the law of parts in order. Assumes nothing.
use Rattle.std.proofs.Common.{◌≡◌, sym, ap₂, ◌∙◌, rules, Ok, Err}
use Rattle.rows.specs.Table.{first}
use Rattle.rows.proofs.TableLaws.{passes_ok, passes_err}
use Rattle.rules.specs.Operand.{lent}
use Rattle.rules.specs.Compose.{both_checks}
use Rattle.operand.proofs.PairLaws.{both_err_own, both_err_other, both_ok}
use Rattle.intersect_by_rank.specs.Judged.{counts_of}
use Rattle.intersect_by_rank.proofs.inner.judge.judge_both.Goals as goal

pub returns-in_err-rows : goal.returns-in_err-rows
returns-in_err-rows c =
    let a = c.args in
    let s = lent a.s a.swords.now a.srows.now in
    let r = lent a.r a.rwords.now a.rrows.now in
    let w : c.check.result ≡ Err c.in_err-rows.field-0.0 = c.in_err-rows.was in
    let e : c.from_residual.result ≡ Err c.in_err-rows.field-0.0 = search rules in
    e ∙ sym (passes_err (first (both_checks s r)) (counts_of s r) (both_err_own s r (sym c.check.ensures ∙ w)))

pub returns-in_err-ranks : goal.returns-in_err-ranks
returns-in_err-ranks c =
    let a = c.args in
    let s = lent a.s a.swords.now a.srows.now in
    let r = lent a.r a.rwords.now a.rrows.now in
    let one : c.check.result ≡ Ok c.in_ok-rows.rows = c.in_ok-rows.was in
    let w : c.check-2.result ≡ Err c.in_err-ranks.field-0.0 = c.in_err-ranks.was in
    let e : c.from_residual-in_err-ranks.result ≡ Err c.in_err-ranks.field-0.0 = search rules in
    e ∙ sym (passes_err (first (both_checks s r)) (counts_of s r) (both_err_other s r (sym c.check.ensures ∙ one) (sym c.check-2.ensures ∙ w)))

pub returns : goal.returns
returns c =
    let a = c.args in
    let s = lent a.s a.swords.now a.srows.now in
    let r = lent a.r a.rwords.now a.rrows.now in
    let one : c.check.result ≡ Ok c.in_ok-rows.rows = c.in_ok-rows.was in
    let two : c.check-2.result ≡ Ok c.in_ok-ranks.ranks = c.in_ok-ranks.was in
    let both = both_ok s r (sym c.check.ensures ∙ one) (sym c.check-2.ensures ∙ two) in
    sym (passes_ok (first (both_checks s r)) (counts_of s r) both.0 ∙ ap₂ (λ m n. Ok (record { rows = m; ranks = n })) both.1 both.2)
