-- `recover::inner::judge::judge_masks` meets its contract: each refusal is its part's where the parts before it are met.
-- By the law of parts in order. Assumes nothing.
use Rattle.std.proofs.Common.{◌≡◌, refl, sym, ap₂, ◌∙◌, rules, Ok, Err}
use Rattle.rows.specs.Table.{first}
use Rattle.rows.proofs.TableLaws.{passes_ok, passes_err}
use Rattle.rules.specs.Operand.{lent}
use Rattle.rules.specs.Recover.{lengths_checks}
use Rattle.operand.proofs.PairLaws.{both_err_own, both_err_other, both_ok}
use Rattle.recover.specs.Judged.{match_checks, counts_of}
use Rattle.recover.proofs.JudgeLaws.{match_err_both, match_by_lengths}
use Rattle.recover.proofs.inner.judge.judge_masks.Goals as goal

pub returns-in_err-set : goal.returns-in_err-set
returns-in_err-set c =
    let a = c.args in
    let s = lent a.s a.swords.now a.srows.now in
    let k = lent a.k a.kwords.now a.krows.now in
    let w : c.check.result ≡ Err c.in_err-set.field-0.0 = c.in_err-set.was in
    let r : c.from_residual.result ≡ Err c.in_err-set.field-0.0 = search rules in
    r ∙ sym (passes_err (first (match_checks s k)) (counts_of s k) (match_err_both s k (both_err_own s k (sym c.check.ensures ∙ w))))

pub returns-in_err-kept : goal.returns-in_err-kept
returns-in_err-kept c =
    let a = c.args in
    let s = lent a.s a.swords.now a.srows.now in
    let k = lent a.k a.kwords.now a.krows.now in
    let one : c.check.result ≡ Ok c.in_ok-set.set = c.in_ok-set.was in
    let w : c.check-2.result ≡ Err c.in_err-kept.field-0.0 = c.in_err-kept.was in
    let r : c.from_residual-in_err-kept.result ≡ Err c.in_err-kept.field-0.0 = search rules in
    r ∙ sym (passes_err (first (match_checks s k)) (counts_of s k) (match_err_both s k (both_err_other s k (sym c.check.ensures ∙ one) (sym c.check-2.ensures ∙ w))))

pub returns-in_err-equal : goal.returns-in_err-equal
returns-in_err-equal c =
    let a = c.args in
    let s = lent a.s a.swords.now a.srows.now in
    let k = lent a.k a.kwords.now a.krows.now in
    let one : c.check.result ≡ Ok c.in_ok-set.set = c.in_ok-set.was in
    let two : c.check-2.result ≡ Ok c.in_ok-kept.kept = c.in_ok-kept.was in
    let both = both_ok s k (sym c.check.ensures ∙ one) (sym c.check-2.ensures ∙ two) in
    let w : c.equal.result ≡ Err c.in_err-equal.field-0.0 = c.in_err-equal.was in
    let r : c.from_residual-in_err-equal.result ≡ Err c.in_err-equal.field-0.0 = search rules in
    let lengths : first (lengths_checks s k) ≡ c.equal.result = rw (c.equal.ensures, c.length_of.ensures, c.length_of-2.ensures) refl in
    r ∙ sym (passes_err (first (match_checks s k)) (counts_of s k) (match_by_lengths s k both.0 ∙ lengths ∙ w))

pub returns : goal.returns
returns c =
    let a = c.args in
    let s = lent a.s a.swords.now a.srows.now in
    let k = lent a.k a.kwords.now a.krows.now in
    let one : c.check.result ≡ Ok c.in_ok-set.set = c.in_ok-set.was in
    let two : c.check-2.result ≡ Ok c.in_ok-kept.kept = c.in_ok-kept.was in
    let both = both_ok s k (sym c.check.ensures ∙ one) (sym c.check-2.ensures ∙ two) in
    let w : c.equal.result ≡ Ok c.in_ok-equal.field-0 = c.in_ok-equal.was in
    let lengths : first (lengths_checks s k) ≡ c.equal.result = rw (c.equal.ensures, c.length_of.ensures, c.length_of-2.ensures) refl in
    sym (passes_ok (first (match_checks s k)) (counts_of s k) (match_by_lengths s k both.0 ∙ lengths ∙ w) ∙ ap₂ (λ m n. Ok (record { set = m; kept = n })) both.1 both.2)
