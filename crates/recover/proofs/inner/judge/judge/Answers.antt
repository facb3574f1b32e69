-- `recover::inner::judge::judge` meets its contract: the operands' refusal, or else what is told of the rows outside and of the room.
-- By the law of parts in order. Assumes nothing.
use Rattle.std.proofs.Common.{◌≡◌, sym, ap, ◌∙◌, rules, Ok, Err}
use Rattle.rows.specs.Table.{first}
use Rattle.rows.proofs.TableLaws.{granted_ok, granted_err, passes_ok, passes_err}
use Rattle.rules.specs.Operand.{lent, count_of}
use Rattle.rules.specs.Recover.{recover_checks}
use Rattle.recover.specs.declared.inner.judge.Matched.{Matched}
use Rattle.recover.specs.Judged.{match_checks, last_checks, counts_of}
use Rattle.recover.proofs.JudgeLaws.{match_fine, all_refused, all_passed}
use Rattle.recover.proofs.inner.judge.judge.Goals as goal

pub returns-in_err-matched : goal.returns-in_err-matched
returns-in_err-matched c =
    let a = c.args in
    let s = lent a.s a.swords.now a.srows.now in
    let k = lent a.k a.kwords.now a.krows.now in
    let w : c.judge_masks.result ≡ Err c.in_err-matched.field-0.0 = c.in_err-matched.was in
    let r : c.from_residual.result ≡ Err c.in_err-matched.field-0.0 = search rules in
    r ∙ sym (passes_err (first (recover_checks s k a.room)) (counts_of s k) (all_refused s k a.room (granted_err (first (match_checks s k)) (counts_of s k) (sym c.judge_masks.ensures ∙ w))))

pub judge_inside-requires : goal.judge_inside-requires
judge_inside-requires c =
    let a = c.args in
    let s = lent a.s a.swords.now a.srows.now in
    let k = lent a.k a.kwords.now a.krows.now in
    let w : c.judge_masks.result ≡ Ok c.in_ok-matched.matched = c.in_ok-matched.was in
    match_fine s k (granted_ok (first (match_checks s k)) (sym c.judge_masks.ensures ∙ w)).0

pub returns-in_err-judge_inside : goal.returns-in_err-judge_inside
returns-in_err-judge_inside c =
    let a = c.args in
    let s = lent a.s a.swords.now a.srows.now in
    let k = lent a.k a.kwords.now a.krows.now in
    let one : c.judge_masks.result ≡ Ok c.in_ok-matched.matched = c.in_ok-matched.was in
    let own = granted_ok (first (match_checks s k)) (sym c.judge_masks.ensures ∙ one) in
    let w : c.judge_inside.result ≡ Err c.in_err-judge_inside.field-0.0 = c.in_err-judge_inside.was in
    let r : c.from_residual-in_err-judge_inside.result ≡ Err c.in_err-judge_inside.field-0.0 = search rules in
    let last : first (last_checks s k (count_of s) a.room) ≡ c.judge_inside.result = rw (ap (λ (m : Matched). m.set) own.1) (sym c.judge_inside.ensures) in
    r ∙ sym (passes_err (first (recover_checks s k a.room)) (counts_of s k) (all_passed s k a.room own.0 ∙ last ∙ w))

pub returns : goal.returns
returns c =
    let a = c.args in
    let s = lent a.s a.swords.now a.srows.now in
    let k = lent a.k a.kwords.now a.krows.now in
    let one : c.judge_masks.result ≡ Ok c.in_ok-matched.matched = c.in_ok-matched.was in
    let own = granted_ok (first (match_checks s k)) (sym c.judge_masks.ensures ∙ one) in
    let w : c.judge_inside.result ≡ Ok c.in_ok-judge_inside.field-0 = c.in_ok-judge_inside.was in
    let last : first (last_checks s k (count_of s) a.room) ≡ c.judge_inside.result = rw (ap (λ (m : Matched). m.set) own.1) (sym c.judge_inside.ensures) in
    sym (passes_ok (first (recover_checks s k a.room)) (counts_of s k) (all_passed s k a.room own.0 ∙ last ∙ w) ∙ ap Ok own.1)
