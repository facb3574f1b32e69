-- `intersect_by_rank::inner::judge::judge` meets its contract: the operands' refusal, then 7, then 8, and else both counts.
-- By the law of parts in order. Assumes nothing.
use Rattle.std.proofs.Common.{◌≡◌, refl, sym, ap, ◌∙◌, rules, Ok, Err, [], ◌∷◌}
use Rattle.std.proofs.Math.Decide.{ℕ_discrete, dec_le}
use Rattle.rows.specs.declared.Reason.TheVariants.{LengthsDiffer, NoRoom}
use Rattle.rows.specs.Laid.{words_for}
use Rattle.rows.specs.Table.{no_operand, need, first}
use Rattle.rows.proofs.TableLaws.{granted_ok, granted_err, passes_ok, passes_err}
use Rattle.rules.specs.Operand.{lent, length_of, count_of}
use Rattle.rules.specs.Compose.{both_checks, compose_checks}
use Rattle.intersect_by_rank.specs.declared.inner.judge.Judged.{Judged}
use Rattle.intersect_by_rank.specs.Judged.{counts_of}
use Rattle.intersect_by_rank.proofs.JudgeLaws.{all_err_both, all_err_lengths, all_by_room}
use Rattle.intersect_by_rank.proofs.inner.judge.judge.Goals as goal

pub returns-in_err-both : goal.returns-in_err-both
returns-in_err-both c =
    let a = c.args in
    let s = lent a.s a.swords.now a.srows.now in
    let r = lent a.r a.rwords.now a.rrows.now in
    let w : c.judge_both.result ≡ Err c.in_err-both.field-0.0 = c.in_err-both.was in
    let e : c.from_residual.result ≡ Err c.in_err-both.field-0.0 = search rules in
    e ∙ sym (passes_err (first (compose_checks s r a.room)) (counts_of s r) (all_err_both s r a.room (granted_err (first (both_checks s r)) (counts_of s r) (sym c.judge_both.ensures ∙ w))))

pub returns-in_err-equal : goal.returns-in_err-equal
returns-in_err-equal c =
    let a = c.args in
    let s = lent a.s a.swords.now a.srows.now in
    let r = lent a.r a.rwords.now a.rrows.now in
    let one : c.judge_both.result ≡ Ok c.in_ok-both.both = c.in_ok-both.was in
    let own = granted_ok (first (both_checks s r)) (sym c.judge_both.ensures ∙ one) in
    let w : c.equal.result ≡ Err c.in_err-equal.field-0.0 = c.in_err-equal.was in
    let e : c.from_residual-in_err-equal.result ≡ Err c.in_err-equal.field-0.0 = search rules in
    let line : first (need (ℕ_discrete (length_of a.r) (count_of s)) LengthsDiffer no_operand ∷ []) ≡ c.equal.result =
    rw (c.equal.ensures, c.length_of.ensures, ap (λ (j : Judged). j.rows) own.1) refl in
    e ∙ sym (passes_err (first (compose_checks s r a.room)) (counts_of s r) (all_err_lengths s r a.room own.0 (line ∙ w)))

pub returns-in_err-has_room : goal.returns-in_err-has_room
returns-in_err-has_room c =
    let a = c.args in
    let s = lent a.s a.swords.now a.srows.now in
    let r = lent a.r a.rwords.now a.rrows.now in
    let one : c.judge_both.result ≡ Ok c.in_ok-both.both = c.in_ok-both.was in
    let own = granted_ok (first (both_checks s r)) (sym c.judge_both.ensures ∙ one) in
    let two : c.equal.result ≡ Ok c.in_ok-equal.field-0 = c.in_ok-equal.was in
    let line : first (need (ℕ_discrete (length_of a.r) (count_of s)) LengthsDiffer no_operand ∷ []) ≡ c.equal.result =
    rw (c.equal.ensures, c.length_of.ensures, ap (λ (j : Judged). j.rows) own.1) refl in
    let w : c.has_room.result ≡ Err c.in_err-has_room.field-0.0 = c.in_err-has_room.was in
    let e : c.from_residual-in_err-has_room.result ≡ Err c.in_err-has_room.field-0.0 = search rules in
    let room : first (need (dec_le (words_for (length_of a.s)) a.room) NoRoom no_operand ∷ []) ≡ c.has_room.result =
    rw (c.has_room.ensures, c.words_for.ensures, c.length_of-2.ensures) refl in
    e ∙ sym (passes_err (first (compose_checks s r a.room)) (counts_of s r) (all_by_room s r a.room own.0 (line ∙ two) ∙ room ∙ w))

pub returns : goal.returns
returns c =
    let a = c.args in
    let s = lent a.s a.swords.now a.srows.now in
    let r = lent a.r a.rwords.now a.rrows.now in
    let one : c.judge_both.result ≡ Ok c.in_ok-both.both = c.in_ok-both.was in
    let own = granted_ok (first (both_checks s r)) (sym c.judge_both.ensures ∙ one) in
    let two : c.equal.result ≡ Ok c.in_ok-equal.field-0 = c.in_ok-equal.was in
    let line : first (need (ℕ_discrete (length_of a.r) (count_of s)) LengthsDiffer no_operand ∷ []) ≡ c.equal.result =
    rw (c.equal.ensures, c.length_of.ensures, ap (λ (j : Judged). j.rows) own.1) refl in
    let w : c.has_room.result ≡ Ok c.in_ok-has_room.field-0 = c.in_ok-has_room.was in
    let room : first (need (dec_le (words_for (length_of a.s)) a.room) NoRoom no_operand ∷ []) ≡ c.has_room.result =
    rw (c.has_room.ensures, c.words_for.ensures, c.length_of-2.ensures) refl in
    sym (passes_ok (first (compose_checks s r a.room)) (counts_of s r) (all_by_room s r a.room own.0 (line ∙ two) ∙ room ∙ w) ∙ ap Ok own.1)
