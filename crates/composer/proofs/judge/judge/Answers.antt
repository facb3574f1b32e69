-- `composer::judge::judge` meets its contract: the state's refusal, then the operands', then what the lengths say, and else both counts.
-- By the law of parts in order. Assumes nothing.
use Rattle.std.proofs.Common.{◌≡◌, ◌+◌, refl, sym, ap, ◌∙◌, rules, arith, Ok, Err}
use Rattle.rows.specs.Table.{first}
use Rattle.rows.proofs.TableLaws.{granted_ok, granted_err, passes_ok, passes_err, fine_exactly}
use Rattle.rules.specs.Operand.{lent, length_of, count_of}
use Rattle.rules.specs.Compose.{both_checks}
use Rattle.rules.specs.Stream.{pair_of, long, state_checks, piece_checks, judged}
use Rattle.rules.proofs.OperandLaws.{accepted_limit}
use Rattle.rules.proofs.ComposeLaws.{both_met}
use Rattle.intersect_by_rank.specs.declared.inner.judge.Judged.{Judged}
use Rattle.intersect_by_rank.specs.Judged.{counts_of}
use Rattle.composer.proofs.OpeningLaws.{judged_err_state, judged_err_both, judged_by_lengths}
use Rattle.composer.proofs.judge.judge.Goals as goal

pub returns-in_err-judge_state : goal.returns-in_err-judge_state
returns-in_err-judge_state c =
    let a = c.args in
    let p = pair_of (lent a.s a.swords.now a.srows.now) (lent a.r a.rwords.now a.rrows.now) in
    let w : c.judge_state.result ≡ Err c.in_err-judge_state.field-0.0 = c.in_err-judge_state.was in
    let e : c.from_residual.result ≡ Err c.in_err-judge_state.field-0.0 = search rules in
    e ∙ sym (passes_err (judged a.state p a.room) (counts_of p.self p.rank) (judged_err_state a.state p a.room (sym c.judge_state.ensures ∙ w)))

pub returns-in_err-both : goal.returns-in_err-both
returns-in_err-both c =
    let a = c.args in
    let p = pair_of (lent a.s a.swords.now a.srows.now) (lent a.r a.rwords.now a.rrows.now) in
    let one : c.judge_state.result ≡ Ok c.in_ok-judge_state.field-0 = c.in_ok-judge_state.was in
    let w : c.judge_both.result ≡ Err c.in_err-both.field-0.0 = c.in_err-both.was in
    let e : c.from_residual-in_err-both.result ≡ Err c.in_err-both.field-0.0 = search rules in
    e ∙ sym (passes_err (judged a.state p a.room) (counts_of p.self p.rank)
    (judged_err_both a.state p a.room (sym c.judge_state.ensures ∙ one) (granted_err (first (both_checks p.self p.rank)) (counts_of p.self p.rank) (sym c.judge_both.ensures ∙ w))))

pub overflow_add-end : goal.overflow_add-end
overflow_add-end c =
    let a = c.args in
    let p = pair_of (lent a.s a.swords.now a.srows.now) (lent a.r a.rwords.now a.rrows.now) in
    let one : c.judge_state.result ≡ Ok c.in_ok-judge_state.field-0 = c.in_ok-judge_state.was in
    let two : c.judge_both.result ≡ Ok c.in_ok-both.both = c.in_ok-both.was in
    let own = granted_ok (first (both_checks p.self p.rank)) (sym c.judge_both.ensures ∙ two) in
    let well = (both_met p.self p.rank).0 ((fine_exactly (both_checks p.self p.rank)).0 own.0) in
    let state = (fine_exactly (state_checks a.state)).0 (sym c.judge_state.ensures ∙ one) in
    omega (arith, c.length_of.ensures, accepted_limit p.self well.0, state.1.1.0)

pub returns-in_err-judge_lengths : goal.returns-in_err-judge_lengths
returns-in_err-judge_lengths c =
    let a = c.args in
    let p = pair_of (lent a.s a.swords.now a.srows.now) (lent a.r a.rwords.now a.rrows.now) in
    let one : c.judge_state.result ≡ Ok c.in_ok-judge_state.field-0 = c.in_ok-judge_state.was in
    let two : c.judge_both.result ≡ Ok c.in_ok-both.both = c.in_ok-both.was in
    let own = granted_ok (first (both_checks p.self p.rank)) (sym c.judge_both.ensures ∙ two) in
    let lines : first (piece_checks (length_of a.r) (count_of p.self) (a.state.done.0 + long p) a.room) ≡ c.judge_lengths.result =
    rw (c.judge_lengths.ensures, c.length_of.ensures, c.length_of-2.ensures, ap (λ (j : Judged). j.rows) own.1) refl in
    let w : c.judge_lengths.result ≡ Err c.in_err-judge_lengths.field-0.0 = c.in_err-judge_lengths.was in
    let e : c.from_residual-in_err-judge_lengths.result ≡ Err c.in_err-judge_lengths.field-0.0 = search rules in
    e ∙ sym (passes_err (judged a.state p a.room) (counts_of p.self p.rank) (judged_by_lengths a.state p a.room (sym c.judge_state.ensures ∙ one) own.0 ∙ lines ∙ w))

pub returns : goal.returns
returns c =
    let a = c.args in
    let p = pair_of (lent a.s a.swords.now a.srows.now) (lent a.r a.rwords.now a.rrows.now) in
    let one : c.judge_state.result ≡ Ok c.in_ok-judge_state.field-0 = c.in_ok-judge_state.was in
    let two : c.judge_both.result ≡ Ok c.in_ok-both.both = c.in_ok-both.was in
    let own = granted_ok (first (both_checks p.self p.rank)) (sym c.judge_both.ensures ∙ two) in
    let lines : first (piece_checks (length_of a.r) (count_of p.self) (a.state.done.0 + long p) a.room) ≡ c.judge_lengths.result =
    rw (c.judge_lengths.ensures, c.length_of.ensures, c.length_of-2.ensures, ap (λ (j : Judged). j.rows) own.1) refl in
    let w : c.judge_lengths.result ≡ Ok c.in_ok-judge_lengths.field-0 = c.in_ok-judge_lengths.was in
    sym (passes_ok (judged a.state p a.room) (counts_of p.self p.rank) (judged_by_lengths a.state p a.room (sym c.judge_state.ensures ∙ one) own.0 ∙ lines ∙ w) ∙ ap Ok own.1)
