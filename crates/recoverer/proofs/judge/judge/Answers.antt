-- `recoverer::judge::judge` meets its contract: the state's refusal, then the masks', then the piece's, and else the counts.
-- By the law of parts in order. Assumes nothing.
use Rattle.std.proofs.Common.{◌≡◌, sym, ap, ◌∙◌, rules, Ok, Err}
use Rattle.rows.specs.Table.{first}
use Rattle.rows.proofs.TableLaws.{granted_ok, granted_err, passes_ok, passes_err}
use Rattle.rules.specs.Operand.{lent}
use Rattle.rules.specs.RecoverStream.{masks_of, judged}
use Rattle.recover.specs.declared.inner.judge.Matched.{Matched}
use Rattle.recover.specs.Judged.{match_checks, counts_of}
use Rattle.recover.proofs.JudgeLaws.{match_fine}
use Rattle.recoverer.proofs.OpeningLaws.{state_short, judged_err_state, judged_err_masks, judged_by_piece}
use Rattle.recoverer.proofs.judge.judge.Goals as goal

pub returns-in_err-judge_state : goal.returns-in_err-judge_state
returns-in_err-judge_state c =
    let a = c.args in
    let m = masks_of (lent a.s a.swords.now a.srows.now) (lent a.k a.kwords.now a.krows.now) in
    let w : c.judge_state.result ≡ Err c.in_err-judge_state.field-0.0 = c.in_err-judge_state.was in
    let r : c.from_residual.result ≡ Err c.in_err-judge_state.field-0.0 = search rules in
    r ∙ sym (passes_err (judged a.state m a.room) (counts_of m.self m.kept) (judged_err_state a.state m a.room (sym c.judge_state.ensures ∙ w)))

pub returns-in_err-matched : goal.returns-in_err-matched
returns-in_err-matched c =
    let a = c.args in
    let m = masks_of (lent a.s a.swords.now a.srows.now) (lent a.k a.kwords.now a.krows.now) in
    let one : c.judge_state.result ≡ Ok c.in_ok-judge_state.field-0 = c.in_ok-judge_state.was in
    let w : c.judge_masks.result ≡ Err c.in_err-matched.field-0.0 = c.in_err-matched.was in
    let r : c.from_residual-in_err-matched.result ≡ Err c.in_err-matched.field-0.0 = search rules in
    r ∙ sym (passes_err (judged a.state m a.room) (counts_of m.self m.kept)
    (judged_err_masks a.state m a.room (sym c.judge_state.ensures ∙ one) (granted_err (first (match_checks m.self m.kept)) (counts_of m.self m.kept) (sym c.judge_masks.ensures ∙ w))))

pub judge_piece-requires : goal.judge_piece-requires
judge_piece-requires c =
    let a = c.args in
    let m = masks_of (lent a.s a.swords.now a.srows.now) (lent a.k a.kwords.now a.krows.now) in
    let one : c.judge_state.result ≡ Ok c.in_ok-judge_state.field-0 = c.in_ok-judge_state.was in
    let two : c.judge_masks.result ≡ Ok c.in_ok-matched.matched = c.in_ok-matched.was in
    let own = granted_ok (first (match_checks m.self m.kept)) (sym c.judge_masks.ensures ∙ two) in
    let well = match_fine m.self m.kept own.0 in
    let short = state_short a.state (sym c.judge_state.ensures ∙ one) in
    (well.0, well.1, well.2, ap (λ (x : Matched). x.set) (sym own.1), short.0, short.1)

pub returns-in_err-judge_piece : goal.returns-in_err-judge_piece
returns-in_err-judge_piece c =
    let a = c.args in
    let m = masks_of (lent a.s a.swords.now a.srows.now) (lent a.k a.kwords.now a.krows.now) in
    let one : c.judge_state.result ≡ Ok c.in_ok-judge_state.field-0 = c.in_ok-judge_state.was in
    let two : c.judge_masks.result ≡ Ok c.in_ok-matched.matched = c.in_ok-matched.was in
    let own = granted_ok (first (match_checks m.self m.kept)) (sym c.judge_masks.ensures ∙ two) in
    let w : c.judge_piece.result ≡ Err c.in_err-judge_piece.field-0.0 = c.in_err-judge_piece.was in
    let r : c.from_residual-in_err-judge_piece.result ≡ Err c.in_err-judge_piece.field-0.0 = search rules in
    r ∙ sym (passes_err (judged a.state m a.room) (counts_of m.self m.kept) (judged_by_piece a.state m a.room (sym c.judge_state.ensures ∙ one) own.0 ∙ sym c.judge_piece.ensures ∙ w))

pub returns : goal.returns
returns c =
    let a = c.args in
    let m = masks_of (lent a.s a.swords.now a.srows.now) (lent a.k a.kwords.now a.krows.now) in
    let one : c.judge_state.result ≡ Ok c.in_ok-judge_state.field-0 = c.in_ok-judge_state.was in
    let two : c.judge_masks.result ≡ Ok c.in_ok-matched.matched = c.in_ok-matched.was in
    let own = granted_ok (first (match_checks m.self m.kept)) (sym c.judge_masks.ensures ∙ two) in
    let w : c.judge_piece.result ≡ Ok c.in_ok-judge_piece.field-0 = c.in_ok-judge_piece.was in
    sym (passes_ok (judged a.state m a.room) (counts_of m.self m.kept) (judged_by_piece a.state m a.room (sym c.judge_state.ensures ∙ one) own.0 ∙ sym c.judge_piece.ensures ∙ w) ∙ ap Ok own.1)
