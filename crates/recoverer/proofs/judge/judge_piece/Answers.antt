-- `recoverer::judge::judge_piece` meets its contract: 11 where the piece would end past the limit, and else what 17 and 8 say.
-- By the law of parts in order. Assumes nothing.
use Rattle.std.proofs.Common.{◌≡◌, ◌+◌, refl, sym, ap, ◌∙◌, rules, arith, Ok, Err}
use Rattle.rows.specs.Table.{first}
use Rattle.rules.specs.Operand.{lent}
use Rattle.rules.specs.RecoverStream.{masks_of, long, limit_checks}
use Rattle.rules.proofs.OperandLaws.{accepted_few}
use Rattle.recover.specs.Judged.{last_checks}
use Rattle.recoverer.proofs.OpeningLaws.{piece_err_limit, piece_by_last}
use Rattle.recoverer.proofs.judge.judge_piece.Goals as goal

pub returns-in_err-at_most : goal.returns-in_err-at_most
returns-in_err-at_most c =
    let a = c.args in
    let m = masks_of (lent a.s a.swords.now a.srows.now) (lent a.k a.kwords.now a.krows.now) in
    let w : c.at_most.result ≡ Err c.in_err-at_most.field-0.0 = c.in_err-at_most.was in
    let r : c.from_residual.result ≡ Err c.in_err-at_most.field-0.0 = search rules in
    let line : first (limit_checks (a.state.done.0 + long m)) ≡ c.at_most.result = rw (c.at_most.ensures, c.length_of.ensures) refl in
    r ∙ sym (piece_err_limit a.state m a.room (line ∙ w))

pub overflow_add-bits : goal.overflow_add-bits
overflow_add-bits c =
    let a = c.args in
    omega (arith, c.requires.3, c.requires.5, accepted_few (lent a.s a.swords.now a.srows.now) c.requires.0)

pub returns : goal.returns
returns c =
    let a = c.args in
    let m = masks_of (lent a.s a.swords.now a.srows.now) (lent a.k a.kwords.now a.krows.now) in
    let w : c.at_most.result ≡ Ok c.in_ok-at_most.field-0 = c.in_ok-at_most.was in
    let line : first (limit_checks (a.state.done.0 + long m)) ≡ c.at_most.result = rw (c.at_most.ensures, c.length_of.ensures) refl in
    c.judge_inside.ensures
    ∙ sym (piece_by_last a.state m a.room (line ∙ w) ∙ ap (λ n. first (last_checks m.self m.kept (a.state.ranks.0 + n) a.room)) (sym c.requires.3))
