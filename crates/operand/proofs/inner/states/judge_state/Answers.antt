-- `operand::inner::states::judge_state` meets its contract: the three bounds, in order.
-- By the law of tables one after the other. Assumes nothing.
use Rattle.std.proofs.Common.{ℕ, ◌≡◌, sym, ap, ◌∙◌, rules, Ok, Err, List, [], ◌∷◌}
use Rattle.std.proofs.Math.Decide.{dec_le}
use Rattle.rows.specs.declared.Reason.TheVariants.{StateOutOfBound}
use Rattle.rows.specs.Table.{Verdict, Line, no_operand, first, need, if_fine}
use Rattle.rows.proofs.TableLaws.{first_append}
use Rattle.rules.specs.Operand.{limit}
use Rattle.rules.specs.Stream.{bound_checks}
use Rattle.operand.proofs.inner.states.judge_state.Goals as goal

module _ (rows set n : ℕ) where
  abbrev kept : List Line
  kept = need (dec_le n set) StateOutOfBound no_operand ∷ []

  abbrev ranks : List Line
  ranks = need (dec_le set rows) StateOutOfBound no_operand ∷ []

  abbrev done : List Line
  done = need (dec_le rows limit) StateOutOfBound no_operand ∷ []

  -- bound by bound
  parts : first (bound_checks rows set n) ≡ if_fine (first kept) (if_fine (first ranks) (first done) (first ranks)) (first kept)
  parts = first_append kept (need (dec_le set rows) StateOutOfBound no_operand ∷ done) ∙ ap (λ (v : Verdict). if_fine (first kept) v (first kept)) (first_append ranks done)

pub returns-in_err-at_most : goal.returns-in_err-at_most
returns-in_err-at_most c =
    let a = c.args in
    let w : c.at_most.result ≡ Err c.in_err-at_most.field-0.0 = c.in_err-at_most.was in
    let r : c.from_residual.result ≡ Err c.in_err-at_most.field-0.0 = search rules in
    r ∙ sym (parts a.done.0 a.ranks.0 a.kept ∙ ap (λ (v : Verdict). if_fine v (if_fine (first (ranks a.done.0 a.ranks.0 a.kept)) (first (done a.done.0 a.ranks.0 a.kept)) (first (ranks a.done.0 a.ranks.0 a.kept))) v) (sym c.at_most.ensures ∙ w))

pub returns-in_err-at_most-2 : goal.returns-in_err-at_most-2
returns-in_err-at_most-2 c =
    let a = c.args in
    let one : c.at_most.result ≡ Ok c.in_ok-at_most.field-0 = c.in_ok-at_most.was in
    let w : c.at_most-2.result ≡ Err c.in_err-at_most-2.field-0.0 = c.in_err-at_most-2.was in
    let r : c.from_residual-in_err-at_most-2.result ≡ Err c.in_err-at_most-2.field-0.0 = search rules in
    r ∙ sym (parts a.done.0 a.ranks.0 a.kept ∙ ap (λ (v : Verdict). if_fine v (if_fine (first (ranks a.done.0 a.ranks.0 a.kept)) (first (done a.done.0 a.ranks.0 a.kept)) (first (ranks a.done.0 a.ranks.0 a.kept))) v) (sym c.at_most.ensures ∙ one)
    ∙ ap (λ (v : Verdict). if_fine v (first (done a.done.0 a.ranks.0 a.kept)) v) (sym c.at_most-2.ensures ∙ w))

pub returns : goal.returns
returns c =
    let a = c.args in
    let one : c.at_most.result ≡ Ok c.in_ok-at_most.field-0 = c.in_ok-at_most.was in
    let two : c.at_most-2.result ≡ Ok c.in_ok-at_most-2.field-0 = c.in_ok-at_most-2.was in
    c.at_most-3.ensures
    ∙ sym (parts a.done.0 a.ranks.0 a.kept ∙ ap (λ (v : Verdict). if_fine v (if_fine (first (ranks a.done.0 a.ranks.0 a.kept)) (first (done a.done.0 a.ranks.0 a.kept)) (first (ranks a.done.0 a.ranks.0 a.kept))) v) (sym c.at_most.ensures ∙ one)
    ∙ ap (λ (v : Verdict). if_fine v (first (done a.done.0 a.ranks.0 a.kept)) v) (sym c.at_most-2.ensures ∙ two))
