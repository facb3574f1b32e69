-- `composer::judge::judge_lengths` meets its contract: 7, then 11, then 8.
-- By the law of tables one after the other. Assumes nothing.
use Rattle.std.proofs.Common.{◌≡◌, refl, sym, ap, ◌∙◌, rules, Ok, Err, ℕ, List, [], ◌∷◌}
use Rattle.std.proofs.Math.Decide.{ℕ_discrete, dec_le}
use Rattle.rows.specs.declared.Reason.TheVariants.{LengthsDiffer, NoRoom, StreamOverLimit}
use Rattle.rows.specs.Laid.{words_for}
use Rattle.rows.specs.Table.{Verdict, Line, no_operand, first, need, if_fine}
use Rattle.rows.proofs.TableLaws.{first_append}
use Rattle.rules.specs.Operand.{limit}
use Rattle.rules.specs.Stream.{piece_checks}
use Rattle.composer.proofs.judge.judge_lengths.Goals as goal

module _ (ranks set end room : ℕ) where
  abbrev seven : List Line
  seven = need (ℕ_discrete ranks set) LengthsDiffer no_operand ∷ []

  abbrev eleven : List Line
  eleven = need (dec_le end limit) StreamOverLimit no_operand ∷ []

  abbrev eight : List Line
  eight = need (dec_le (words_for end) room) NoRoom no_operand ∷ []

  -- line by line
  parts : first (piece_checks ranks set end room) ≡ if_fine (first seven) (if_fine (first eleven) (first eight) (first eleven)) (first seven)
  parts =
      first_append seven (need (dec_le end limit) StreamOverLimit no_operand ∷ eight)
      ∙ ap (λ (v : Verdict). if_fine (first seven) v (first seven)) (first_append eleven eight)

  after : (v : Verdict) → first seven ≡ v → first (piece_checks ranks set end room) ≡ if_fine v (if_fine (first eleven) (first eight) (first eleven)) v
  after v e = parts ∙ ap (λ (w : Verdict). if_fine w (if_fine (first eleven) (first eight) (first eleven)) w) e

pub returns-in_err-equal : goal.returns-in_err-equal
returns-in_err-equal c =
    let a = c.args in
    let w : c.equal.result ≡ Err c.in_err-equal.field-0.0 = c.in_err-equal.was in
    let r : c.from_residual.result ≡ Err c.in_err-equal.field-0.0 = search rules in
    r ∙ sym (after a.ranks a.set a.end a.room _ (sym c.equal.ensures ∙ w))

pub returns-in_err-at_most : goal.returns-in_err-at_most
returns-in_err-at_most c =
    let a = c.args in
    let one : c.equal.result ≡ Ok c.in_ok-equal.field-0 = c.in_ok-equal.was in
    let w : c.at_most.result ≡ Err c.in_err-at_most.field-0.0 = c.in_err-at_most.was in
    let r : c.from_residual-in_err-at_most.result ≡ Err c.in_err-at_most.field-0.0 = search rules in
    r
    ∙ sym (after a.ranks a.set a.end a.room _ (sym c.equal.ensures ∙ one)
    ∙ ap (λ (v : Verdict). if_fine v (first (eight a.ranks a.set a.end a.room)) v) (sym c.at_most.ensures ∙ w))

pub returns : goal.returns
returns c =
    let a = c.args in
    let one : c.equal.result ≡ Ok c.in_ok-equal.field-0 = c.in_ok-equal.was in
    let two : c.at_most.result ≡ Ok c.in_ok-at_most.field-0 = c.in_ok-at_most.was in
    let room : c.has_room.result ≡ first (eight a.ranks a.set a.end a.room) = rw (c.has_room.ensures, c.words_for.ensures) refl in
    room
    ∙ sym (after a.ranks a.set a.end a.room _ (sym c.equal.ensures ∙ one)
    ∙ ap (λ (v : Verdict). if_fine v (first (eight a.ranks a.set a.end a.room)) v) (sym c.at_most.ensures ∙ two))
