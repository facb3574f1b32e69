-- `bitops::combine::combine` meets its contract: a refusal is answered and nothing written; else the loop's summary is given.
-- By the verdict of its table. Assumes nothing.
use borrow.Author.Rules.{rules}
use mathlib.Core.Path.{◌≡◌, sym, ap, ◌∙◌}
use mathlib.Core.Bool.{Bool}
use mathlib.Core.List.{List}
use lib.ListN.{length}
use Rattle.std.specs.Prelude.{Ok, Err}
use Rattle.rows.specs.Laid.{written}
use Rattle.rows.specs.Table.{first}
use Rattle.rules.specs.Operand.{lent, length_of}
use Rattle.rules.specs.Answer.{summed, no_route}
use Rattle.rules.specs.SetOps.{row_of, pair_checks, combination, combined, combined_out}
use Rattle.rules.proofs.AnswerLaws.{by_fine, by_refusal}
use Rattle.rules.proofs.SetOperations.{pair_fine}
use Rattle.bitops.proofs.VerdictLaws.{taken_flat, flat_combination}
use Rattle.bitops.proofs.combine.combine.Goals as goal

pub returns-in_err-judge_two : goal.returns-in_err-judge_two
unfolding combined combined_out
returns-in_err-judge_two c =
    let a = c.args in
    let one = lent a.a a.awords.now a.arows.now in
    let two = lent a.b a.bwords.now a.brows.now in
    let rows = combination (row_of a.op) one two in
    let w : c.judge_two.result ≡ Err c.in_err-judge_two.field-0.0 = c.in_err-judge_two.was in
    let r : c.from_residual.result ≡ Err c.in_err-judge_two.field-0.0 = search rules in
    let p = by_refusal (first (pair_checks one two (length a.out.now))) (summed rows no_route) (written (length_of a.a) rows a.out.now) a.out.now _ (sym c.judge_two.ensures ∙ w) in
    (r ∙ p.0, p.1)

pub answer-requires : goal.answer-requires
answer-requires c =
    let a = c.args in
    let one = lent a.a a.awords.now a.arows.now in
    let two = lent a.b a.bwords.now a.brows.now in
    let w : c.judge_two.result ≡ Ok tt = c.in_ok-judge_two.was in
    let t = (pair_fine one two (length a.out.now)).0 (sym c.judge_two.ensures ∙ w) in
    ((taken_flat one t.0, taken_flat two t.1, t.2), t.3)

pub returns : goal.returns
unfolding combined combined_out
returns c =
    let a = c.args in
    let one = lent a.a a.awords.now a.arows.now in
    let two = lent a.b a.bwords.now a.brows.now in
    let rows = combination (row_of a.op) one two in
    let w : c.judge_two.result ≡ Ok tt = c.in_ok-judge_two.was in
    let fine = sym c.judge_two.ensures ∙ w in
    let t = (pair_fine one two (length a.out.now)).0 fine in
    let same = flat_combination (row_of a.op) one two t.0 t.1 in
    let p = by_fine (first (pair_checks one two (length a.out.now))) (summed rows no_route) (written (length_of a.a) rows a.out.now) a.out.now fine in (
      ap Ok (c.answer.ensures.0 ∙ ap (λ (l : List Bool). summed l no_route) same) ∙ p.0,
      c.answer.ensures.1 ∙ ap (λ (l : List Bool). written (length_of a.a) l a.out.now) same ∙ p.1,
    )
