-- `bitops::not` meets its contract: a refusal is answered and nothing written; else the loop's summary is given.
-- By the verdict of its table, and that not of a row asks nothing of the second. Assumes nothing.
use borrow.Author.Rules.{rules}
use mathlib.Core.Path.{◌≡◌, refl, sym, ap, ◌∙◌}
use mathlib.Core.Bool.{Bool, not}
use mathlib.Core.List.{List, map}
use lib.ListN.{length}
use Rattle.std.specs.Prelude.{Ok, Err}
use Rattle.rows.specs.Laid.{written}
use Rattle.rows.specs.Table.{first}
use Rattle.rules.specs.Operand.{lent, rows_of, length_of}
use Rattle.rules.specs.Answer.{summed, no_route}
use Rattle.rules.specs.SetOps.{not_checks, negated, negated_out}
use Rattle.rules.proofs.AnswerLaws.{by_fine, by_refusal}
use Rattle.rules.proofs.SetOperations.{one_fine}
use Rattle.bitops.proofs.VerdictLaws.{taken_flat, flat_not}
use Rattle.bitops.proofs.not.Goals as goal

pub returns-in_err-judge_one : goal.returns-in_err-judge_one
unfolding negated negated_out
returns-in_err-judge_one c =
    let a = c.args in
    let o = lent a.a a.awords.now a.arows.now in
    let rows = map not (rows_of o) in
    let w : c.judge_one.result ≡ Err c.in_err-judge_one.field-0.0 = c.in_err-judge_one.was in
    let r : c.from_residual.result ≡ Err c.in_err-judge_one.field-0.0 = search rules in
    let p = by_refusal (first (not_checks o (length a.out.now))) (summed rows no_route) (written (length_of a.a) rows a.out.now) a.out.now _ (sym c.judge_one.ensures ∙ w) in
    (r ∙ p.0, p.1)

pub answer-requires : goal.answer-requires
answer-requires c =
    let a = c.args in
    let o = lent a.a a.awords.now a.arows.now in
    let w : c.judge_one.result ≡ Ok tt = c.in_ok-judge_one.was in
    let t = (one_fine o (length a.out.now)).0 (sym c.judge_one.ensures ∙ w) in
    let flat = taken_flat o t.0 in
    ((flat, flat, refl), t.1)

pub returns : goal.returns
unfolding negated negated_out
returns c =
    let a = c.args in
    let o = lent a.a a.awords.now a.arows.now in
    let rows = map not (rows_of o) in
    let w : c.judge_one.result ≡ Ok tt = c.in_ok-judge_one.was in
    let fine = sym c.judge_one.ensures ∙ w in
    let t = (one_fine o (length a.out.now)).0 fine in
    let same = flat_not o t.0 in
    let p = by_fine (first (not_checks o (length a.out.now))) (summed rows no_route) (written (length_of a.a) rows a.out.now) a.out.now fine in (
      ap Ok (c.answer.ensures.0 ∙ ap (λ (l : List Bool). summed l no_route) same) ∙ p.0,
      c.answer.ensures.1 ∙ ap (λ (l : List Bool). written (length_of a.a) l a.out.now) same ∙ p.1,
    )
