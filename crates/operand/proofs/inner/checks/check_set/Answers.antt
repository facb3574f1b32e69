-- `operand::inner::checks::check_set` meets its contract: what counts as a list is refused before all else, and the rest goes on to the other checks.
-- By the table's first line. Assumes nothing.
use borrow.Author.Rules.{rules}
use mathlib.Core.Path.{◌≡◌, refl, sym, ap, ◌∙◌}
use mathlib.Core.Logic.{inr}
use mathlib.Core.Bool.{Bool, false, not}
use Rattle.std.specs.Prelude.{Ok, Err, Some}
use Rattle.rows.specs.declared.Reason.TheVariants.{ListGiven}
use Rattle.rows.specs.Table.{Named, refusal, need, dec_t, first}
use Rattle.rows.proofs.TableLaws.{first_is, granted_ok, granted_err, met_skips, is_true, is_false}
use Rattle.rules.specs.Operand.{Operand, lent, count_of, counts_as_list, set_checks, operand_checks}
use Rattle.operand.proofs.inner.checks.check_set.Goals as goal

pub returns-then-counts_as_list : goal.returns-then-counts_as_list
returns-then-counts_as_list c =
    let a = c.args in
    let refusing = is_false (ap not (sym c.counts_as_list.ensures ∙ c.if-counts_as_list.true)) in
    ap Err c.refusal_of.ensures ∙ sym (first_is (set_checks (Some a.operand) (lent a.form a.words.now a.rows.now)) (Err (refusal ListGiven (Some a.operand))) (inr (refusing, refl)))

-- what counts as no list is left to the other checks
rest : (k : Named) (o : Operand) {b : Bool} → b ≡ counts_as_list o.form → b ≡ false → first (set_checks k o) ≡ first (operand_checks k o)
rest k o e f = met_skips (need (dec_t (not (counts_as_list o.form))) ListGiven k) (operand_checks k o) (is_true (ap not (sym e ∙ f)))

pub returns-in_err-check : goal.returns-in_err-check
returns-in_err-check c =
    let a = c.args in
    let o = lent a.form a.words.now a.rows.now in
    let w : c.check.result ≡ Err c.in_err-check.field-0.0 = c.in_err-check.was in
    let r : c.from_residual.result ≡ Err c.in_err-check.field-0.0 = search rules in
    r ∙ sym (rest (Some a.operand) o c.counts_as_list.ensures c.if-counts_as_list.false ∙ granted_err (first (operand_checks (Some a.operand) o)) (count_of o) (sym c.check.ensures ∙ w))

pub returns : goal.returns
returns c =
    let a = c.args in
    let o = lent a.form a.words.now a.rows.now in
    let w : c.check.result ≡ Ok c.in_ok-check.field-0 = c.in_ok-check.was in
    sym (rest (Some a.operand) o c.counts_as_list.ensures c.if-counts_as_list.false ∙ (granted_ok (first (operand_checks (Some a.operand) o)) (sym c.check.ensures ∙ w)).0)
