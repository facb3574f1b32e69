-- `operand::inner::checks::check_runs` meets its contract: each return is one line of the table, and the sum where all are met.
-- By the table's law; whether the runs fit is what `runs_fit` ensures. Assumes nothing.
use mathlib.Core.Path.{◌≡◌, refl, sym, ap, ◌∙◌}
use mathlib.Core.Bool.{true}
use mathlib.Core.Logic.{inl, inr}
use native.Mathlib.Omega.{arith}
use Rattle.std.specs.Prelude.{Ok, Err, Some}
use Rattle.rows.specs.Runs.{run_lengths}
use Rattle.rows.specs.declared.Reason.TheVariants.{LengthOverLimit, RunsUnfit}
use Rattle.rows.specs.Table.{Verdict, granted, refusal}
use Rattle.rows.proofs.RunLaws.{apart_wider}
use Rattle.rows.proofs.TableLaws.{first_is, is_true, is_false}
use Rattle.rules.specs.Operand.{runs_fit, runs_checks}
use Rattle.rules.proofs.OperandLaws.{apart}
use Rattle.operand.proofs.inner.checks.check_runs.Goals as goal

pub returns-then-length-gt1048576 : goal.returns-then-length-gt1048576
returns-then-length-gt1048576 c =
    let a = c.args in
    let line = first_is (runs_checks (Some a.operand) a.length a.runs.now) (Err (refusal LengthOverLimit (Some a.operand))) (inr (λ h. omega arith, refl)) in
    ap Err c.refusal_of.ensures ∙ sym (ap (λ (v : Verdict). granted v (run_lengths a.runs.now)) line)

pub returns-then-not-runs_fit : goal.returns-then-not-runs_fit
returns-then-not-runs_fit c =
    let a = c.args in
    let unfit = is_false (sym c.runs_fit.ensures ∙ c.if-not-runs_fit.true) in
    let line = first_is (runs_checks (Some a.operand) a.length a.runs.now) (Err (refusal RunsUnfit (Some a.operand))) (inl (omega arith, inr (unfit, refl))) in
    ap Err c.refusal_of-then-not-runs_fit.ensures ∙ sym (ap (λ (v : Verdict). granted v (run_lengths a.runs.now)) line)

pub sum_runs-requires : goal.sum_runs-requires
sum_runs-requires c =
    let a = c.args in
    let fitting : runs_fit 0 a.length a.runs.now ≡ true = sym c.runs_fit.ensures ∙ c.if-not-runs_fit.false in
    apart_wider 0 0 a.length 1048576 a.runs.now (omega arith) (omega arith) (apart 0 a.length a.runs.now (is_true fitting))

pub returns : goal.returns
returns c =
    let a = c.args in
    let fitting : runs_fit 0 a.length a.runs.now ≡ true = sym c.runs_fit.ensures ∙ c.if-not-runs_fit.false in
    let line = first_is (runs_checks (Some a.operand) a.length a.runs.now) (Ok tt) (inl (omega arith, inl (is_true fitting, refl))) in
    ap Ok c.sum_runs.ensures ∙ sym (ap (λ (v : Verdict). granted v (run_lengths a.runs.now)) line)
