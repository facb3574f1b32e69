-- `runs::words::check_runs` meets its contract: 1 where there are more rows than the limit, and 14 at a run that does not fit; else the sum.
-- By the law of tables, and the laws of runs that are weighed. Assumes nothing.
use Rattle.std.proofs.Common.{refl, sym, ap, ◌∙◌, arith, Ok, Err}
use mathlib.Core.Logic.{inl, inr}
use Rattle.rows.specs.declared.Reason.TheVariants.{LengthOverLimit, RunsUnfit}
use Rattle.rows.specs.Runs.{run_lengths}
use Rattle.rows.specs.Table.{operand_1, refusal}
use Rattle.rows.proofs.TableLaws.{first_is, passes_ok, passes_err, is_true, is_false}
use Rattle.rules.specs.Operand.{runs_checks}
use Rattle.rules.specs.Records.{numbers_of}
use Rattle.runs.proofs.WeighLaws.{weighing_none, weighing_next, weighing_unfit, weighing_all}
use Rattle.runs.proofs.words.check_runs.Goals as goal

pub returns-then-length-gt1048576 : goal.returns-then-length-gt1048576
returns-then-length-gt1048576 c =
    let len = c.args.length in
    let ns = numbers_of c.args.runs.now in
    let line = first_is (runs_checks operand_1 len ns) (Err (refusal LengthOverLimit operand_1)) (inr (λ h. omega arith, refl)) in
    ap Err c.refusal_of.ensures ∙ sym (passes_err _ (run_lengths ns) line)

pub loop-run-init : goal.loop-run-init
loop-run-init c = weighing_none c.args.length c.args.runs.now

pub returns-then-not-run_fits : goal.returns-then-not-run_fits
returns-then-not-run_fits c =
    let len = c.args.length in
    let rs = c.args.runs.now in
    let l = c.loop-run in
    let unfit = weighing_unfit len rs l.least l.sum l.run-index l.invariant c.loop-run-test.true (sym c.run_fits.ensures ∙ c.if-not-run_fits.true) in
    let line =
    first_is (runs_checks operand_1 len (numbers_of rs)) (Err (refusal RunsUnfit operand_1)) (inl (omega arith, inr (is_false unfit, refl))) in
    ap Err c.refusal_of-then-not-run_fits.ensures ∙ sym (passes_err _ (run_lengths (numbers_of rs)) line)

pub loop-run-preserved : goal.loop-run-preserved
loop-run-preserved c =
    let l = c.loop-run in
    weighing_next c.args.length c.args.runs.now l.least l.sum l.run-index l.invariant c.loop-run-test.true (sym c.run_fits.ensures ∙ c.if-not-run_fits.false)

pub returns : goal.returns
returns c =
    let len = c.args.length in
    let ns = numbers_of c.args.runs.now in
    let l = c.loop-run in
    let all = weighing_all len c.args.runs.now l.least l.sum l.run-index l.invariant c.loop-run-test.false in
    let line = first_is (runs_checks operand_1 len ns) (Ok tt) (inl (omega arith, inl (is_true all.0, refl))) in
    ap Ok all.1 ∙ sym (passes_ok _ (run_lengths ns) line)
