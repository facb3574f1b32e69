-- `mask::inner::runs::count_runs` meets its contract: each form's runs are counted as it has its rows.
-- By the case that the match tells, and what acceptance gives of it. Assumes nothing.
use mathlib.Core.Path.{◌≡◌, refl, sym, ap, subst, ◌∙◌}
use mathlib.Core.List.{List}
use Prim.Native.Nat.{ℕ}
use lib.ListN.{length}
use Rattle.rows.specs.Runs.{runs_of}
use Rattle.rows.proofs.RunLaws.{runs_back}
use Rattle.rules.specs.declared.Form.{Form}
use Rattle.rules.specs.Operand.{Operand, lent, rows_of, Accepted}
use Rattle.rules.proofs.OperandLaws.{accepted_limit}
use Rattle.operand.proofs.NumberLaws.{accepted_list, accepted_runs}
use Rattle.operand.proofs.FlatLaws.{accepted_flat}
use Rattle.mask.proofs.RunOutLaws.{none_runs}
use Rattle.mask.proofs.inner.runs.count_runs.Goals as goal

-- the operand, by what an arm tells of its form
module _ (form : Form) (words rows : List ℕ) (accepts : Accepted (lent form words rows)) (f : Form) (e : form ≡ f) where
  abbrev operand : Operand
  operand = lent f words rows

  well : Accepted operand
  well = subst (λ (x : Form). Accepted (lent x words rows)) e accepts

  same : length (runs_of (rows_of operand)) ≡ length (runs_of (rows_of (lent form words rows)))
  same = ap (λ (x : Form). length (runs_of (rows_of (lent x words rows)))) (sym e)

pub count_turns-requires : goal.count_turns-requires
count_turns-requires c =
    let a = c.args in
    let e = c.in-Words.is in
    accepted_flat (operand a.form a.words.now a.rows.now c.requires _ e) refl refl (well a.form a.words.now a.rows.now c.requires _ e)

pub count_list_turns-requires : goal.count_list_turns-requires
count_list_turns-requires c =
    let a = c.args in
    let e = c.in-List.is in
    let o = operand a.form a.words.now a.rows.now c.requires _ e in
    let m = well a.form a.words.now a.rows.now c.requires _ e in
    (accepted_limit o m, accepted_list o refl m)

pub returns-in-All : goal.returns-in-All
returns-in-All c = c.count_whole.ensures ∙ same c.args.form c.args.words.now c.args.rows.now c.requires _ c.in-All.is

pub returns-in-None : goal.returns-in-None
returns-in-None c = sym (ap length (none_runs c.in-None.length)) ∙ same c.args.form c.args.words.now c.args.rows.now c.requires _ c.in-None.is

pub returns-in-Words : goal.returns-in-Words
returns-in-Words c = c.count_turns.ensures ∙ same c.args.form c.args.words.now c.args.rows.now c.requires _ c.in-Words.is

pub returns-in-List : goal.returns-in-List
returns-in-List c = c.count_list_turns.ensures ∙ same c.args.form c.args.words.now c.args.rows.now c.requires _ c.in-List.is

pub returns-in-Runs : goal.returns-in-Runs
returns-in-Runs c =
    let a = c.args in
    let e = c.in-Runs.is in
    let o = operand a.form a.words.now a.rows.now c.requires _ e in
    let m = well a.form a.words.now a.rows.now c.requires _ e in
    sym (ap length (runs_back c.in-Runs.length a.rows.now (accepted_runs o refl m))) ∙ same a.form a.words.now a.rows.now c.requires _ e
