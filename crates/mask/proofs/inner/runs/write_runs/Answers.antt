-- `mask::inner::runs::write_runs` meets its contract: each form's runs are written as it has its rows.
-- By the case that the match tells, and what acceptance gives of it. Assumes nothing.
use Prim.Native.Nat.{ℕ, ◌≤◌}
use mathlib.Core.Path.{◌≡◌, refl, sym, ap, subst, ◌∙◌}
use mathlib.Core.List.{List}
use lib.ListN.{length}
use Rattle.rows.specs.Rows.{splice}
use Rattle.rows.specs.Runs.{runs_of}
use Rattle.rows.proofs.SpliceLaws.{splice_nil}
use Rattle.rows.proofs.RunLaws.{runs_back}
use Rattle.rules.specs.declared.Form.{Form}
use Rattle.rules.specs.declared.Form.TheVariants.{Runs}
use Rattle.rules.specs.Operand.{Operand, lent, rows_of, Accepted}
use Rattle.rules.proofs.OperandLaws.{accepted_limit}
use Rattle.operand.proofs.NumberLaws.{accepted_list, accepted_runs}
use Rattle.operand.proofs.FlatLaws.{accepted_flat}
use Rattle.mask.proofs.RunOutLaws.{none_runs}
use Rattle.mask.proofs.inner.runs.write_runs.Goals as goal

-- the runs of an operand of this form
abbrev runs : List ℕ → List ℕ → Form → List ℕ
runs words rows f = runs_of (rows_of (lent f words rows))

-- the operand, by what an arm tells of its form
module _ (words rows : List ℕ) (form f : Form) (e : form ≡ f) where
  abbrev operand : Operand
  operand = lent f words rows

  well : Accepted (lent form words rows) → Accepted operand
  well = subst (λ (x : Form). Accepted (lent x words rows)) e

  fits : (out : List ℕ) → length (runs words rows form) ≤ length out → length (runs words rows f) ≤ length out
  fits out = subst (λ (x : Form). length (runs words rows x) ≤ length out) e

  same : (out : List ℕ) → splice 0 out (runs words rows f) ≡ splice 0 out (runs words rows form)
  same out = ap (λ (x : Form). splice 0 out (runs words rows x)) (sym e)

-- lent runs are the operand's own
own : (words rows : List ℕ) (len : ℕ) → Accepted (lent (Runs len) words rows) → runs words rows (Runs len) ≡ rows
own words rows len well = runs_back len rows (accepted_runs (lent (Runs len) words rows) refl well)

pub write_whole-requires : goal.write_whole-requires
write_whole-requires c =
    let a = c.args in
    let e = c.in-All.is in (
      accepted_limit (operand a.words.now a.rows.now a.form _ e) (well a.words.now a.rows.now a.form _ e c.requires.0),
      fits a.words.now a.rows.now a.form _ e a.out.now c.requires.1,
    )

pub write_turns-requires : goal.write_turns-requires
write_turns-requires c =
    let a = c.args in
    let e = c.in-Words.is in (
      accepted_flat (operand a.words.now a.rows.now a.form _ e) refl refl (well a.words.now a.rows.now a.form _ e c.requires.0),
      fits a.words.now a.rows.now a.form _ e a.out.now c.requires.1,
    )

pub write_list_turns-requires : goal.write_list_turns-requires
write_list_turns-requires c =
    let a = c.args in
    let e = c.in-List.is in
    let o = operand a.words.now a.rows.now a.form _ e in
    let m = well a.words.now a.rows.now a.form _ e c.requires.0 in
    (accepted_limit o m, accepted_list o refl m, fits a.words.now a.rows.now a.form _ e a.out.now c.requires.1)

pub copy_list-requires : goal.copy_list-requires
copy_list-requires c =
    let a = c.args in
    let e = c.in-Runs.is in
    let mine = own a.words.now a.rows.now c.in-Runs.length (well a.words.now a.rows.now a.form _ e c.requires.0) in
    subst (λ (l : List ℕ). length l ≤ length a.out.now) mine (fits a.words.now a.rows.now a.form _ e a.out.now c.requires.1)

pub returns-in-All : goal.returns-in-All
returns-in-All c = c.write_whole.ensures ∙ same c.args.words.now c.args.rows.now c.args.form _ c.in-All.is c.args.out.now

pub returns-in-None : goal.returns-in-None
returns-in-None c =
    let a = c.args in
    sym (ap (splice 0 a.out.now) (none_runs c.in-None.length) ∙ splice_nil 0 a.out.now) ∙ same a.words.now a.rows.now a.form _ c.in-None.is a.out.now

pub returns-in-Words : goal.returns-in-Words
returns-in-Words c = c.write_turns.ensures ∙ same c.args.words.now c.args.rows.now c.args.form _ c.in-Words.is c.args.out.now

pub returns-in-List : goal.returns-in-List
returns-in-List c = c.write_list_turns.ensures ∙ same c.args.words.now c.args.rows.now c.args.form _ c.in-List.is c.args.out.now

pub returns-in-Runs : goal.returns-in-Runs
returns-in-Runs c =
    let a = c.args in
    let e = c.in-Runs.is in
    let mine = own a.words.now a.rows.now c.in-Runs.length (well a.words.now a.rows.now a.form _ e c.requires.0) in
    c.copy_list.ensures ∙ ap (splice 0 a.out.now) (sym mine) ∙ same a.words.now a.rows.now a.form _ e a.out.now
