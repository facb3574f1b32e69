-- `mask::convert::convert_to_runs` meets its contract: 8 where there is no room for the operand's runs; else they are written, and the
-- operand is its own result. By what the writer answers and leaves, by its verdict. Assumes nothing.
use borrow.Author.Rules.{rules}
use Prim.Native.Nat.{ℕ, ◌/◌}
use mathlib.Core.Path.{◌≡◌, sym, ap, ap₂, ◌∙◌}
use Rattle.std.specs.Prelude.{Ok, Err}
use Rattle.rules.specs.declared.Summary.{Summary}
use Rattle.rules.specs.declared.Written.{Written}
use Rattle.rules.specs.Operand.{lent}
use Rattle.mask.proofs.JudgeLaws.{roomy, own_within, own_summary}
use Rattle.mask.proofs.RunOutLaws.{runs_judged, runs_refused, runs_written}
use Rattle.mask.proofs.convert.convert_to_runs.Goals as goal

pub returns-in_err-has_room : goal.returns-in_err-has_room
returns-in_err-has_room c =
    let o = lent c.args.operand.form c.args.words.now c.args.rows.now in
    let out = c.args.out.now in
    let w : c.has_room.result ≡ Err c.in_err-has_room.field-0.0 = c.in_err-has_room.was in
    let r : c.from_residual.result ≡ Err c.in_err-has_room.field-0.0 = search rules in
    let p = runs_refused o out (runs_judged o out c.requires.0 c.count_runs-numbers.ensures (sym c.has_room.ensures ∙ w)) in
    (r ∙ p.0, p.1)

pub write_runs-requires : goal.write_runs-requires
write_runs-requires c =
    let w : c.has_room.result ≡ Ok c.in_ok-has_room.field-0 = c.in_ok-has_room.was in
    (c.requires.0, roomy c.count_runs-numbers.ensures (sym c.has_room.ensures ∙ w))

pub own_answer-requires : goal.own_answer-requires
own_answer-requires c = own_within (lent c.args.operand.form c.args.words.now c.args.rows.now) c.requires.0 c.requires.1

abbrev with : Summary → ℕ → Written
with s numbers = record { summary = s; runs = numbers / 2 }

pub returns : goal.returns
returns c =
    let o = lent c.args.operand.form c.args.words.now c.args.rows.now in
    let w : c.has_room.result ≡ Ok c.in_ok-has_room.field-0 = c.in_ok-has_room.was in
    let own = c.own_answer.ensures ∙ own_summary o c.requires.0 c.requires.1 in
    let p = runs_written o c.args.out.now c.requires.0 (roomy c.count_runs-numbers.ensures (sym c.has_room.ensures ∙ w)) in
    (ap Ok (ap₂ with own c.count_runs-numbers.ensures) ∙ p.0, c.write_runs.ensures ∙ p.1)
