-- `runs::to_run_records` meets its contract: the operand's refusal is answered, or 8, and nothing written; else its runs are found and stored,
-- and answered. By what a writer of runs answers and leaves, in numbers. Assumes nothing.
use borrow.Author.Rules.{rules}
use Rattle.std.proofs.Common.{ℕ, ◌≡◌, ◌*◌, ◌/◌, ◌%◌, ◌≤◌, List, ◌++◌, length, drop, Ok, Err, refl, sym, ap, ap₂, ◌∙◌, arith}
use lib.Seq.{length-take-le}
use Rattle.rows.specs.Runs.{runs_of}
use Rattle.rows.proofs.RunLaws.{runs_even}
use Rattle.rules.specs.declared.Run.{Run}
use Rattle.rules.specs.declared.Summary.{Summary}
use Rattle.rules.specs.declared.Written.{Written}
use Rattle.rules.specs.Operand.{lent, rows_of}
use Rattle.rules.specs.Records.{numbers_of, records_of}
use Rattle.rules.proofs.Records.{numbers_of_records, numbers_length}
use Rattle.mask.proofs.JudgeLaws.{roomy, judged_count, own_within, own_summary}
use Rattle.mask.proofs.ListOutLaws.{list_front}
use Rattle.mask.proofs.RunOutLaws.{runs_barred, runs_judged, runs_refused, runs_written}
use Rattle.runs.proofs.PairLaws.{numbers_before, pairs_room}
use Rattle.runs.proofs.to_run_records.Goals as goal

pub returns-in_err-count : goal.returns-in_err-count
returns-in_err-count c =
    let o = lent c.args.form c.args.words.now c.args.rows.now in
    let out = numbers_of c.args.out.now in
    let w : c.check.result ≡ Err c.in_err-count.field-0.0 = c.in_err-count.was in
    let r : c.from_residual.result ≡ Err c.in_err-count.field-0.0 = search rules in
    let p = runs_refused o out (runs_barred o out (sym c.check.ensures ∙ w)) in
    (r ∙ p.0, p.1)

pub count_runs-runs-requires : goal.count_runs-runs-requires
count_runs-runs-requires c =
    let own : c.check.result ≡ Ok c.in_ok-count.count = c.in_ok-count.was in
    (judged_count (lent c.args.form c.args.words.now c.args.rows.now) (sym c.check.ensures ∙ own)).0

pub returns-in_err-has_room : goal.returns-in_err-has_room
returns-in_err-has_room c =
    let o = lent c.args.form c.args.words.now c.args.rows.now in
    let out = c.args.out.now in
    let n = c.count_runs-runs.result in
    let own : c.check.result ≡ Ok c.in_ok-count.count = c.in_ok-count.was in
    let w : c.has_room.result ≡ Err c.in_err-has_room.field-0.0 = c.in_err-has_room.was in
    let r : c.from_residual-in_err-has_room.result ≡ Err c.in_err-has_room.field-0.0 = search rules in
    let m = (judged_count o (sym c.check.ensures ∙ own)).0 in
    let even : n % 2 ≡ 0 = omega (arith, c.count_runs-runs.ensures, runs_even (rows_of o)) in
    let bare = runs_judged o (numbers_of out) m c.count_runs-runs.ensures (sym (pairs_room n out even) ∙ sym c.has_room.ensures ∙ w) in
    let p = runs_refused o (numbers_of out) bare in
    (r ∙ p.0, p.1)

pub slice_bounds-write_found-end : goal.slice_bounds-write_found-end
slice_bounds-write_found-end c =
    let w : c.has_room.result ≡ Ok c.in_ok-has_room.field-0 = c.in_ok-has_room.was in
    roomy refl (sym c.has_room.ensures ∙ w)

pub slice_bounds-write_found-end-2 : goal.slice_bounds-write_found-end-2
slice_bounds-write_found-end-2 c =
    let w : c.has_room.result ≡ Ok c.in_ok-has_room.field-0 = c.in_ok-has_room.was in
    sym (length-take-le (c.count_runs-runs.result / 2) c.args.out.now (roomy refl (sym c.has_room.ensures ∙ w)))

pub write_found-requires : goal.write_found-requires
write_found-requires c =
    let o = lent c.args.form c.args.words.now c.args.rows.now in
    let own : c.check.result ≡ Ok c.in_ok-count.count = c.in_ok-count.was in
    let w : c.has_room.result ≡ Ok c.in_ok-has_room.field-0 = c.in_ok-has_room.was in
    let m = (judged_count o (sym c.check.ensures ∙ own)).0 in
    let room : c.count_runs-runs.result / 2 ≤ length c.args.out.now = roomy refl (sym c.has_room.ensures ∙ w) in
    (m, omega (arith, c.count_runs-runs.ensures, runs_even (rows_of o), length-take-le (c.count_runs-runs.result / 2) c.args.out.now room))

pub own_answer-requires : goal.own_answer-requires
own_answer-requires c =
    let o = lent c.args.form c.args.words.now c.args.rows.now in
    let own : c.check.result ≡ Ok c.in_ok-count.count = c.in_ok-count.was in
    let m = judged_count o (sym c.check.ensures ∙ own) in
    own_within o m.0 m.1

abbrev with : Summary → ℕ → Written
with s numbers = record { summary = s; runs = numbers / 2 }

pub returns : goal.returns
returns c =
    let o = lent c.args.form c.args.words.now c.args.rows.now in
    let out = c.args.out.now in
    let runs = runs_of (rows_of o) in
    let own : c.check.result ≡ Ok c.in_ok-count.count = c.in_ok-count.was in
    let w : c.has_room.result ≡ Ok c.in_ok-has_room.field-0 = c.in_ok-has_room.was in
    let m = judged_count o (sym c.check.ensures ∙ own) in
    let fits : c.count_runs-runs.result / 2 ≤ length out = roomy refl (sym c.has_room.ensures ∙ w) in
    let even = runs_even (rows_of o) in
    let long : length runs ≡ c.count_runs-runs.result / 2 * 2 = omega (arith, c.count_runs-runs.ensures, even) in
    let room : length runs ≤ length (numbers_of out) = omega (arith, fits, long, numbers_length out) in
    let p = runs_written o (numbers_of out) m.0 room in (
      ap Ok (ap₂ with (c.own_answer.ensures ∙ own_summary o m.0 m.1) c.count_runs-runs.ensures) ∙ p.0,
      ap (λ (rs : List Run). numbers_of (rs ++ drop (c.count_runs-runs.result / 2) out)) c.write_found.ensures
          ∙ numbers_before (records_of runs) out (c.count_runs-runs.result / 2)
          ∙ ap (λ (ns : List ℕ). ns ++ drop (c.count_runs-runs.result / 2 * 2) (numbers_of out)) (numbers_of_records runs (omega (arith, even)))
          ∙ sym (list_front (numbers_of out) runs (c.count_runs-runs.result / 2 * 2) long (omega (arith, room, long))) ∙ p.1,
    )
