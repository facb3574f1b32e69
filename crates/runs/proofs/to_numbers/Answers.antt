-- `runs::to_numbers` meets its contract: 8 where the numbers have no room; else a turn writes those of one run more.
-- By the verdict of a table of one line, and the law of a pair that is stored. Assumes nothing.
use borrow.Author.Rules.{rules}
use Rattle.std.proofs.Common.{ℕ, ◌≡◌, ◌+◌, ◌*◌, ◌≤◌, List, [], ◌++◌, length, drop, get_or, set, Ok, Err, refl, sym, ap, ◌∙◌, arith, drop_of_length-le, length-set}
use Rattle.rows.specs.Rows.{splice}
use Rattle.rows.specs.Table.{Verdict, if_fine}
use Rattle.rows.proofs.SpliceLaws.{splice_nil}
use Rattle.rules.specs.declared.Run.{Run}
use Rattle.rules.specs.Records.{numbers_of, to_numbers_verdict, to_numbers, to_numbers_out}
use Rattle.rules.proofs.Records.{numbers_length}
use Rattle.mask.proofs.JudgeLaws.{roomy}
use Rattle.mask.proofs.ListOutLaws.{list_front}
use Rattle.runs.proofs.PairLaws.{no_run, run_split, pair_next}
use Rattle.runs.proofs.to_numbers.Goals as goal

-- what the runs leave
abbrev to : List Run → List ℕ → List ℕ
to rs out = numbers_of rs ++ drop (length rs * 2) out

pub returns-in_err-has_room : goal.returns-in_err-has_room
unfolding to_numbers to_numbers_out
returns-in_err-has_room c =
    let rs = c.args.runs.now in
    let out = c.args.out.now in
    let w : c.has_room.result ≡ Err c.in_err-has_room.field-0.0 = c.in_err-has_room.was in
    let r : c.from_residual.result ≡ Err c.in_err-has_room.field-0.0 = search rules in
    let told : to_numbers_verdict rs out ≡ Err c.in_err-has_room.field-0.0 = sym c.has_room.ensures ∙ w in
    (r ∙ sym told, ap (λ (v : Verdict). if_fine v (to rs out) out) (sym told))

pub bounds-out-i : goal.bounds-out-i
bounds-out-i c =
    let w : c.has_room.result ≡ Ok c.in_ok-has_room.field-0 = c.in_ok-has_room.was in
    let room : length c.args.runs.now * 2 ≤ length c.args.out.now = roomy refl (sym c.has_room.ensures ∙ w) in
    omega (arith, c.loop-i.auto.out)

pub bounds-out-i-in-loop-i : goal.bounds-out-i-in-loop-i
bounds-out-i-in-loop-i c =
    let w : c.has_room.result ≡ Ok c.in_ok-has_room.field-0 = c.in_ok-has_room.was in
    let room : length c.args.runs.now * 2 ≤ length c.args.out.now = roomy refl (sym c.has_room.ensures ∙ w) in
    omega (arith, c.loop-i.auto.out, length-set {A = ℕ})

pub loop-i-preserved : goal.loop-i-preserved
loop-i-preserved c =
    let rs = c.args.runs.now in
    let l = c.loop-i in
    let r = get_or rs l.i no_run in
    let ns = numbers_of (drop (l.i + 1) rs) in
    let place : 2 * (l.i + 1) ≡ 2 * l.i + 2 = omega arith in
    ap (λ (k : ℕ). splice k (set (set l.out (2 * l.i) r.first) (2 * l.i + 1) r.past) ns) place
    ∙ pair_next (2 * l.i) r.first r.past ns l.out
    ∙ ap (λ (ts : List Run). splice (2 * l.i) l.out (numbers_of ts)) (sym (run_split rs l.i c.loop-i-test.true))
    ∙ l.invariant

pub returns : goal.returns
unfolding to_numbers to_numbers_out
returns c =
    let rs = c.args.runs.now in
    let out = c.args.out.now in
    let l = c.loop-i in
    let w : c.has_room.result ≡ Ok c.in_ok-has_room.field-0 = c.in_ok-has_room.was in
    let told : to_numbers_verdict rs out ≡ Ok tt = sym c.has_room.ensures ∙ w in
    let gone : drop l.i rs ≡ [] = drop_of_length-le rs {i = l.i} c.loop-i-test.false in
    let all = sym (splice_nil (2 * l.i) l.out) ∙ ap (λ (ts : List Run). splice (2 * l.i) l.out (numbers_of ts)) (sym gone) ∙ l.invariant in (
      sym told,
      all ∙ list_front out (numbers_of rs) (length rs * 2) (numbers_length rs) (roomy refl told)
          ∙ ap (λ (v : Verdict). if_fine v (to rs out) out) (sym told),
    )
