-- `runs::to_records` meets its contract: 14 where a number has no pair, and 8 where the records have no room; else a turn writes one record more.
-- By the verdict of its table, and the law of a chunk of two numbers. Assumes nothing.
use borrow.Author.Rules.{rules}
use Rattle.std.proofs.Common.{ℕ, ◌≡◌, ◌≢◌, ◌/◌, ◌%◌, ◌≤◌, ◌<◌, List, [], ◌++◌, length, take, drop, get_or, set, Ok, Err, refl, sym, ap, ap₂, ◌∙◌, arith, add-one}
use native.Mathlib.Decide.{ℕ_discrete}
use mathlib.Core.Logic.{inr}
use mathlib.Core.Bool.{false≢true}
use Rattle.std.proofs.lemmas.Bool.{eq-eqb, eqb-true}
use lib.Seq.{take-length}
use native.Mathlib.Nat.{zero-add}
use Rattle.rows.specs.declared.Reason.TheVariants.{RunsUnfit}
use Rattle.rows.specs.Rows.{splice}
use Rattle.rows.specs.Table.{Verdict, operand_1, need, refusal, first, if_fine}
use Rattle.rows.proofs.SpliceLaws.{over_nil, splice_turn, splice_eq}
use Rattle.rows.proofs.TableLaws.{first_is, met_skips}
use Rattle.rules.specs.declared.Run.{Run}
use Rattle.rules.specs.Records.{records_of, records_checks, to_records_verdict, to_records, to_records_out}
use Rattle.rules.proofs.Records.{records_length}
use Rattle.mask.proofs.JudgeLaws.{eight, roomy}
use Rattle.runs.proofs.PairLaws.{no_run, run_in, chunk_run}
use Rattle.runs.proofs.to_records.Goals as goal

-- what the numbers leave
abbrev to : List ℕ → List Run → List Run
to ns out = records_of ns ++ drop (length ns / 2) out

left : (ns : List ℕ) (out : List Run) {v : Verdict} → to_records_verdict ns out ≡ v → if_fine v (to ns out) out ≡ if_fine (to_records_verdict ns out) (to ns out) out
left ns out e = ap (λ (v : Verdict). if_fine v (to ns out) out) (sym e)

-- where each number has its pair, the room for their records decides
roomed : (ns : List ℕ) (out : List Run) {n : ℕ} {v : Verdict} → length ns % 2 ≡ 0 → n ≡ length ns / 2 → first (eight n (length out)) ≡ v
    → to_records_verdict ns out ≡ v
roomed ns out even size e =
    met_skips (need (ℕ_discrete (length ns % 2) 0) RunsUnfit operand_1) (eight (length ns / 2) (length out)) even
    ∙ ap (λ (k : ℕ). first (eight k (length out))) (sym size) ∙ e

pub returns-then-not-is_empty : goal.returns-then-not-is_empty
unfolding to_records to_records_out
returns-then-not-is_empty c =
    let ns = c.args.numbers.now in
    let out = c.args.out.now in
    let odd : length ns % 2 ≢ 0 = λ e. false≢true (sym c.if-not-is_empty.true ∙ c.is_empty.ensures ∙ eq-eqb _ 0 (c.as_chunks.ensures.back_len ∙ e)) in
    let told = first_is (records_checks ns out) (Err (refusal RunsUnfit operand_1)) (inr (odd, refl)) in
    (ap Err c.refusal_of.ensures ∙ sym told, left ns out told)

pub returns-in_err-has_room : goal.returns-in_err-has_room
unfolding to_records to_records_out
returns-in_err-has_room c =
    let ns = c.args.numbers.now in
    let out = c.args.out.now in
    let w : c.has_room.result ≡ Err c.in_err-has_room.field-0.0 = c.in_err-has_room.was in
    let r : c.from_residual.result ≡ Err c.in_err-has_room.field-0.0 = search rules in
    let even = sym c.as_chunks.ensures.back_len ∙ eqb-true _ 0 (sym c.is_empty.ensures ∙ c.if-not-is_empty.false) in
    let told = roomed ns out even c.as_chunks.ensures.front_len (sym c.has_room.ensures ∙ w) in
    (r ∙ sym told, left ns out told)

pub loop-i-init : goal.loop-i-init
loop-i-init c = sym (over_nil c.args.out.now)

pub bounds-out-i : goal.bounds-out-i
bounds-out-i c =
    let w : c.has_room.result ≡ Ok c.in_ok-has_room.field-0 = c.in_ok-has_room.was in
    let room : length c.as_chunks.result.0.now ≤ length c.args.out.now = roomy refl (sym c.has_room.ensures ∙ w) in
    omega (arith, c.loop-i.auto.out)

pub loop-i-preserved : goal.loop-i-preserved
loop-i-preserved c =
    let ns = c.args.numbers.now in
    let l = c.loop-i in
    let rs = records_of ns in
    let k = length ns / 2 in
    let inside : l.i < k = omega (arith, c.loop-i-test.true, c.as_chunks.ensures.front_len) in
    let stored = ap (λ (cs : List (List ℕ)). run_in (get_or cs l.i [])) c.as_chunks.ensures.front ∙ chunk_run k l.i ns inside (omega arith) in
    ap₂ (λ (xs : List Run) (r : Run). set xs l.i r) l.invariant stored
    ∙ ap (λ (j : ℕ). set (splice 0 c.args.out.now (take l.i rs)) j (get_or rs l.i no_run)) (sym (zero-add l.i))
    ∙ splice_turn 0 c.args.out.now rs l.i no_run (omega (arith, inside, records_length ns))
    ∙ ap (λ (j : ℕ). splice 0 c.args.out.now (take j rs)) (sym (add-one l.i))

pub returns : goal.returns
unfolding to_records to_records_out
returns c =
    let ns = c.args.numbers.now in
    let out = c.args.out.now in
    let l = c.loop-i in
    let rs = records_of ns in
    let w : c.has_room.result ≡ Ok c.in_ok-has_room.field-0 = c.in_ok-has_room.was in
    let even = sym c.as_chunks.ensures.back_len ∙ eqb-true _ 0 (sym c.is_empty.ensures ∙ c.if-not-is_empty.false) in
    let told = roomed ns out even c.as_chunks.ensures.front_len (sym c.has_room.ensures ∙ w) in
    let size = c.as_chunks.ensures.front_len in
    let last : l.i ≡ length rs = omega (arith, c.loop-i-test.false, size, l.auto.i-end, records_length ns) in
    let room = roomy size (sym c.has_room.ensures ∙ w) in (
      sym told,
      l.invariant ∙ ap (λ (k : ℕ). splice 0 out (take k rs)) last ∙ ap (splice 0 out) (take-length rs)
          ∙ splice_eq 0 out rs (omega (arith, room, records_length ns)) ∙ ap (λ (k : ℕ). rs ++ drop k out) (zero-add (length rs) ∙ records_length ns)
          ∙ left ns out told,
    )
