-- An operand's runs: one of rows that are all set, and none where none is; and what the writer of runs answers and leaves, by its verdict.
-- By recursion over the rows, and by the law of tables.
-- Assumes nothing.
use Prim.Native.Nat.{ℕ, zero, suc, ◌+◌, ◌*◌, ◌/◌, ◌≤◌, ◌<◌}
use native.Mathlib.Nat.{add-zero, suc-add, add-suc}
use mathlib.Core.Path.{◌≡◌, refl, sym, ap, ◌∙◌}
use mathlib.Core.Bool.{true, false}
use mathlib.Core.List.{List, [], ◌∷◌, ◌++◌}
use native.Mathlib.Decide.{dec_le}
use native.Mathlib.Omega.{arith}
use lib.ListN.{length, drop, replicate}
use Rattle.rows.specs.declared.Refusal.{Refusal}
use Rattle.rows.specs.declared.Reason.TheVariants.{NoRoom}
use Rattle.std.specs.Prelude.{Ok, Err}
use Rattle.rows.specs.Rows.{splice}
use Rattle.rows.specs.Runs.{turns, runs_of, runs_in}
use Rattle.rows.specs.Table.{operand_1, no_operand, Verdict, first}
use Rattle.rows.proofs.RunLaws.{runs_even}
use Rattle.rows.proofs.TableLaws.{alone_fine}
use Rattle.rules.specs.declared.Written.{Written}
use Rattle.rules.specs.Operand.{Operand, rows_of, Accepted}
use Rattle.rules.specs.Answer.{summed, no_route}
use Rattle.rules.specs.Convert.{to_runs_verdict, written_of, to_runs, to_runs_out}
use Rattle.rules.proofs.AnswerLaws.{by_fine, by_refusal}
use Rattle.operand.specs.Counts.{checked_of}
use Rattle.mask.proofs.JudgeLaws.{eight, judged_refused, judged_room}
use Rattle.mask.proofs.ListOutLaws.{list_front}

-- ---- all rows set, and none

set_turns : (b n : ℕ) → turns true b (replicate n true) ≡ (b + n) ∷ []
set_turns b zero = ap (λ (k : ℕ). k ∷ []) (sym (add-zero b))
set_turns b (suc n) = set_turns (suc b) n ∙ ap (λ (k : ℕ). k ∷ []) (suc-add b n ∙ sym (add-suc b n))

pub whole_run : (n : ℕ) → 0 < n → runs_of (replicate n true) ≡ 0 ∷ n ∷ []
whole_run zero h = absurd (omega arith)
whole_run (suc n) h = ap (λ (l : List ℕ). 0 ∷ l) (set_turns 1 n ∙ ap (λ (k : ℕ). k ∷ []) one)
  where
    one : 1 + n ≡ suc n
    one = omega arith

pub whole_none : (n : ℕ) → n ≡ 0 → runs_of (replicate n true) ≡ []
whole_none n e = ap (λ (k : ℕ). runs_of (replicate k true)) e

unset_turns : (b n : ℕ) → turns false b (replicate n false) ≡ []
unset_turns b zero = refl
unset_turns b (suc n) = unset_turns (suc b) n

pub none_runs : (n : ℕ) → runs_of (replicate n false) ≡ []
none_runs n = unset_turns 0 n

-- ---- the writer of runs

module _ (o : Operand) (out : List ℕ) where
  abbrev runs : List ℕ
  runs = runs_of (rows_of o)

  abbrev needed : ℕ
  needed = runs_in (rows_of o) * 2

  abbrev to : List ℕ
  to = runs ++ drop needed out

  -- its verdict: the operand's own refusal, or else whether there is room for the numbers of its runs
  pub runs_barred : {x : Refusal} → checked_of operand_1 o ≡ Err x → to_runs_verdict o out ≡ Err x
  runs_barred e = judged_refused o needed (length out) e

  pub runs_judged : {v : Verdict} {n : ℕ} → Accepted o → n ≡ length runs → first (eight n (length out)) ≡ v → to_runs_verdict o out ≡ v
  runs_judged m size e = judged_room o needed (length out) m (size ∙ runs_even (rows_of o)) e

  -- and what it answers and leaves
  pub runs_refused : {x : Refusal} → to_runs_verdict o out ≡ Err x → (Err x ≡ to_runs o out) × (out ≡ to_runs_out o out)
  unfolding to_runs to_runs_out
  runs_refused {x} e = by_refusal (to_runs_verdict o out) (written_of o) to out x e

  abbrev told : Written
  told = record { summary = summed (rows_of o) no_route; runs = length runs / 2 }

  pub runs_written : Accepted o → length runs ≤ length out → (Ok told ≡ to_runs o out) × (splice 0 out runs ≡ to_runs_out o out)
  unfolding to_runs to_runs_out
  runs_written m h =
      let p = by_fine (to_runs_verdict o out) (written_of o) to out (runs_judged m refl (alone_fine (dec_le (length runs) (length out)) NoRoom no_operand h)) in
      (p.0, list_front out runs needed (runs_even (rows_of o)) (omega (arith, runs_even (rows_of o))) ∙ p.1)
