-- Cell 10 of a call that is no recovery: 0 in all its answers, since no refusal of its table has a row. By the table's lines, part by part.
-- Assumes nothing.
use Prim.Native.Nat.{ℕ, ◌≤◌}
use native.Mathlib.Decide.{dec_le}
use mathlib.Core.Path.{◌≡◌, refl, ◌∙◌}
use mathlib.Core.Bool.{Bool, true, false, ◌&&◌, ◌||◌, cond}
use mathlib.Core.List.{List, [], ◌∷◌, ◌++◌}
use mathlib.Core.Option.{Option as Parsed, none, some}
use lib.Dec.{eqb}
use lib.ListN.{length, replicate}
use Rattle.std.specs.Prelude.{Some, Ok, Err}
use Rattle.rows.specs.Table.{Named, Line, Verdict, first, in_order, choose, granted, row_of, row_told}
use Rattle.rules.specs.declared.Form.{Form}
use Rattle.rules.specs.declared.Form.TheVariants.{All, None as NoRows, Words, List as Listed, Runs}
use Rattle.rules.specs.declared.State.{State}
use Rattle.rows.specs.Laid.{words_for}
use Rattle.rules.specs.Operand.{Operand, in_words, operand_checks, checks_by}
use Rattle.rules.specs.Route.{published}
use Rattle.rules.specs.Convert.{to_words, to_list, to_runs, to_runs_verdict, written_of, answer_of as runs_answer}
use Rattle.rules.specs.SetOps.{and_not, combined, negated}
use Rattle.rules.specs.Compose.{both_checks, composed}
use Rattle.rules.specs.Stream.{judged}
use Rattle.lines.specs.declared.Written.{Written}
use Rattle.lines.specs.Text.{answer_of, answer_for, text_of, parsed, with_text, shorter, written_for}
use Rattle.cells.specs.Probe.{Done, to_words_done, to_list_done, to_runs_done, compose_done, set_done, feed_done, program_done}

-- ---- a table none of whose refusals has a row

abbrev Rowless : List Line → Type 0
Rowless [] = Unit {0}
Rowless (l ∷ ls) = (row_of l.refusal.reason ≡ 0) × Rowless ls

rowless_append : (ls ms : List Line) → Rowless ls → Rowless ms → Rowless (ls ++ ms)
rowless_append [] ms h k = k
rowless_append (l ∷ ls) ms h k = (h.0, rowless_append ls ms h.1 k)

rowless_parts : (t : List Line) (ts : List (List Line)) → Rowless t → Rowless (in_order ts) → Rowless (in_order (t ∷ ts))
unfolding in_order
rowless_parts t ts h k = rowless_append t (in_order ts) h k

rowless_last : (t : List Line) → Rowless t → Rowless (in_order (t ∷ []))
unfolding in_order
rowless_last t h = rowless_append t [] h tt

rowless_told : {X : Type 0} (ls : List Line) (x : X) → Rowless ls → row_told (granted (first ls) x) ≡ 0
unfolding first
rowless_told [] x h = refl
rowless_told {X} (l ∷ ls) x h = go l.decided (rowless_told ls x h.1)
  where
    go : (d : Dec l.Needs) → row_told (granted (first ls) x) ≡ 0 → row_told (granted (choose d (first ls) (Err l.refusal)) x) ≡ 0
    go (yes a) ih = ih
    go (no n) ih = h.0

operand_rowless : (k : Named) (o : Operand) → Rowless (operand_checks k o)
operand_rowless k o = by o.form
  where
    by : (f : Form) → Rowless (checks_by f k o)
    by (All n) = (refl, tt)
    by (NoRows n) = (refl, tt)
    by (Words start len claimed) = (refl, (refl, (refl, (refl, tt))))
    by (Listed len) = (refl, (refl, (refl, tt)))
    by (Runs len) = (refl, (refl, tt))

both_rowless : (x y : Operand) → Rowless (both_checks x y)
both_rowless x y = rowless_parts _ _ (operand_rowless _ x) (rowless_last _ (operand_rowless _ y))

-- ---- each call

abbrev pub NoRow : Done → Type 0
NoRow d = d.told.outside ≡ 0

either : (b : Bool) (d e : Done) → NoRow d → NoRow e → NoRow (cond b d e)
either true d e h k = h
either false d e h k = k

module _ (x : Operand) (out : List ℕ) where
  pub to_words_row : NoRow (to_words_done (Some x) out)
  unfolding to_words
  to_words_row = rowless_told _ _ (rowless_parts _ _ (operand_rowless _ x) (rowless_last _ (refl, tt)))

  pub to_list_row : NoRow (to_list_done (Some x) out)
  unfolding to_list
  to_list_row = rowless_told _ _ (rowless_parts _ _ (operand_rowless _ x) (rowless_last _ (refl, tt)))

  pub to_runs_row : NoRow (to_runs_done (Some x) out)
  unfolding to_runs
  to_runs_row = same (to_runs_verdict x out) ∙ rowless_told _ (written_of x) (rowless_parts _ _ (operand_rowless _ x) (rowless_last _ (refl, tt)))
    where
      same : (v : Verdict) → row_told (runs_answer (granted v (written_of x))) ≡ row_told (granted v (written_of x))
      same (Ok u) = refl
      same (Err r) = refl

module _ (x y : Operand) (out : List ℕ) where
  composed_row : row_told (composed published x y out) ≡ 0
  unfolding composed
  composed_row = rowless_told _ _ (rowless_parts _ _ (both_rowless x y) (rowless_parts _ _ (refl, tt) (rowless_last _ (refl, tt))))

  pub compose_row : NoRow (compose_done (Some x) (Some y) out)
  compose_row = composed_row

  combined_row : (g : Bool → Bool → Bool) → row_told (combined g x y out) ≡ 0
  unfolding combined
  combined_row g =
      rowless_told _ _
      (rowless_parts _ _ (refl, operand_rowless _ x)
      (rowless_parts _ _ (refl, operand_rowless _ y) (rowless_parts _ _ (refl, tt) (rowless_last _ (refl, tt)))))

  negated_row : row_told (negated x out) ≡ 0
  unfolding negated
  negated_row = rowless_told _ _ (rowless_parts _ _ (refl, operand_rowless _ x) (rowless_last _ (refl, tt)))

  pub set_row : (which : ℕ) → NoRow (set_done which x y out)
  unfolding set_done
  set_row which =
      either (eqb which 0) _ _ (combined_row ◌&&◌) (either (eqb which 1) _ _ (combined_row ◌||◌) (either (eqb which 2) _ _ (combined_row and_not) negated_row))

  pub feed_row : (st : State) → NoRow (feed_done st (Some x) (Some y) out)
  unfolding judged
  feed_row st =
      rowless_told _ _
      (rowless_parts _ _ (refl, (refl, (refl, tt)))
      (rowless_parts _ _ (both_rowless x y) (rowless_last _ (refl, (refl, (refl, tt))))))

pub program_row : (input out : List ℕ) → NoRow (program_done input out)
unfolding written_for answer_for
program_row input out = by (dec_le (length (text_of input)) (length out))
  where
    answered : (p : Parsed (List Bool × List Bool)) → row_told (answer_of p) ≡ 0
    answered none = refl
    answered (some (self, rank)) = composed_row (in_words self) (in_words rank) (replicate (words_for (length self)) 0)

    by : (d : Dec (length (text_of input) ≤ length out)) → row_told (choose {X = Written} d (with_text (answer_for input) (text_of input)) shorter).answer ≡ 0
    by (yes h) = answered (parsed input)
    by (no h) = refl
