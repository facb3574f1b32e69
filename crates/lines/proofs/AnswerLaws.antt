-- The composition of two masks as words: both are accepted, so its answer is 0 where the rank mask is as long as self has set rows, and
-- else 7; and the lines of an answer, and how long they are. By the tables of composition, and by recursion over a number's digits.
-- Assumes nothing.
use Prim.Native.Nat.{ℕ, zero, suc, ◌+◌, ◌/◌, ◌%◌, ◌^◌, ◌≤◌, ◌<◌}
use native.Mathlib.Nat.{pow-suc}
use native.Mathlib.Decide.{ℕ_discrete}
use mathlib.Core.Path.{◌≡◌, refl, sym, ap, ap₂, ◌∙◌}
use mathlib.Core.Logic.{◌≢◌, inl, inr}
use mathlib.Core.Bool.{Bool, true, false, cond}
use mathlib.Core.List.{List, [], ◌∷◌, ◌++◌}
use native.Mathlib.Omega.{arith}
use lib.Dec.{ltb}
use lib.ListN.{length, replicate, length-append, length-replicate}
use borrow.Author.Tests.{ltb-false}
use Rattle.std.specs.Prelude.{Ok, Err}
use Rattle.rows.specs.Rows.{count, compose}
use Rattle.rows.specs.Laid.{words_for}
use Rattle.rows.specs.declared.Reason.{Reason}
use Rattle.rows.specs.declared.Reason.TheVariants.{LengthsDiffer}
use Rattle.rows.specs.Table.{Named, Verdict, no_operand, number_of, refusal, first, numbered}
use Rattle.rows.proofs.RowLaws.{compose_count}
use Rattle.rows.proofs.TableLaws.{chosen, passed_over, number_some}
use Rattle.rules.specs.Operand.{in_words, Accepted}
use Rattle.rules.specs.Answer.{summed, answered}
use Rattle.rules.specs.Route.{published}
use Rattle.rules.specs.Compose.{Paired, compose_checks, result, routed, composed}
use Rattle.rules.proofs.OperandLaws.{in_words_rows, in_words_accepted}
use Rattle.rules.proofs.AnswerLaws.{by_fine}
use Rattle.rules.proofs.Compositions.{compose_fine, composed_refuses}
use Rattle.lines.specs.Text.{digits, line, refusal_key, route_key, count_key, bits_key, decimal_in, decimal, lines, lines_of, answer_to}
use Rattle.lines.proofs.SaidLaws.{digits_length}
use Rattle.std.specs.Prelude.{Option}
use Rattle.rules.specs.declared.Route.{Route}
use Rattle.rules.specs.Route.{route_number}

-- ---- the answer to two masks

-- the number of the route that composition takes
abbrev pub route_taken : List Bool → List Bool → Option Route
route_taken self rank = routed published (in_words self) (in_words rank)

module _ (self rank : List Bool) (self_short : length self ≤ 8192) (rank_short : length rank ≤ 8192) where
  abbrev out : List ℕ
  out = replicate (words_for (length self)) 0

  abbrev verdict : Verdict
  verdict = first (compose_checks (in_words self) (in_words rank) (length out))

  self_accepted : Accepted (in_words self)
  self_accepted = in_words_accepted self (omega arith)

  rank_accepted : Accepted (in_words rank)
  rank_accepted = in_words_accepted rank (omega arith)

  pub answer_paired : length rank ≡ count self → answer_to self rank ≡ answered (Ok tt) (compose self rank) (route_taken self rank)
  unfolding composed
  answer_paired e =
      let paired : Paired (in_words self) (in_words rank) = record { self = self_accepted; rank = rank_accepted; ranks = e } in
      let room = length-replicate {A = ℕ} (words_for (length self)) 0 in
      let fine = (compose_fine (in_words self) (in_words rank) (length out)).1 (paired, omega arith) in
      sym (by_fine verdict (summed (result (in_words self) (in_words rank)) (route_taken self rank)) out out fine).0
      ∙ ap₂ (λ (s r : List Bool). answered (Ok tt) (compose s r) (route_taken self rank)) (in_words_rows self) (in_words_rows rank)

  pub answer_unpaired : length rank ≢ count self → answer_to self rank ≡ Err (refusal (numbered 7 LengthsDiffer refl) no_operand)
  answer_unpaired h = (composed_refuses (in_words self) (in_words rank) published out (refusal LengthsDiffer no_operand)).1 (inr (inl (refl, self_accepted, rank_accepted, h)))

-- ---- its lines

pub lines_paired : (self rank : List Bool) (route : Option Route) → length rank ≡ count self → lines_of (answered (Ok tt) (compose self rank) route) (compose self rank) ≡ lines 0 (route_number route) (count rank) (compose self rank)
unfolding lines_of
lines_paired self rank route e =
    ap (lines 0 (route_number route) (count (compose self rank))) (chosen (ℕ_discrete 0 0) (compose self rank) [] refl)
    ∙ ap (λ (n : ℕ). lines 0 (route_number route) n (compose self rank)) (compose_count self rank e)

pub lines_refused : (why : Reason) (who : Named) (rows : List Bool) → lines_of (Err (refusal why who)) rows ≡ lines (number_of why) 0 0 []
unfolding lines_of
lines_refused why who rows = ap (lines (number_of why) 0 0) (passed_over (ℕ_discrete (number_of why) 0) rows [] (λ e. omega (arith, number_some why)))

-- ---- how long they are

decimal_in_lem : (k most n : ℕ) → n < 10 ^ suc k → length (decimal_in most n) ≤ suc k
unfolding decimal_in
decimal_in_lem k zero n h = omega arith
decimal_in_lem zero (suc most) n h = one_place (ltb n 10) refl
  where
    one_place : (b : Bool) → ltb n 10 ≡ b → length (cond b ((48 + n) ∷ []) (decimal_in most (n / 10) ++ (48 + n % 10) ∷ [])) ≤ 1
    one_place true e = omega arith
    one_place false e = absurd (omega (arith, ltb-false n 10 e))
decimal_in_lem (suc k) (suc most) n h = more (decimal_in_lem k most (n / 10) (omega (arith, rw (pow-suc 10 (suc k)) at h))) (ltb n 10)
  where
    more : length (decimal_in most (n / 10)) ≤ suc k → (b : Bool) → length (cond b ((48 + n) ∷ []) (decimal_in most (n / 10) ++ (48 + n % 10) ∷ [])) ≤ suc (suc k)
    more ih true = omega arith
    more ih false = omega (arith, length-append (decimal_in most (n / 10)) ((48 + n % 10) ∷ []))

-- a number below 10 to the k has at most k digits
pub decimal_short : (k n : ℕ) → n < 10 ^ suc k → length (decimal n) ≤ suc k
unfolding decimal
decimal_short k n h = decimal_in_lem k n n h

line_length : (key value : List ℕ) → length (line key value) ≡ length key + length value + 1
line_length key value = length-append (key ++ value) (10 ∷ []) ∙ ap (λ (k : ℕ). k + 1) (length-append key value)

pub lines_length : (n route count : ℕ) (rows : List Bool) → length (lines n route count rows) ≡ 29 + length (decimal n) + length (decimal route) + length (decimal count) + length rows
unfolding lines
lines_length n route count rows =
    let one = line refusal_key (decimal n) in
    let two = line route_key (decimal route) in
    let three = line count_key (decimal count) in
    let four = line bits_key (digits rows) in
    omega (
      arith,
      length-append (one ++ two ++ three) four,
      length-append (one ++ two) three,
      length-append one two,
      line_length refusal_key (decimal n),
      line_length route_key (decimal route),
      line_length count_key (decimal count),
      line_length bits_key (digits rows),
      digits_length rows,
    )
