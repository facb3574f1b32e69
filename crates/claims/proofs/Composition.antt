-- Demands 1 and 2 for composition, of whatever the contract of `intersect_by_rank` allows: x is an answer that it allows and `after` is
-- what then stands in the output. By the theorems about its definitions.
-- Assumes nothing.
use mathlib.Core.Path.{◌≡◌, sym, ap, ◌∙◌}
use mathlib.Core.Logic.{◌↔◌, ◌≢◌}
use mathlib.Core.Bool.{true, ◌&&◌}
use mathlib.Core.List.{List}
use Prim.Native.Nat.{ℕ, ◌<◌}
use lib.ListN.{length}
use contract.Lifetimes.{Lfts}
use borrow.Fn.Kinds.{Dens, res_t, ended_of}
use denote.Triple.Clauses.{Lasts, at_exit}
use Rattle.rows.specs.declared.Refusal.{Refusal}
use Rattle.rows.specs.Rows.{rank_at}
use Rattle.rules.specs.Answer.{Answer}
use Rattle.rules.specs.Operand.{Operand, lent, rows_of, length_of}
use Rattle.rules.specs.Route.{published}
use Rattle.rules.specs.Compose.{routed, composed_out}
use Rattle.rules.proofs.AnswerLaws.{Bare}
use Rattle.rules.proofs.Writes.{bit_at, row, Writes}
use Rattle.rules.proofs.Densities.{Nearest}
use Rattle.rules.proofs.Compositions.{Refuses, Accepts, composed_refuses, composed_accepts, composed_refused, composed_writes, composed_row}
use Rattle.intersect_by_rank.proofs.inner.compose.compose_with.Kinds as with-kinds
use Rattle.intersect_by_rank.proofs.inner.compose.compose_with.Reads as with-reads
use Rattle.intersect_by_rank.proofs.intersect_by_rank.Kinds as kinds
use Rattle.intersect_by_rank.proofs.intersect_by_rank.Reads as reads
use Rattle.claims.proofs.Densities.{written_nearest}
use Rattle.rows.specs.Table.{number_told}
use Rattle.rules.specs.Answer.{summary_told}
use Rattle.std.specs.Prelude.{Err}

module _ (κs : Lfts 5) (a : Dens κs kinds.ps) (x : (res_t kinds.r κs).Denot) (v : Lasts (ended_of 5 kinds.ps kinds.r) κs a) (allowed : reads.Post κs a x (at_exit (ended_of 5 kinds.ps kinds.r) κs a v)) where
  abbrev s : Operand
  s = lent a.0 a.1.0.now a.1.1.0.now

  abbrev r : Operand
  r = lent a.1.1.1.0 a.1.1.1.1.0.now a.1.1.1.1.1.0.now

  abbrev out : List ℕ
  out = a.1.1.1.1.1.1.0.now

  abbrev answer : Answer
  answer = x

  abbrev after : List ℕ
  after = v.1.1.1.1.1.1.0

  -- each refusal, its number and its operand, exactly when document 01 says, in its order
  pub refuses_exactly : (x : Refusal) → (answer ≡ Err x) ↔ Refuses s r (length out) x
  refuses_exactly = rw allowed.0 (composed_refuses s r published out)

  -- accepted exactly otherwise
  pub accepts_exactly : ((number_told answer) ≡ 0) ↔ Accepts s r (length out)
  accepts_exactly = rw allowed.0 (composed_accepts s r published out)

  -- a refusal changes no lent word, and reports count 0, route 0 and density 0.0
  pub refused_changes_nothing : (number_told answer) ≢ 0 → (after ≡ out) × Bare answer
  refused_changes_nothing = rw (allowed.0, allowed.1) (composed_refused s r published out)

  -- accepted: the rows, the count of the rows written, the route of the table, the density, the tail and the later words
  pub accepted_writes : Accepts s r (length out) → Writes (length_of s.form) (λ i. row s i && row r (rank_at (rows_of s) i)) (routed published s r) answer after out
  accepted_writes = rw (allowed.0, allowed.1) (composed_writes s r published out)

  -- the density told is the value of the format nearest to the told count over self's length
  pub accepted_density : Accepts s r (length out) → 0 < length_of s.form → Nearest (summary_told answer).count (length_of s.form) (summary_told answer).density
  accepted_density t = written_nearest (accepted_writes t)

  -- row i of the result is set exactly if self has i and the rank mask has i's rank
  pub row_exactly : Accepts s r (length out) → (i : ℕ) → i < length_of s.form
      → (bit_at after i ≡ true) ↔ ((row s i ≡ true) × (row r (rank_at (rows_of s) i) ≡ true))
  row_exactly = rw allowed.1 (composed_row s r out)

-- ---- the route never changes the rows, whatever the factors are: `compose_with` is `intersect_by_rank` with factors handed in

-- the same operands and output, other factors
module _ (κs : Lfts 5) (a b : Dens κs with-kinds.ps) (same : a.1 ≡ b.1) (x y : (res_t with-kinds.r κs).Denot)
    (v : Lasts (ended_of 5 with-kinds.ps with-kinds.r) κs a) (w : Lasts (ended_of 5 with-kinds.ps with-kinds.r) κs b)
    (one : with-reads.Post κs a x (at_exit (ended_of 5 with-kinds.ps with-kinds.r) κs a v))
    (other : with-reads.Post κs b y (at_exit (ended_of 5 with-kinds.ps with-kinds.r) κs b w)) where
  pub factors_change_no_row : v.1.1.1.1.1.1.1.0 ≡ w.1.1.1.1.1.1.1.0
  factors_change_no_row =
      one.1 ∙ ap (λ c. composed_out (lent c.0 c.1.0.now c.1.1.0.now) (lent c.1.1.1.0 c.1.1.1.1.0.now c.1.1.1.1.1.0.now) c.1.1.1.1.1.1.0.now) same ∙ sym other.1
