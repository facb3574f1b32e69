-- Demand 1, and the rows, for the set operations, of whatever their contracts allow. One record for the operations on two operands, whatever
-- they do to a row, and one for not. By the theorems about their definitions.
-- Assumes nothing.
use mathlib.Core.Path.{◌≡◌}
use mathlib.Core.Logic.{◌↔◌, ◌≢◌}
use mathlib.Core.Bool.{Bool, not, ◌&&◌, ◌||◌}
use mathlib.Core.List.{List}
use Prim.Native.Nat.{ℕ, ◌<◌}
use lib.ListN.{length}
use contract.Lifetimes.{Lfts}
use borrow.Fn.Kinds.{Dens, res_t, ended_of}
use denote.Triple.Clauses.{Lasts, at_exit}
use Rattle.rows.specs.declared.Refusal.{Refusal}
use Rattle.rules.specs.Answer.{Answer}
use Rattle.rules.specs.Operand.{Operand, lent, length_of}
use Rattle.rules.specs.SetOps.{and_not, combined, combined_out, negated, negated_out}
use Rattle.rules.proofs.AnswerLaws.{Bare}
use Rattle.rules.proofs.Writes.{row, Writes}
use Rattle.rules.proofs.Densities.{Nearest}
use Rattle.rules.proofs.SetOperations.{Refuses, Accepts, NotRefuses, NotAccepts, combined_refuses, combined_accepts, combined_refused, combined_writes, not_refuses, not_accepts, not_refused, not_writes}
use Rattle.bitops.proofs.and.Kinds as and-kinds
use Rattle.bitops.proofs.and.Reads as and-reads
use Rattle.bitops.proofs.or.Kinds as or-kinds
use Rattle.bitops.proofs.or.Reads as or-reads
use Rattle.bitops.proofs.and_not.Kinds as and-not-kinds
use Rattle.bitops.proofs.and_not.Reads as and-not-reads
use Rattle.bitops.proofs.not.Kinds as not-kinds
use Rattle.bitops.proofs.not.Reads as not-reads
use Rattle.claims.proofs.Densities.{written_nearest}
use Rattle.rows.specs.Table.{number_told}
use Rattle.rules.specs.Answer.{summary_told}
use Rattle.std.specs.Prelude.{None, Err}

-- ---- two operands, by g row by row

pub record Demands (g : Bool → Bool → Bool) (a b : Operand) (out : List ℕ) (answer : Answer) (after : List ℕ) : Type 0 where
  -- each refusal, its number and its operand, exactly when document 01 says, in its order
  pub refuses_exactly : (x : Refusal) → (answer ≡ Err x) ↔ Refuses a b (length out) x
  -- accepted exactly otherwise
  pub accepts_exactly : ((number_told answer) ≡ 0) ↔ Accepts a b (length out)
  -- a refusal changes no lent word, and reports count 0, route 0 and density 0.0
  pub refused_changes_nothing : (number_told answer) ≢ 0 → (after ≡ out) × Bare answer
  -- accepted: the rows, their count, route 0, the density, the tail and the later words
  pub accepted_writes : Accepts a b (length out) → Writes (length_of a.form) (λ i. g (row a i) (row b i)) None answer after out
  -- the density told is the value of the format nearest to the told count over the length
  pub accepted_density : Accepts a b (length out) → 0 < length_of a.form → Nearest (summary_told answer).count (length_of a.form) (summary_told answer).density

demands : (g : Bool → Bool → Bool) (a b : Operand) (out : List ℕ) (answer : Answer) (after : List ℕ)
    → answer ≡ combined g a b out → after ≡ combined_out g a b out → Demands g a b out answer after
demands g a b out answer after e f =
    rw (e, f)
    (record {
      refuses_exactly = combined_refuses a b g out;
      accepts_exactly = combined_accepts a b g out;
      refused_changes_nothing = combined_refused a b g out;
      accepted_writes = combined_writes a b g out;
      accepted_density = λ t. written_nearest (combined_writes a b g out t);
    })

pub and_demands : (κs : Lfts 5) (a : Dens κs and-kinds.ps) (x : (res_t and-kinds.r κs).Denot) (v : Lasts (ended_of 5 and-kinds.ps and-kinds.r) κs a) → and-reads.Post κs a x (at_exit (ended_of 5 and-kinds.ps and-kinds.r) κs a v)
    → Demands ◌&&◌ (lent a.0 a.1.0.now a.1.1.0.now) (lent a.1.1.1.0 a.1.1.1.1.0.now a.1.1.1.1.1.0.now) a.1.1.1.1.1.1.0.now x v.1.1.1.1.1.1.0
and_demands κs a x v allowed = demands ◌&&◌ _ _ _ _ _ allowed.0 allowed.1

pub or_demands : (κs : Lfts 5) (a : Dens κs or-kinds.ps) (x : (res_t or-kinds.r κs).Denot) (v : Lasts (ended_of 5 or-kinds.ps or-kinds.r) κs a) → or-reads.Post κs a x (at_exit (ended_of 5 or-kinds.ps or-kinds.r) κs a v)
    → Demands ◌||◌ (lent a.0 a.1.0.now a.1.1.0.now) (lent a.1.1.1.0 a.1.1.1.1.0.now a.1.1.1.1.1.0.now) a.1.1.1.1.1.1.0.now x v.1.1.1.1.1.1.0
or_demands κs a x v allowed = demands ◌||◌ _ _ _ _ _ allowed.0 allowed.1

pub and_not_demands : (κs : Lfts 5) (a : Dens κs and-not-kinds.ps) (x : (res_t and-not-kinds.r κs).Denot) (v : Lasts (ended_of 5 and-not-kinds.ps and-not-kinds.r) κs a) → and-not-reads.Post κs a x (at_exit (ended_of 5 and-not-kinds.ps and-not-kinds.r) κs a v)
    → Demands and_not (lent a.0 a.1.0.now a.1.1.0.now) (lent a.1.1.1.0 a.1.1.1.1.0.now a.1.1.1.1.1.0.now) a.1.1.1.1.1.1.0.now x v.1.1.1.1.1.1.0
and_not_demands κs a x v allowed = demands and_not _ _ _ _ _ allowed.0 allowed.1

-- ---- not

pub record NotDemands (a : Operand) (out : List ℕ) (answer : Answer) (after : List ℕ) : Type 0 where
  pub refuses_exactly : (x : Refusal) → (answer ≡ Err x) ↔ NotRefuses a (length out) x
  pub accepts_exactly : ((number_told answer) ≡ 0) ↔ NotAccepts a (length out)
  pub refused_changes_nothing : (number_told answer) ≢ 0 → (after ≡ out) × Bare answer
  pub accepted_writes : NotAccepts a (length out) → Writes (length_of a.form) (λ i. not (row a i)) None answer after out
  pub accepted_density : NotAccepts a (length out) → 0 < length_of a.form → Nearest (summary_told answer).count (length_of a.form) (summary_told answer).density

one_demands : (a : Operand) (out : List ℕ) (answer : Answer) (after : List ℕ) → answer ≡ negated a out → after ≡ negated_out a out → NotDemands a out answer after
one_demands a out answer after e f =
    rw (e, f)
    (record {
      refuses_exactly = not_refuses a out;
      accepts_exactly = not_accepts a out;
      refused_changes_nothing = not_refused a out;
      accepted_writes = not_writes a out;
      accepted_density = λ t. written_nearest (not_writes a out t);
    })

pub not_demands : (κs : Lfts 3) (a : Dens κs not-kinds.ps) (x : (res_t not-kinds.r κs).Denot) (v : Lasts (ended_of 3 not-kinds.ps not-kinds.r) κs a) → not-reads.Post κs a x (at_exit (ended_of 3 not-kinds.ps not-kinds.r) κs a v)
    → NotDemands (lent a.0 a.1.0.now a.1.1.0.now) a.1.1.1.0.now x v.1.1.1.0
not_demands κs a x v allowed = one_demands _ _ _ _ allowed.0 allowed.1
