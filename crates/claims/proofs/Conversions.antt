-- Demand 1, and what is written, for the conversions, of whatever the contracts of `to_words`, `to_list` and `to_runs` allow: x is an
-- answer that the contract allows and `after` what then stands in the output. By the theorems about their definitions.
-- Assumes nothing.
use Prim.Native.Nat.{ℕ, ◌*◌, ◌≤◌, ◌<◌}
use mathlib.Core.Path.{◌≡◌, refl, ap}
use mathlib.Core.Logic.{◌↔◌, ◌≢◌}
use mathlib.Core.List.{List, []}
use lib.ListN.{length, take}
use contract.Lifetimes.{Lfts}
use borrow.Fn.Kinds.{Dens, res_t, ended_of}
use denote.Triple.Clauses.{Lasts, at_exit}
use Rattle.rows.specs.declared.Refusal.{Refusal}
use Rattle.rows.specs.Runs.{runs_in}
use Rattle.rows.specs.Laid.{words_for}
use Rattle.rules.specs.Answer.{Answer}
use Rattle.rules.specs.declared.Written.{Written}
use Rattle.rules.specs.declared.Form.TheVariants.{Words, List as Listed, Runs}
use Rattle.rules.specs.Operand.{Operand, lent, rows_of, length_of, count_of, Accepted}
use Rattle.rules.specs.Convert.{to_words, to_words_out, to_list, to_list_out, to_runs, to_runs_out, answer_of, runs_told}
use Rattle.rules.proofs.AnswerLaws.{Bare}
use Rattle.rules.proofs.Writes.{row, Writes, Lists, WritesRuns}
use Rattle.rules.proofs.Densities.{Nearest}
use Rattle.rules.proofs.Conversions.{Refuses, to_words_refuses, to_words_accepts, to_words_refused, to_list_refuses, to_list_accepts, to_list_refused}
use Rattle.rules.proofs.Conversions.{to_runs_refuses, to_runs_accepts, to_runs_refused}
use Rattle.rules.proofs.RoundTrips.{to_words_writes, to_words_back, to_list_lists, to_list_back, to_runs_writes, to_runs_back, to_runs_only}
use Rattle.mask.proofs.to_words.Kinds as words-kinds
use Rattle.mask.proofs.to_words.Reads as words-reads
use Rattle.mask.proofs.to_list.Kinds as list-kinds
use Rattle.mask.proofs.to_list.Reads as list-reads
use Rattle.mask.proofs.to_runs.Kinds as runs-kinds
use Rattle.mask.proofs.to_runs.Reads as runs-reads
use Rattle.claims.proofs.Densities.{written_nearest, listed_nearest, runs_nearest}
use Rattle.rows.specs.Table.{number_told}
use Rattle.rules.specs.Answer.{summary_told}
use Rattle.std.specs.Prelude.{None, Result, Ok, Err}
use Rattle.rows.proofs.TableLaws.{ok_never, err_same}

-- what a conversion that needs so many elements owes, refused: each refusal exactly when, and accepted exactly otherwise; and a refusal
-- changes no lent element, and reports count 0, route 0 and density 0.0
pub record Refusing (o : Operand) (needed : ℕ) (out : List ℕ) (answer : Answer) (after : List ℕ) : Type 0 where
  pub refuses_exactly : (x : Refusal) → (answer ≡ Err x) ↔ Refuses o needed (length out) x
  pub accepts_exactly : ((number_told answer) ≡ 0) ↔ (Accepted o × (needed ≤ length out))
  pub refused_changes_nothing : (number_told answer) ≢ 0 → (after ≡ out) × Bare answer

-- ---- to words

pub record ToWords (o : Operand) (out : List ℕ) (answer : Answer) (after : List ℕ) : Type 0 where
  pub refusing : Refusing o (words_for (length_of o.form)) out answer after
  -- accepted: its rows bit by bit, their own count, route 0, their density, the tail and the later words
  pub accepted_writes : Accepted o → words_for (length_of o.form) ≤ length out → Writes (length_of o.form) (row o) None answer after out
  -- the density told is the value of the format nearest to the told count over the length
  pub accepted_density : Accepted o → words_for (length_of o.form) ≤ length out → 0 < length_of o.form → Nearest (summary_told answer).count (length_of o.form) (summary_told answer).density
  -- and what was written, read as words, is the same mask
  pub reads_back : Accepted o → words_for (length_of o.form) ≤ length out → let back = lent (Words 0 (length_of o.form) (count_of o)) after [] in Accepted back × (rows_of back ≡ rows_of o)

words_demands : (o : Operand) (out : List ℕ) (answer : Answer) (after : List ℕ) → answer ≡ to_words o out → after ≡ to_words_out o out → ToWords o out answer after
words_demands o out answer after e f =
    rw (e, f)
    (record {
      refusing = record { refuses_exactly = to_words_refuses o out; accepts_exactly = to_words_accepts o out; refused_changes_nothing = to_words_refused o out };
      accepted_writes = to_words_writes o out;
      accepted_density = λ a r. written_nearest (to_words_writes o out a r);
      reads_back = to_words_back o out;
    })

pub to_words_demands : (κs : Lfts 3) (a : Dens κs words-kinds.ps) (x : (res_t words-kinds.r κs).Denot) (v : Lasts (ended_of 3 words-kinds.ps words-kinds.r) κs a)
    → words-reads.Post κs a x (at_exit (ended_of 3 words-kinds.ps words-kinds.r) κs a v)
    → ToWords (lent a.0 a.1.0.now a.1.1.0.now) a.1.1.1.0.now x v.1.1.1.0
to_words_demands κs a x v allowed = words_demands _ _ _ _ allowed.0 allowed.1

-- ---- to a list

pub record ToList (o : Operand) (out : List ℕ) (answer : Answer) (after : List ℕ) : Type 0 where
  pub refusing : Refusing o (count_of o) out answer after
  -- accepted: its set rows as entries, as many as it counts, route 0, its density and the later entries
  pub accepted_lists : Accepted o → count_of o ≤ length out → Lists (length_of o.form) (rows_of o) answer after out
  -- the density told is the value of the format nearest to the told count over the length
  pub accepted_density : Accepted o → count_of o ≤ length out → 0 < length_of o.form → Nearest (summary_told answer).count (length_of o.form) (summary_told answer).density
  -- and what was written, read as a list, is the same mask
  pub reads_back : Accepted o → count_of o ≤ length out → let back = lent (Listed (length_of o.form)) [] (take (count_of o) after) in Accepted back × (rows_of back ≡ rows_of o)

list_demands : (o : Operand) (out : List ℕ) (answer : Answer) (after : List ℕ) → answer ≡ to_list o out → after ≡ to_list_out o out → ToList o out answer after
list_demands o out answer after e f =
    rw (e, f)
    (record {
      refusing = record { refuses_exactly = to_list_refuses o out; accepts_exactly = to_list_accepts o out; refused_changes_nothing = to_list_refused o out };
      accepted_lists = to_list_lists o out;
      accepted_density = λ a r. listed_nearest o a (to_list_lists o out a r);
      reads_back = to_list_back o out;
    })

pub to_list_demands : (κs : Lfts 3) (a : Dens κs list-kinds.ps) (x : (res_t list-kinds.r κs).Denot) (v : Lasts (ended_of 3 list-kinds.ps list-kinds.r) κs a)
    → list-reads.Post κs a x (at_exit (ended_of 3 list-kinds.ps list-kinds.r) κs a v)
    → ToList (lent a.0 a.1.0.now a.1.1.0.now) a.1.1.1.0.now x v.1.1.1.0
to_list_demands κs a x v allowed = list_demands _ _ _ _ allowed.0 allowed.1

-- ---- to runs

pub record ToRuns (o : Operand) (out : List ℕ) (told : Result Written Refusal) (after : List ℕ) : Type 0 where
  pub refusing : Refusing o (runs_in (rows_of o) * 2) out (answer_of told) after
  -- a refusal tells no runs
  pub refused_no_runs : number_told told ≢ 0 → runs_told told ≡ 0
  -- accepted: its runs as numbers, how many they are, its own count, route 0, its density, and that later numbers stay
  pub accepted_runs : Accepted o → runs_in (rows_of o) * 2 ≤ length out → WritesRuns (length_of o.form) (rows_of o) told after out
  -- the density told is the value of the format nearest to the told count over the length
  pub accepted_density : Accepted o → runs_in (rows_of o) * 2 ≤ length out → 0 < length_of o.form
      → Nearest (summary_told (answer_of told)).count (length_of o.form) (summary_told (answer_of told)).density
  -- what was written, read as runs, is the same mask
  pub reads_back : Accepted o → runs_in (rows_of o) * 2 ≤ length out
      → let back = lent (Runs (length_of o.form)) [] (take (runs_told told * 2) after) in Accepted back × (rows_of back ≡ rows_of o)
  -- and it is the only run list that the mask has: any that is accepted and has these rows is, number by number, the one written
  pub only : Accepted o → runs_in (rows_of o) * 2 ≤ length out → (ns : List ℕ) → Accepted (lent (Runs (length_of o.form)) [] ns)
      → rows_of (lent (Runs (length_of o.form)) [] ns) ≡ rows_of o → ns ≡ take (runs_told told * 2) after

-- its answer is refused as it is
same_refused : (t : Result Written Refusal) (x : Refusal) → (answer_of t ≡ Err x) ↔ (t ≡ Err x)
same_refused (Ok w) x = (λ e. ok_never e, λ e. ok_never e)
same_refused (Err r) x = (λ e. ap Err (err_same e), λ e. ap Err (err_same e))

same_number : (t : Result Written Refusal) → number_told (answer_of t) ≡ number_told t
same_number (Ok w) = refl
same_number (Err r) = refl

runs_demands : (o : Operand) (out : List ℕ) (told : Result Written Refusal) (after : List ℕ) → told ≡ to_runs o out → after ≡ to_runs_out o out → ToRuns o out told after
runs_demands o out told after e f =
    rw (e, f)
    (record {
      refusing =
          let t = to_runs o out in
          record {
            refuses_exactly = λ x. (λ e. (to_runs_refuses o out x).0 ((same_refused t x).0 e), λ r. (same_refused t x).1 ((to_runs_refuses o out x).1 r));
            accepts_exactly = rw (same_number t) (to_runs_accepts o out);
            refused_changes_nothing = λ h. (let g = to_runs_refused o out (rw (← same_number t) h) in (g.0, g.1));
          };
      refused_no_runs = λ h. (to_runs_refused o out h).2;
      accepted_runs = to_runs_writes o out;
      accepted_density = λ a r. runs_nearest o a (to_runs_writes o out a r);
      reads_back = to_runs_back o out;
      only = to_runs_only o out;
    })

pub to_runs_demands : (κs : Lfts 3) (a : Dens κs runs-kinds.ps) (x : (res_t runs-kinds.r κs).Denot) (v : Lasts (ended_of 3 runs-kinds.ps runs-kinds.r) κs a)
    → runs-reads.Post κs a x (at_exit (ended_of 3 runs-kinds.ps runs-kinds.r) κs a v)
    → ToRuns (lent a.0 a.1.0.now a.1.1.0.now) a.1.1.1.0.now x v.1.1.1.0
to_runs_demands κs a x v allowed = runs_demands _ _ _ _ allowed.0 allowed.1
