-- Recovery, of whatever the contract of `recover` allows: x is what it gives and `after` what then stands in the output; and there and back, of
-- whatever its contract and that of `intersect_by_rank` allow, through the words that the first call left. By the theorems about the definitions.
-- Assumes nothing.
use mathlib.Core.Path.{◌≡◌, refl}
use mathlib.Core.Logic.{◌↔◌, ◌≢◌}
use mathlib.Core.List.{List}
use Prim.Native.Nat.{ℕ, ◌≤◌, ◌<◌}
use lib.ListN.{length}
use contract.Lifetimes.{Lfts}
use borrow.Fn.Kinds.{Dens, res_t, ended_of}
use denote.Triple.Clauses.{Lasts, at_exit}
use Rattle.rows.specs.declared.Row.{Row}
use Rattle.rows.specs.declared.Refusal.{Refusal}
use Rattle.rows.specs.Lists.{select}
use Rattle.rows.specs.Laid.{words_for}
use Rattle.rows.specs.Table.{refusal, numbered}
use Rattle.rows.proofs.RecoverLaws.{FirstOutside}
use Rattle.rules.specs.Answer.{Answer}
use Rattle.rules.specs.Operand.{Operand, lent, rows_of, length_of, count_of}
use Rattle.rules.specs.Route.{published}
use Rattle.rules.proofs.AnswerLaws.{Bare}
use Rattle.rules.proofs.Writes.{row, Writes}
use Rattle.rules.proofs.Densities.{Nearest}
use Rattle.rules.proofs.Compositions.{Accepts as Composes}
use Rattle.rules.proofs.Recoveries.{Refuses, Accepts, recovered_refuses, recovered_accepts, recovered_refused, recovered_writes, recovered_count, outside_else, outside_first}
use Rattle.rules.proofs.ThereAndBack.{Gives, as_words, recovered_composes, composed_recovers}
use Rattle.intersect_by_rank.proofs.intersect_by_rank.Kinds as compose-kinds
use Rattle.intersect_by_rank.proofs.intersect_by_rank.Reads as compose-reads
use Rattle.recover.proofs.recover.Kinds as kinds
use Rattle.recover.proofs.recover.Reads as reads
use Rattle.claims.proofs.Densities.{written_nearest}
use Rattle.rows.specs.declared.Reason.TheVariants.{RowOutside}
use Rattle.rows.specs.Table.{Named, number_told, row_told}
use Rattle.rules.specs.Answer.{summary_told}
use Rattle.std.specs.Prelude.{None, Err}

-- ---- one call

module _ (κs : Lfts 5) (a : Dens κs kinds.ps) where
  abbrev pub self : Operand
  self = lent a.0 a.1.0.now a.1.1.0.now

  abbrev pub other : Operand
  other = lent a.1.1.1.0 a.1.1.1.1.0.now a.1.1.1.1.1.0.now

  abbrev pub out : List ℕ
  out = a.1.1.1.1.1.1.0.now

  abbrev pub left : Lasts (ended_of 5 kinds.ps kinds.r) κs a → List ℕ
  left v = v.1.1.1.1.1.1.0

  module _ (x : (res_t kinds.r κs).Denot) (v : Lasts (ended_of 5 kinds.ps kinds.r) κs a) (allowed : reads.Post κs a x (at_exit (ended_of 5 kinds.ps kinds.r) κs a v)) where
    abbrev gave : Answer
    gave = x

    -- each refusal, its number and its operand, exactly when the documents say, in their order
    pub recovery_refuses_exactly : (r : Refusal) → (gave ≡ Err r) ↔ Refuses self other (length out) r
    recovery_refuses_exactly = rw allowed.0 (recovered_refuses self other out)

    -- accepted exactly otherwise
    pub recovery_accepts_exactly : ((number_told gave) ≡ 0) ↔ Accepts self other (length out)
    recovery_accepts_exactly = rw allowed.0 (recovered_accepts self other out)

    -- a refusal changes no lent word, and reports count 0, route 0 and density 0.0
    pub refused_recovery_changes_nothing : (number_told gave) ≢ 0 → (left v ≡ out) × Bare gave
    refused_recovery_changes_nothing = rw (allowed.0, allowed.1) (recovered_refused self other out)

    -- the row told with 17 is in the second mask and not in self, and no earlier row is; in every other answer it is 0
    pub outside_row_first : (row : Row) (who : Named) → gave ≡ Err (refusal (numbered 17 (RowOutside row) refl) who) → FirstOutside (rows_of self) (rows_of other) row.0
    outside_row_first = rw allowed.0 (outside_first self other out)

    pub outside_row_else : number_told gave ≢ 17 → row_told gave ≡ 0
    outside_row_else = rw allowed.0 (outside_else self other out)

    -- accepted: rank r as the r-th set row of self is kept, the count of the ranks written, route 0, the density, the tail and the later words
    pub accepted_recovery_writes : Accepts self other (length out) → Writes (count_of self) (λ r. row other (select (rows_of self) r)) None gave (left v) out
    accepted_recovery_writes = rw (allowed.0, allowed.1) (recovered_writes self other out)

    -- the count told is the second mask's
    pub accepted_recovery_count : Accepts self other (length out) → (summary_told gave).count ≡ count_of other
    accepted_recovery_count = rw allowed.0 (recovered_count self other out)

    -- the density told is the value of the format nearest to the told count over self's count
    pub accepted_recovery_density : Accepts self other (length out) → 0 < count_of self
        → Nearest (summary_told gave).count (count_of self) (summary_told gave).density
    accepted_recovery_density t = written_nearest (accepted_recovery_writes t)

-- ---- a call of composition

module _ (κs : Lfts 5) (a : Dens κs compose-kinds.ps) where
  abbrev pub composed_self : Operand
  composed_self = lent a.0 a.1.0.now a.1.1.0.now

  abbrev pub rank_mask : Operand
  rank_mask = lent a.1.1.1.0 a.1.1.1.1.0.now a.1.1.1.1.1.0.now

  abbrev pub composed_out_lem : List ℕ
  composed_out_lem = a.1.1.1.1.1.1.0.now

  abbrev pub composed_left : Lasts (ended_of 5 compose-kinds.ps compose-kinds.r) κs a → List ℕ
  composed_left v = v.1.1.1.1.1.1.0

-- ---- there and back: a call of each, the second given what the first left, in words from the start on with the count that it told

module _ (κs : Lfts 5) (a : Dens κs kinds.ps) (x : (res_t kinds.r κs).Denot) (v : Lasts (ended_of 5 kinds.ps kinds.r) κs a)
    (allowed : reads.Post κs a x (at_exit (ended_of 5 kinds.ps kinds.r) κs a v))
    (κt : Lfts 5) (b : Dens κt compose-kinds.ps) (y : (res_t compose-kinds.r κt).Denot) (w : Lasts (ended_of 5 compose-kinds.ps compose-kinds.r) κt b)
    (composes : compose-reads.Post κt b y (at_exit (ended_of 5 compose-kinds.ps compose-kinds.r) κt b w)) where
  abbrev recovered : Answer
  recovered = x

  abbrev composed : Answer
  composed = y

  -- composing self with what was recovered gives the second mask back
  pub there_and_back : Accepts (self κs a) (other κs a) (length (out κs a)) → words_for (length_of (self κs a).form) ≤ length (composed_out_lem κt b)
      → composed_self κt b ≡ self κs a → rank_mask κt b ≡ as_words (count_of (self κs a)) recovered (left κs a v)
      → Gives (other κs a) (length_of (self κs a).form) composed (composed_left κt b w)
  there_and_back t room same mask =
      rw (composes.0, composes.1, same, mask, allowed.0, allowed.1) (recovered_composes (self κs a) (other κs a) (out κs a) t published (composed_out_lem κt b) room)

  -- recovering from what was composed gives the rank mask back
  pub back_and_there : Composes (composed_self κt b) (rank_mask κt b) (length (composed_out_lem κt b)) → words_for (count_of (composed_self κt b)) ≤ length (out κs a)
      → self κs a ≡ composed_self κt b → other κs a ≡ as_words (length_of (composed_self κt b).form) composed (composed_left κt b w)
      → Gives (rank_mask κt b) (count_of (composed_self κt b)) recovered (left κs a v)
  back_and_there t room same mask =
      rw (allowed.0, allowed.1, same, mask, composes.0, composes.1)
      (composed_recovers (composed_self κt b) (rank_mask κt b) published (composed_out_lem κt b) t (out κs a) room)
