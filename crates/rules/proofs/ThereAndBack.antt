-- There and back between rows and ranks, through the words that the first call left: composing self with what was recovered gives the second
-- mask, and recovering from what was composed gives the rank mask. By `compose_recover`, `recover_compose` and the law of words written.
-- Assumes nothing.
use Prim.Native.Nat.{ℕ, ◌≤◌}
use mathlib.Core.Path.{◌≡◌, refl, sym, ap, ◌∙◌}
use mathlib.Core.Bool.{Bool}
use mathlib.Core.List.{List, []}
use lib.ListN.{length, take}
use Rattle.rows.specs.Table.{Verdict}
use Rattle.std.specs.Prelude.{Ok}
use Rattle.rows.specs.Rows.{count, compose, recover, outside}
use Rattle.rows.specs.Words.{bits_of_all}
use Rattle.rows.specs.Laid.{words_for, written}
use Rattle.rows.specs.Table.{number_told, first, if_fine}
use Rattle.rows.proofs.RecoverLaws.{recover_compose, compose_recover, compose_inside}
use Rattle.rows.proofs.WrittenLaws.{written_rows}
use Rattle.rules.specs.Answer.{Answer}
use Rattle.rules.specs.declared.Factors.{Factors}
use Rattle.rules.specs.declared.Form.TheVariants.{Words}
use Rattle.rules.specs.Operand.{Operand, lent, rows_of, length_of, count_of, Accepted}
use Rattle.rules.specs.Answer.{answered}
use Rattle.rules.specs.Compose.{Paired, compose_checks, result, routed, composed, composed_out}
use Rattle.rules.specs.Recover.{Within, recover_checks, recovery, recovered, recovered_out}
use Rattle.rules.proofs.OperandLaws.{accepted_length, accepted_count, accepted_few, accepted_limit}
use Rattle.rules.proofs.Writes.{written_back}
use Rattle.rules.proofs.ComposeLaws.{ranks_length, result_length}
use Rattle.rules.proofs.Compositions.{compose_fine, Accepts as Composes}
use Rattle.rules.proofs.Recoveries.{lengths_same, recovery_length, recover_fine, Accepts as Recovers}
use Rattle.rules.specs.Answer.{summary_told}
use Rattle.rules.specs.Answer.{no_route}
use Rattle.std.specs.Prelude.{Option}
use Rattle.rules.specs.declared.Route.{Route}

-- an operation is accepted, and what it tells and leaves is the mask m: its length, its rows and its count
pub record Gives (m : Operand) (len : ℕ) (a : Answer) (left : List ℕ) : Type 0 where
  pub accepted : number_told a ≡ 0
  pub long : len ≡ length_of m.form
  pub rows : take len (bits_of_all 64 left) ≡ rows_of m
  pub counted : (summary_told a).count ≡ count_of m

-- words from the start on, with a length and the count that was told
abbrev pub as_words : ℕ → Answer → List ℕ → Operand
as_words len a left = lent (Words 0 len (summary_told a).count) left []

-- what an accepted operation wrote is the operand of its rows
back : (v : Verdict) → v ≡ Ok tt → (n : ℕ) (rows : List Bool) (route : Option Route) (out : List ℕ) → length rows ≡ n → n ≤ 1048576 → words_for n ≤ length out
    → let o = as_words n (answered v rows route) (if_fine v (written n rows out) out) in Accepted o × (rows_of o ≡ rows)
back v e n rows route out long few room = rw e (written_back n rows out long few room)

-- and where those rows are the mask's, it gives the mask
gives : (v : Verdict) → v ≡ Ok tt → (n : ℕ) (rows : List Bool) (route : Option Route) (out : List ℕ) (m : Operand) → Accepted m → n ≡ length_of m.form → rows ≡ rows_of m
    → Gives m n (answered v rows route) (if_fine v (written n rows out) out)
gives v e n rows route out m well long same =
    rw e
    (record {
      accepted = refl;
      long = long;
      rows = written_rows n rows out (ap length same ∙ accepted_length m well ∙ sym long) ∙ same;
      counted = ap count same ∙ accepted_count m well;
    })

module _ (s k : Operand) (out : List ℕ) (t : Recovers s k (length out)) where
  abbrev ranks : Operand
  ranks = as_words (count_of s) (recovered s k out) (recovered_out s k out)

  ranks_back : Accepted ranks × (rows_of ranks ≡ recovery s k)
  unfolding recovered recovered_out
  ranks_back =
      back (first (recover_checks s k (length out))) ((recover_fine s k (length out)).1 t) (count_of s) (recovery s k) no_route out
      (recovery_length s k t.0) (accepted_few s t.0.self) t.1

  -- "Composing self with the answer gives her mask back"
  pub recovered_composes : (f : Factors) (to : List ℕ) → words_for (length_of s.form) ≤ length to
      → let r = as_words (count_of s) (recovered s k out) (recovered_out s k out) in
      Gives k (length_of s.form) (composed f s r to) (composed_out s r to)
  unfolding composed composed_out
  recovered_composes f to room =
      let w = t.0 in
      let pair : Paired s ranks = record { self = w.self; rank = ranks_back.0; ranks = refl } in
      let same : result s ranks ≡ rows_of k =
      ap (compose (rows_of s)) ranks_back.1 ∙ compose_recover (rows_of s) (rows_of k) (lengths_same s k w) w.inside in
      gives (first (compose_checks s ranks (length to))) ((compose_fine s ranks (length to)).1 (pair, room)) (length_of s.form) (result s ranks) (routed f s ranks) to k
      w.kept (sym w.lengths) same

module _ (s r : Operand) (f : Factors) (out : List ℕ) (t : Composes s r (length out)) where
  abbrev rows : Operand
  rows = as_words (length_of s.form) (composed f s r out) (composed_out s r out)

  rows_back : Accepted rows × (rows_of rows ≡ result s r)
  unfolding composed composed_out
  rows_back =
      back (first (compose_checks s r (length out))) ((compose_fine s r (length out)).1 t) (length_of s.form) (result s r) (routed f s r) out
      (result_length s r t.0) (accepted_limit s t.0.self) t.1

  -- "and recovering from any composed mask gives the rank mask back"
  pub composed_recovers : (to : List ℕ) → words_for (count_of s) ≤ length to
      → let k = as_words (length_of s.form) (composed f s r out) (composed_out s r out) in
      Gives r (count_of s) (recovered s k to) (recovered_out s k to)
  unfolding recovered recovered_out
  composed_recovers to room =
      let p = t.0 in
      let within : Within s rows = record {
        self = p.self;
        kept = rows_back.0;
        lengths = refl;
        inside = ap (λ (l : List Bool). count (outside (rows_of s) l)) rows_back.1 ∙ compose_inside (rows_of s) (rows_of r);
      } in
      let same : recovery s rows ≡ rows_of r =
      ap (recover (rows_of s)) rows_back.1 ∙ recover_compose (rows_of s) (rows_of r) (ranks_length s r p) in
      gives (first (recover_checks s rows (length to))) ((recover_fine s rows (length to)).1 (within, room)) (count_of s) (recovery s rows) no_route to r
      p.rank (sym p.ranks) same
