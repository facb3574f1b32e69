-- A feed's table, met and not met: what is known of the state and of the pair where every need is met, the verdict part by part, and
-- the state moved; and what serves any stream: refusal 10's bound, and bits laid one after the other on one output. By the laws of tables, of an
-- accepted operand, of `compose` and of `laid`. Assumes nothing.
use Prim.Native.Nat.{ℕ, ◌+◌, ◌*◌, ◌≤◌}
use native.Mathlib.Nat.{zero-add}
use native.Mathlib.Decide.{dec_le}
use native.Mathlib.Omega.{arith}
use mathlib.Core.Path.{◌≡◌, refl, sym, ap, ap₂, ◌∙◌}
use mathlib.Core.Logic.{◌↔◌, inl, inr}
use mathlib.Core.Bool.{Bool}
use mathlib.Core.List.{List, [], ◌∷◌, ◌++◌}
use lib.ListN.{length, take, drop}
use lib.Seq.{take_at, drop_at}
use Rattle.rows.specs.declared.Refusal.{Refusal}
use Rattle.std.specs.Prelude.{Err}
use Rattle.rows.specs.Rows.{count, splice}
use Rattle.rows.specs.Words.{bits_of_all}
use Rattle.rows.specs.Laid.{words_for, laid, written}
use Rattle.rows.specs.Table.{Line, First, Met, need, refusal, numbered}
use Rattle.rows.proofs.TableLaws.{never, same_refusal}
use Rattle.rows.proofs.RowLaws.{count_le_length}
use Rattle.rows.proofs.SpliceLaws.{splice_append, splice_eq}
use Rattle.rows.proofs.WordsLaws.{bits_of_all_length}
use Rattle.rows.proofs.LaidLaws.{laid_bits}
use Rattle.rows.proofs.WrittenLaws.{written_rows}
use Rattle.rules.specs.declared.State.{State}
use Rattle.rules.specs.Operand.{limit, rows_of, count_of}
use Rattle.rules.specs.Compose.{Paired}
use Rattle.rules.specs.Stream.{Pair, long, kept, moved}
use Rattle.rules.proofs.OperandLaws.{accepted_length, accepted_count, accepted_limit}
use Rattle.rules.proofs.ComposeLaws.{ranks_length, result_length, result_count}
use Rattle.rows.specs.declared.Reason.TheVariants.{StateOutOfBound}
use Rattle.rows.specs.Table.{no_operand}

-- ---- refusal 10's bound, of any stream's three numbers

module _ (kept ranks done : ℕ) where
  abbrev pub Bound : Type 0
  Bound = (kept ≤ ranks) × (ranks ≤ done) × (done ≤ limit)

  abbrev pub bound_checks : List Line
  bound_checks = need (dec_le kept ranks) StateOutOfBound no_operand ∷ need (dec_le ranks done) StateOutOfBound no_operand ∷ need (dec_le done limit) StateOutOfBound no_operand ∷ []

  pub bound_met : Met bound_checks ↔ Bound
  bound_met = (λ m. (m.0, m.1.0, m.1.1.0), λ w. (w.0, (w.1, (w.2, tt))))

  pub bound_refuses : (x : Refusal) → First bound_checks (Err x) ↔ ((x ≡ refusal (numbered 10 StateOutOfBound refl) no_operand) × (¬ Bound))
  bound_refuses x = (to, λ t. from (dec_le kept ranks) (dec_le ranks done) t.0 t.1)
    where
      to : First bound_checks (Err x) → (x ≡ refusal StateOutOfBound no_operand) × (¬ Bound)
      to (inr (a, e)) = (same_refusal e, λ w. a w.0)
      to (inl (a, inr (b, e))) = (same_refusal e, λ w. b w.1)
      to (inl (a, inl (b, inr (c, e)))) = (same_refusal e, λ w. c w.2)
      to (inl (a, inl (b, inl (c, e)))) = never e

      from : Dec (kept ≤ ranks) → Dec (ranks ≤ done) → x ≡ refusal StateOutOfBound no_operand → (¬ Bound) → First bound_checks (Err x)
      from (yes a) (yes b) e h = inl (a, inl (b, inr (λ c. h (a, b, c), ap Err e)))
      from (yes a) (no b) e h = inl (a, inr (b, ap Err e))
      from (no a) d e h = inr (a, ap Err e)

-- ---- bits laid one after the other on one output

-- a piece laid, and what comes after it where the piece ends, are the two joined
pub laid_then : (at n : ℕ) (xs ys : List Bool) (out left : List ℕ) → length xs ≡ n
    → bits_of_all 64 left ≡ splice (at + n) (bits_of_all 64 (laid at xs out)) ys → bits_of_all 64 left ≡ splice at (bits_of_all 64 out) (xs ++ ys)
laid_then at n xs ys out left e h =
    h
    ∙ ap₂ (λ (m : ℕ) (l : List Bool). splice (at + m) l ys) (sym e) (laid_bits 64 at xs out)
    ∙ splice_append at (bits_of_all 64 out) xs ys

take_over : (xs ys : List Bool) → length ys ≤ length xs → take (length ys) (splice 0 xs ys) ≡ ys
take_over xs ys h = rw (splice_eq 0 xs ys (omega arith)) (take_at ys (drop (0 + length ys) xs) (length ys) refl)

drop_over : (xs ys : List Bool) → length ys ≤ length xs → drop (length ys) (splice 0 xs ys) ≡ drop (length ys) xs
drop_over xs ys h =
    rw (splice_eq 0 xs ys (omega arith))
    (drop_at ys (drop (0 + length ys) xs) (length ys) refl ∙ ap (λ (n : ℕ). drop n xs) (zero-add (length ys)))

-- n bits laid from bit 0 on are those that are written at once, and no other bit changed
module _ (n : ℕ) (bs : List Bool) (out left : List ℕ) (long : length bs ≡ n) (fits : n ≤ length out * 64) where
  short : length bs ≤ length (bits_of_all 64 out)
  short = omega (arith, long, fits, bits_of_all_length 64 out)

  pub laid_within : bits_of_all 64 left ≡ splice 0 (bits_of_all 64 out) bs → take n (bits_of_all 64 left) ≡ take n (bits_of_all 64 (written n bs out))
  laid_within e = rw (e, written_rows n bs out long, ← long) (take_over (bits_of_all 64 out) bs short)

  pub laid_past : bits_of_all 64 left ≡ splice 0 (bits_of_all 64 out) bs → drop n (bits_of_all 64 left) ≡ drop n (bits_of_all 64 out)
  laid_past e = rw (e, ← long) (drop_over (bits_of_all 64 out) bs short)

-- ---- the composer's feed

-- refusal 10's bound
abbrev pub Within : State → Type 0
Within st = (st.kept ≤ st.ranks.0) × (st.ranks.0 ≤ st.done.0) × (st.done.0 ≤ limit)

-- what a feed that is accepted needs
pub record Accepts (st : State) (p : Pair) (room : ℕ) : Type 0 where
  pub within : Within st
  pub matched : Paired p.self p.rank
  pub limited : st.done.0 + long p ≤ limit
  pub space : words_for (st.done.0 + long p) ≤ room

-- ---- lengths and counts of an accepted pair

module _ (p : Pair) (m : Paired p.self p.rank) where
  pub self_length : length (rows_of p.self) ≡ long p
  self_length = accepted_length p.self m.self

  pub self_count : count (rows_of p.self) ≡ count_of p.self
  self_count = accepted_count p.self m.self

  pub rank_length : length (rows_of p.rank) ≡ count (rows_of p.self)
  rank_length = ranks_length p.self p.rank m

  pub kept_length : length (kept p) ≡ long p
  kept_length = result_length p.self p.rank m

  pub kept_count : count (kept p) ≡ count_of p.rank
  kept_count = result_count p.self p.rank m

  pub kept_few : count (kept p) ≤ count (rows_of p.self)
  kept_few = omega (arith, kept_count, sym (accepted_count p.rank m.rank), rank_length, count_le_length (rows_of p.rank))

  pub self_limit : long p ≤ limit
  self_limit = accepted_limit p.self m.self

-- an accepted feed hands back a state within 10's bound
pub moved_within : (st : State) (p : Pair) (room : ℕ) → Accepts st p room → Within (moved st p)
moved_within st p room t =
    let m = t.matched in (
      omega (arith, t.within.0, kept_few p m),
      omega (arith, t.within.1, count_le_length (rows_of p.self), kept_few p m, self_length p m),
      omega (arith, t.limited, self_length p m),
    )
