-- Deposit, select and rank read, as document 01 says them: each refusal exactly when, and what is answered otherwise.
-- By the tables of checks that the contracts cite, and by the bits of words.
-- Assumes nothing.
use Prim.Native.Nat.{ℕ, ◌<◌, ◌+◌, ◌≤◌}
use mathlib.Core.Path.{◌≡◌, refl, sym, ap, ◌∙◌}
use mathlib.Core.Logic.{◌↔◌, ◌≢◌}
use mathlib.Core.Bool.{true, Bool, false}
use native.Mathlib.Decide.{ℕ_discrete, dec_lt, dec_le}
use native.Mathlib.Omega.{arith}
use Rattle.rows.specs.declared.Refusal.{Refusal}
use Rattle.rows.specs.Rows.{count}
use Rattle.rows.specs.Word.{test_bit, bits_of, word_of}
use Rattle.rows.specs.Lists.{select}
use Rattle.rows.specs.Pdep.{pdep}
use Rattle.std.specs.Prelude.{Ok, Err}
use Rattle.rows.specs.declared.Reason.TheVariants.{StartOver63, CountDiffers, NoSuchRank}
use Rattle.rows.specs.Table.{refusal, no_operand, granted, numbered}
use Rattle.rows.specs.WordAnswer.{value_told, deposited, selected, word_from, rank_read}
use Rattle.rows.specs.Words.{fit, bits_of_all}
use Rattle.rows.proofs.WordLaws.{bits_of_length, bits_of_at, bits_of_word_of_at}
use Rattle.rows.proofs.FitLaws.{take_bits}
use Rattle.rows.proofs.SelectLaws.{selects}
use Rattle.rows.proofs.TableLaws.{alone_exactly, alone_refused, alone_fine}
use Rattle.rows.proofs.WordsLaws.{fit_length, fit_at}
use mathlib.Core.List.{List}
use lib.ListN.{get_or, drop}
use lib.Seq.{get_or-drop}

-- a refusal's word or position is told as 0
pub refused_value : (r : Refusal) → value_told (Err r) ≡ 0
refused_value r = refl

-- ---- deposit

-- 4, and no other, exactly where the claimed count differs from the set bits in the mask word
pub deposit_refuses : (source mask claimed : ℕ) (x : Refusal) → (deposited source mask claimed ≡ Err x) ↔ ((x ≡ refusal (numbered 4 CountDiffers refl) no_operand) × (claimed ≢ count (bits_of 64 mask)))
unfolding deposited
deposit_refuses source mask claimed = alone_exactly (ℕ_discrete claimed (count (bits_of 64 mask))) CountDiffers no_operand (pdep 64 source mask)

-- then the whole answer is this
pub deposit_refused : (source mask claimed : ℕ) → claimed ≢ count (bits_of 64 mask) → deposited source mask claimed ≡ Err (refusal (numbered 4 CountDiffers refl) no_operand)
unfolding deposited
deposit_refused source mask claimed h = ap (λ v. granted v (pdep 64 source mask)) (alone_refused (ℕ_discrete claimed (count (bits_of 64 mask))) CountDiffers no_operand h)

-- and otherwise this: the published PDEP
pub deposit_answers : (source mask claimed : ℕ) → claimed ≡ count (bits_of 64 mask) → deposited source mask claimed ≡ Ok (pdep 64 source mask)
unfolding deposited
deposit_answers source mask claimed h = ap (λ v. granted v (pdep 64 source mask)) (alone_fine (ℕ_discrete claimed (count (bits_of 64 mask))) CountDiffers no_operand h)

-- ---- select

-- 9, and no other, exactly where the rank is not below the word's set bits
pub select_refuses : (word rank : ℕ) (x : Refusal) → (selected word rank ≡ Err x) ↔ ((x ≡ refusal (numbered 9 NoSuchRank refl) no_operand) × (¬ (rank < count (bits_of 64 word))))
unfolding selected
select_refuses word rank = alone_exactly (dec_lt rank (count (bits_of 64 word))) NoSuchRank no_operand (select (bits_of 64 word) rank)

pub select_refused : (word rank : ℕ) → ¬ (rank < count (bits_of 64 word)) → selected word rank ≡ Err (refusal (numbered 9 NoSuchRank refl) no_operand)
unfolding selected
select_refused word rank h = ap (λ v. granted v (select (bits_of 64 word) rank)) (alone_refused (dec_lt rank (count (bits_of 64 word))) NoSuchRank no_operand h)

pub select_accepted : (word rank : ℕ) → rank < count (bits_of 64 word) → selected word rank ≡ Ok (select (bits_of 64 word) rank)
unfolding selected
select_accepted word rank h = ap (λ v. granted v (select (bits_of 64 word) rank)) (alone_fine (dec_lt rank (count (bits_of 64 word))) NoSuchRank no_operand h)

-- the position is in range, its bit is set, and exactly `rank` set bits stand below it
pub record Position (word rank p : ℕ) : Type 0 where
  pub in_range : p < 64
  pub is_set : test_bit word p ≡ true
  pub below : count (bits_of p word) ≡ rank

pub select_answers : (word rank : ℕ) → rank < count (bits_of 64 word) → (p : ℕ) × (selected word rank ≡ Ok p) × Position word rank p
select_answers word rank h =
    let p : ℕ = select (bits_of 64 word) rank in
    let s = selects (bits_of 64 word) rank h in
    let lt : p < 64 = omega (arith, s.within, bits_of_length 64 word) in (
      p,
      select_accepted word rank h,
      record {
        in_range = lt;
        is_set = sym (bits_of_at 64 word p lt) ∙ s.set;
        below = ap count (sym (take_bits p 64 word (omega arith))) ∙ s.rank;
      },
    )

-- ---- rank read

module _ (words : List ℕ) (start offset : ℕ) where
  -- 2, and no other, exactly where start is over 63
  pub read_refuses : (x : Refusal) → (rank_read words start offset ≡ Err x) ↔ ((x ≡ refusal (numbered 2 StartOver63 refl) no_operand) × (¬ (start ≤ 63)))
  unfolding rank_read
  read_refuses = alone_exactly (dec_le start 63) StartOver63 no_operand (word_from (start + offset) words)

  -- then the whole answer is this
  pub read_refused : ¬ (start ≤ 63) → rank_read words start offset ≡ Err (refusal (numbered 2 StartOver63 refl) no_operand)
  unfolding rank_read
  read_refused h = ap (λ v. granted v (word_from (start + offset) words)) (alone_refused (dec_le start 63) StartOver63 no_operand h)

  -- and otherwise this
  pub read_answers : start ≤ 63 → rank_read words start offset ≡ Ok (word_from (start + offset) words)
  unfolding rank_read
  read_answers h = ap (λ v. granted v (word_from (start + offset) words)) (alone_fine (dec_le start 63) StartOver63 no_operand h)

-- bit k of the word is bit at + k of the lent words, 0 past their end
pub read_bit : (words : List ℕ) (at k : ℕ) → k < 64 → test_bit (word_from at words) k ≡ get_or (bits_of_all 64 words) (at + k) false
read_bit words at k h =
    let bs = drop at (bits_of_all 64 words) in
    sym (bits_of_at 64 (word_of (fit 64 bs)) k h) ∙ ap (λ (l : List Bool). get_or l k false) (bits_of_word_of_at 64 (fit 64 bs) (fit_length 64 bs)) ∙ fit_at 64 bs k h
    ∙ get_or-drop at (bits_of_all 64 words) k false
