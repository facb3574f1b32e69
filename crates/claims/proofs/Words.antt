-- Deposit, select and rank read, of whatever their contracts allow: x is an answer that the contract allows. Each refusal exactly when,
-- and what is answered otherwise. By the theorems about their definitions.
-- Assumes nothing.
use Prim.Native.Nat.{ℕ, ◌+◌, ◌≤◌, ◌<◌}
use mathlib.Core.Path.{◌≡◌, ap, ◌∙◌, refl}
use mathlib.Core.Logic.{◌↔◌, ◌≢◌}
use mathlib.Core.Bool.{false}
use mathlib.Core.List.{List}
use lib.ListN.{get_or}
use contract.Lifetimes.{Lfts}
use borrow.Fn.Kinds.{Dens, res_t, ended_of}
use denote.Triple.Clauses.{Lasts, at_exit}
use Rattle.rows.specs.declared.Refusal.{Refusal}
use Rattle.rows.specs.Rows.{count, compose}
use Rattle.rows.specs.Word.{test_bit, bits_of, word_of}
use Rattle.rows.specs.Words.{bits_of_all}
use Rattle.rows.specs.Pdep.{pdep}
use Rattle.rows.specs.Table.{refusal, numbered}
use Rattle.rows.specs.WordAnswer.{value_told}
use Rattle.rows.proofs.PdepLaws.{pdep_is}
use Rattle.rows.proofs.Theorems.{deposit_refuses, deposit_refused, deposit_answers, Position, select_refuses, select_refused, select_answers, read_refuses, read_refused, read_answers, read_bit}
use Rattle.word.proofs.deposit.Kinds as deposit-kinds
use Rattle.word.proofs.deposit.Reads as deposit
use Rattle.word.proofs.select.Kinds as select-kinds
use Rattle.word.proofs.select.Reads as select
use Rattle.lent.proofs.rank_read.Kinds as read-kinds
use Rattle.lent.proofs.rank_read.Reads as read
use Rattle.rows.specs.declared.Reason.TheVariants.{StartOver63, CountDiffers, NoSuchRank}
use Rattle.rows.specs.Table.{no_operand, number_told}
use Rattle.std.specs.Prelude.{Result, Ok, Err}

-- ---- deposit

module _ (κs : Lfts 0) (a : Dens κs deposit-kinds.ps) (x : (res_t deposit-kinds.r κs).Denot) (v : Lasts (ended_of 0 deposit-kinds.ps deposit-kinds.r) κs a)
    (allowed : deposit.Post κs a x (at_exit (ended_of 0 deposit-kinds.ps deposit-kinds.r) κs a v)) where
  abbrev source : ℕ
  source = a.0

  abbrev mask : ℕ
  mask = a.1.0

  abbrev claimed : ℕ
  claimed = a.1.1.0

  abbrev answer : Result ℕ Refusal
  answer = x

  -- 4, and no other, exactly where the claimed count differs from the set bits in the mask word; then the whole answer is 4 and word 0
  pub deposit_refuses_exactly : (y : Refusal) → (answer ≡ Err y) ↔ ((y ≡ refusal (numbered 4 CountDiffers refl) no_operand) × (claimed ≢ count (bits_of 64 mask)))
  deposit_refuses_exactly = rw allowed (deposit_refuses source mask claimed)

  pub refused_deposit : claimed ≢ count (bits_of 64 mask) → (answer ≡ Err (refusal (numbered 4 CountDiffers refl) no_operand)) × (number_told answer ≡ 4) × (value_told answer ≡ 0)
  refused_deposit h =
      let e = allowed ∙ deposit_refused source mask claimed h in
      (e, ap (λ (r : Result ℕ Refusal). number_told r) e, ap value_told e)

  -- and otherwise the published PDEP, which is composition of the mask's bits and the source's
  pub deposit_is_pdep : claimed ≡ count (bits_of 64 mask) → answer ≡ Ok (pdep 64 source mask)
  deposit_is_pdep h = allowed ∙ deposit_answers source mask claimed h

  pub deposit_composes : claimed ≡ count (bits_of 64 mask) → answer ≡ Ok (word_of (compose (bits_of 64 mask) (bits_of 64 source)))
  deposit_composes h = deposit_is_pdep h ∙ ap Ok (pdep_is 64 source mask)

-- ---- select

module _ (κs : Lfts 0) (a : Dens κs select-kinds.ps) (x : (res_t select-kinds.r κs).Denot) (v : Lasts (ended_of 0 select-kinds.ps select-kinds.r) κs a)
    (allowed : select.Post κs a x (at_exit (ended_of 0 select-kinds.ps select-kinds.r) κs a v)) where
  abbrev word : ℕ
  word = a.0

  abbrev rank : ℕ
  rank = a.1.0

  abbrev selected : Result ℕ Refusal
  selected = x

  -- 9, and no other, exactly where the rank is not below the word's set bits; then the whole answer is 9 and position 0
  pub select_refuses_exactly : (y : Refusal) → (selected ≡ Err y) ↔ ((y ≡ refusal (numbered 9 NoSuchRank refl) no_operand) × (¬ (rank < count (bits_of 64 word))))
  select_refuses_exactly = rw allowed (select_refuses word rank)

  pub refused_select : ¬ (rank < count (bits_of 64 word)) → (selected ≡ Err (refusal (numbered 9 NoSuchRank refl) no_operand)) × (number_told selected ≡ 9) × (value_told selected ≡ 0)
  refused_select h =
      let e = allowed ∙ select_refused word rank h in
      (e, ap (λ (r : Result ℕ Refusal). number_told r) e, ap value_told e)

  -- and otherwise the position is in range, its bit is set, and exactly `rank` set bits stand below it
  pub select_finds : rank < count (bits_of 64 word) → (p : ℕ) × (selected ≡ Ok p) × Position word rank p
  select_finds h = let s = select_answers word rank h in (s.0, allowed ∙ s.1, s.2)

-- ---- rank read

module _ (κs : Lfts 1) (a : Dens κs read-kinds.ps) (x : (res_t read-kinds.r κs).Denot) (v : Lasts (ended_of 1 read-kinds.ps read-kinds.r) κs a)
    (allowed : read.Post κs a x (at_exit (ended_of 1 read-kinds.ps read-kinds.r) κs a v)) where
  abbrev words : List ℕ
  words = a.0.now

  abbrev start : ℕ
  start = a.1.0

  abbrev offset : ℕ
  offset = a.1.1.0

  abbrev read_word : Result ℕ Refusal
  read_word = x

  -- 2, and no other, exactly where start is over 63; then the whole answer is 2 and word 0
  pub read_refuses_exactly : (y : Refusal) → (read_word ≡ Err y) ↔ ((y ≡ refusal (numbered 2 StartOver63 refl) no_operand) × (¬ (start ≤ 63)))
  read_refuses_exactly = rw allowed (read_refuses words start offset)

  pub refused_read : ¬ (start ≤ 63) → (read_word ≡ Err (refusal (numbered 2 StartOver63 refl) no_operand)) × (number_told read_word ≡ 2) × (value_told read_word ≡ 0)
  refused_read h =
      let e = allowed ∙ read_refused words start offset h in
      (e, ap (λ (r : Result ℕ Refusal). number_told r) e, ap value_told e)

  -- and otherwise bit k of the word is bit start+offset+k of the lent words, 0 past their end
  pub read_bits : start ≤ 63 → (number_told read_word ≡ 0) × ((k : ℕ) → k < 64 → test_bit (value_told read_word) k ≡ get_or (bits_of_all 64 words) (start + offset + k) false)
  read_bits h =
      let e = allowed ∙ read_answers words start offset h in
      (ap (λ (r : Result ℕ Refusal). number_told r) e, λ k l. ap (λ (r : Result ℕ Refusal). test_bit (value_told r) k) e ∙ read_bit words (start + offset) k l)
