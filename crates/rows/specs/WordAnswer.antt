-- What is right of deposit, of select and of rank read: a refusal, or what document 01 says.
-- Hold it against document 01, parts 2, 3 and 4; its refusals 4 ("deposit: in the mask word"), 9 and 2; and "A refusal carries .. word or
-- position 0". None of the three names an operand.
-- Assumes nothing.
use Rattle.std.specs.Prelude.{ℕ, ◌+◌, List, [], ◌∷◌, drop, Result, Ok, Err}
use Rattle.std.proofs.Math.Decide.{ℕ_discrete, dec_lt, dec_le}
use Rattle.rows.specs.declared.Refusal.{Refusal}
use Rattle.rows.specs.declared.Reason.TheVariants.{StartOver63, CountDiffers, NoSuchRank}
use Rattle.rows.specs.Rows.{count}
use Rattle.rows.specs.Word.{bits_of, word_of}
use Rattle.rows.specs.Lists.{select}
use Rattle.rows.specs.Pdep.{pdep}
use Rattle.rows.specs.Table.{Line, need, no_operand, first, granted}
use Rattle.rows.specs.Words.{fit, bits_of_all}

-- the word or the position that is told beside a refusal's number: 0 with a refusal
abbrev pub value_told : Result ℕ Refusal → ℕ
value_told (Ok value) = value
value_told (Err r) = 0

-- ---- deposit and select

-- a claimed count differs from the set bits in the mask word: 4
abbrev pub deposit_checks : ℕ → ℕ → List Line
deposit_checks mask claimed = need (ℕ_discrete claimed (count (bits_of 64 mask))) CountDiffers no_operand ∷ []

-- the rank is not below the word's set bits: 9
abbrev pub select_checks : ℕ → ℕ → List Line
select_checks word rank = need (dec_lt rank (count (bits_of 64 word))) NoSuchRank no_operand ∷ []

-- the published PDEP of the source and the mask
unfoldable pub deposited : ℕ → ℕ → ℕ → Result ℕ Refusal
deposited source mask claimed = granted (first (deposit_checks mask claimed)) (pdep 64 source mask)

-- the place of the set bit that has the rank
unfoldable pub selected : ℕ → ℕ → Result ℕ Refusal
selected word rank = granted (first (select_checks word rank)) (select (bits_of 64 word) rank)

-- ---- rank read: lent words, a start and an offset. Only refusal 2 applies

-- bit k of the word is bit at + k of the lent words, 0 past their end
abbrev pub word_from : ℕ → List ℕ → ℕ
word_from at words = word_of (fit 64 (drop at (bits_of_all 64 words)))

-- start is over 63: 2
abbrev pub read_checks : ℕ → List Line
read_checks start = need (dec_le start 63) StartOver63 no_operand ∷ []

unfoldable pub rank_read : List ℕ → ℕ → ℕ → Result ℕ Refusal
rank_read words start offset = granted (first (read_checks start)) (word_from (start + offset) words)
