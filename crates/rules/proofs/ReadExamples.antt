-- E9 and E10 of document 01, one statement over one list, by computation on the definition that the contract cites; and a
-- sum that would wrap in 64 bits.
-- Assumes nothing.
use Prim.Native.Nat.{ℕ, ◌+◌, ◌-◌, ◌^◌}
use mathlib.Core.Path.{◌≡◌, refl}
use mathlib.Core.List.{List, [], ◌∷◌}
use native.Mathlib.Decide.{dec_le}
use Rattle.rows.specs.Word.{bits_of, word_of}
use Rattle.rows.specs.Table.{first, refusal, numbered}
use Rattle.rows.specs.WordAnswer.{rank_read}
use Rattle.rows.specs.declared.Reason.TheVariants.{StartOver63}
use Rattle.rows.specs.Table.{no_operand}
use Rattle.std.specs.Prelude.{Ok, Err}

-- words, start, offset, and the answer
pub data Case : Type 0 where
  reads : (words : List ℕ) (start offset word : ℕ) → Case
  refuses : (words : List ℕ) (start offset : ℕ) → Case

abbrev pub Holds : Case → Type 0
Holds (reads ws s o w) = rank_read ws s o ≡ Ok w
Holds (refuses ws s o) = rank_read ws s o ≡ Err (refusal (numbered 2 StartOver63 refl) no_operand)

abbrev pub Every : List Case → Type 0
Every [] = Unit {0}
Every (c ∷ cs) = Holds c × Every cs

abbrev pub cases : List Case
cases =
    reads ((2 ^ 60 + 2 ^ 63) ∷ 1 ∷ []) 60 0 25
    ∷ reads ((2 ^ 60 + 2 ^ 63) ∷ 1 ∷ []) 60 64 0
    ∷ reads ((2 ^ 60 + 2 ^ 63) ∷ 1 ∷ []) 60 (2 ^ 64 - 1) 0
    ∷ reads [] 0 0 0
    ∷ refuses (1 ∷ []) 64 0
    ∷ []

pub examples : Every cases
unfolding rank_read first bits_of word_of dec_le
examples = (refl, (refl, (refl, (refl, (refl, tt)))))
