-- E1 to E8 of document 01, one statement over one list, of the definitions that the contracts cite. E2 and E3 name no source, and hold
-- for every word: by the law that PDEP is composition. All others by computation.
-- Assumes nothing.
use Prim.Native.Nat.{ℕ, ◌-◌, ◌^◌, ◌<◌}
use mathlib.Core.Path.{◌≡◌, refl, ap, ◌∙◌}
use mathlib.Core.List.{List, [], ◌∷◌}
use native.Mathlib.Decide.{ℕ_discrete, dec_lt}
use Rattle.rows.specs.Rows.{count}
use Rattle.rows.specs.Word.{bits_of, word_of}
use Rattle.rows.specs.Pdep.{pdep_loop, pdep}
use Rattle.rows.specs.Table.{first, refusal, numbered}
use Rattle.rows.specs.WordAnswer.{deposited, selected}
use Rattle.rows.proofs.RowLaws.{compose_empty, compose_full}
use Rattle.rows.proofs.WordLaws.{word_of_bits_of}
use Rattle.rows.proofs.PdepLaws.{pdep_is}
use Rattle.rows.proofs.Theorems.{deposit_answers}
use Rattle.rows.specs.declared.Reason.TheVariants.{NoSuchRank}
use Rattle.rows.specs.Table.{no_operand}
use Rattle.std.specs.Prelude.{Ok, Err}

-- source, mask and the word that is deposited, by the mask's own count; a mask and what it makes of every source; word, rank and the
-- position; word and rank refused with 9
pub data Case : Type 0 where
  deposits : (source mask word : ℕ) → Case
  takes : (mask : ℕ) (word : ℕ → ℕ) → Case
  selects : (word rank position : ℕ) → Case
  refuses : (word rank : ℕ) → Case

abbrev pub Holds : Case → Type 0
Holds (deposits s m w) = deposited s m (count (bits_of 64 m)) ≡ Ok w
Holds (takes m w) = (s : ℕ) → s < 2 ^ 64 → deposited s m (count (bits_of 64 m)) ≡ Ok (w s)
Holds (selects n r p) = selected n r ≡ Ok p
Holds (refuses n r) = selected n r ≡ Err (refusal (numbered 9 NoSuchRank refl) no_operand)

abbrev pub Every : List Case → Type 0
Every [] = Unit {0}
Every (c ∷ cs) = Holds c × Every cs

abbrev pub cases : List Case
cases =
    deposits 5 26 18
    ∷ takes 0 (λ s. 0)
    ∷ takes 0xffff_ffff_ffff_ffff (λ s. s)
    ∷ deposits 0xffff_ffff_ffff_ffff 0x8000_0000_0000_0000 0x8000_0000_0000_0000
    ∷ deposits 1 0x7fff_ffff_ffff_fffe 2
    ∷ deposits 8 0xffff_ffff_ffff_fff7 16
    ∷ selects 26 0 1
    ∷ selects 26 2 4
    ∷ refuses 26 3
    ∷ selects 0xffff_ffff_ffff_ffff 63 63
    ∷ []

-- what a mask makes of every source, where that is what the published PDEP does
taken : (m : ℕ) (w : ℕ → ℕ) → ((s : ℕ) → s < 2 ^ 64 → pdep 64 s m ≡ w s) → Holds (takes m w)
taken m w law s h = deposit_answers s m (count (bits_of 64 m)) refl ∙ ap (λ (n : ℕ). Ok n) (law s h)

none : Holds (takes 0 (λ s. 0))
unfolding bits_of word_of
none = taken 0 (λ s. 0) (λ s h. pdep_is 64 s 0 ∙ ap word_of (compose_empty (bits_of 64 0) (bits_of 64 s) refl))

all : Holds (takes 0xffff_ffff_ffff_ffff (λ s. s))
unfolding bits_of
all = taken 0xffff_ffff_ffff_ffff (λ s. s) (λ s h. pdep_is 64 s (2 ^ 64 - 1) ∙ ap word_of (compose_full (bits_of 64 (2 ^ 64 - 1)) (bits_of 64 s) refl refl) ∙ word_of_bits_of 64 s h)

pub examples : Every cases
unfolding deposited selected first pdep pdep_loop bits_of ℕ_discrete dec_lt
examples = (refl, (none, (all, (refl, (refl, (refl, (refl, (refl, (refl, (refl, tt))))))))))
