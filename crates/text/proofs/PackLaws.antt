-- Digits laid one after the other over words, from bit 0 on, are their rows: one digit more each time.
-- By what stands at a digit's place, and by the law of bits laid after bits.
-- Assumes nothing.
use Prim.Native.Nat.{ℕ, ◌+◌, ◌-◌, ◌≤◌, ◌<◌}
use native.Mathlib.Nat.{zero-add}
use native.Mathlib.Numerals.{add-one}
use mathlib.Core.Path.{◌≡◌, refl, sym, ap, ◌∙◌}
use mathlib.Core.Bool.{Bool, true, false}
use mathlib.Core.List.{List, [], ◌∷◌}
use native.Mathlib.Omega.{arith}
use lib.ListN.{length, take, drop, get_or, length-drop}
use lib.Seq.{take-suc, length-take-le, get_or-drop}
use Rattle.rows.specs.Word.{bits_of}
use Rattle.rows.specs.Laid.{laid}
use Rattle.rows.proofs.LaidLaws.{laid_append}
use Rattle.lines.specs.Text.{digit_of, rows_in}
use Rattle.lines.proofs.FindLaws.{rows_at, rows_within}

digit_bit : (row : Bool) → bits_of 1 (digit_of row - 48) ≡ row ∷ []
unfolding bits_of
digit_bit false = refl
digit_bit true = refl

digit_from : (row : Bool) → 48 ≤ digit_of row
digit_from false = omega arith
digit_from true = omega arith

module _ (input : List ℕ) (at i : ℕ) (h : i < length (rows_in (drop at input))) where
  pub digit_within : at + i < length input
  digit_within = omega (arith, rows_within (drop at input), length-drop at input)

  digit_there : get_or input (at + i) 0 ≡ digit_of (get_or (rows_in (drop at input)) i false)
  digit_there = sym (get_or-drop at input i 0) ∙ rows_at (drop at input) i h

  pub digit_at_least : 48 ≤ get_or input (at + i) 0
  digit_at_least = omega (arith, digit_there, digit_from (get_or (rows_in (drop at input)) i false))

  pub pack_next : (start : List ℕ) → laid i (bits_of 1 (get_or input (at + i) 0 - 48)) (laid 0 (take i (rows_in (drop at input))) start) ≡ laid 0 (take (i + 1) (rows_in (drop at input))) start
  pack_next start =
      let rows = rows_in (drop at input) in
      let row = get_or rows i false in
      let done = take i rows in
      ap (λ (l : List Bool). laid i l (laid 0 done start)) (ap (λ (d : ℕ). bits_of 1 (d - 48)) digit_there ∙ digit_bit row)
      ∙ laid_append 64 0 i done (row ∷ []) start (sym (zero-add (length done) ∙ length-take-le i rows (omega arith)))
      ∙ ap (λ (l : List Bool). laid 0 l start) (sym (ap (λ (k : ℕ). take k rows) (add-one i) ∙ take-suc rows i false h))
