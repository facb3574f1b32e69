-- A word stored behind what the word before it had room for: the bits of one number, one part behind the other.
-- By the law of a word stored as bits laid. Assumes nothing.
use Prim.Native.Nat.{ℕ, suc, ◌+◌, ◌-◌, ◌*◌, ◌/◌, ◌%◌, ◌^◌, ◌<◌}
use native.Mathlib.Nat.{div-div-eq-div-mul, pow-suc, mul_comm}
use native.Mathlib.Omega.{arith}
use mathlib.Core.Path.{◌≡◌, sym, ap, ◌∙◌}
use mathlib.Core.Bool.{Bool}
use mathlib.Core.List.{List, ◌++◌}
use lib.ListN.{length, set}
use lib.Pow.{shr_le}
use Rattle.rows.specs.Word.{bits_of}
use Rattle.rows.specs.Laid.{laid}
use Rattle.rows.proofs.WordLaws.{bits_of_length, bits_of_add}
use Rattle.rows.proofs.LaidLaws.{laid_word, laid_append}
use Rattle.rows.proofs.BehindLaws.{below_laid}

-- by one, and then by the rest of it
by_parts : (x k : ℕ) → x / 2 / 2 ^ k ≡ x / 2 ^ (k + 1)
by_parts x k = div-div-eq-div-mul x 2 (2 ^ k) ∙ ap (λ (d : ℕ). x / d) (mul_comm 2 (2 ^ k) ∙ sym (ap (λ (e : ℕ). 2 ^ e) one ∙ pow-suc 2 k))
  where
    one : k + 1 ≡ suc k
    one = omega arith

pub stored_over : (out then : List ℕ) (place bits : ℕ) → bits < 2 ^ 64 → then ≡ laid place (bits_of (64 - place % 64) bits) out
    → set then (place / 64 + 1) (bits / 2 / 2 ^ (63 - place % 64)) ≡ laid place (bits_of (64 - place % 64 + 64) bits) out
stored_over out then place bits small t =
    let first : ℕ = 64 - place % 64 in
    let at : (place / 64 + 1) * 64 ≡ place + length (bits_of first bits) = omega (arith, bits_of_length first bits) in
    let shift : 63 - place % 64 + 1 ≡ first = omega arith in
    let v : ℕ = bits / 2 / 2 ^ (63 - place % 64) in
    let is : v ≡ bits / 2 ^ first = by_parts bits (63 - place % 64) ∙ ap (λ (e : ℕ). bits / 2 ^ e) shift in
    let few : v < 2 ^ 64 = omega (arith, is, shr_le bits first, small) in
    ap (λ (l : List ℕ). set l (place / 64 + 1) v) t
    ∙ laid_word 64 (place / 64 + 1) v (laid place (bits_of first bits) out) few (below_laid 64 place (bits_of first bits) out)
    ∙ laid_append 64 place ((place / 64 + 1) * 64) (bits_of first bits) (bits_of 64 v) out at
    ∙ ap (λ (l : List Bool). laid place l out) (ap (λ (x : ℕ). bits_of first bits ++ bits_of 64 x) is ∙ sym (bits_of_add first 64 bits))
