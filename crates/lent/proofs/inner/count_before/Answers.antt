-- `lent::inner::count_before` meets its contract: whole words, and the low bits of the next one where the bit is within it.
-- By the law of the words before a word and its first bits.
use Rattle.std.proofs.Common.{◌≡◌, ℕ, ◌+◌, ◌-◌, ◌*◌, ◌/◌, ◌%◌, ◌^◌, ◌≤◌, ◌<◌, List, length, take, get_or, sym, ap, ◌∙◌, arith}
use native.Mathlib.Nat.{mod-lt}
use lib.Pow.{pow_pos}
use lib.Bits.{bit_and, and_mask}
use lib.Count.{ones, ones-le}
use Rattle.rows.specs.Rows.{count}
use Rattle.rows.specs.Words.{bits_of_all}
use Rattle.rows.proofs.RowLaws.{count_take_le}
use Rattle.rows.proofs.FitLaws.{bits_take, count_take_words}
use Rattle.lent.proofs.inner.count_before.Goals as goal

-- the whole words before the bit
whole : (n : ℕ) (ws : List ℕ) → count (bits_of_all 64 (take n ws)) ≡ count (take (n * 64) (bits_of_all 64 ws))
whole n ws = ap count (bits_take 64 n ws)

-- the word that the bit is in, cut before it: no more set bits than a word has, and what it adds to the words before it
cut : (bits m : ℕ) (ws : List ℕ) → bits < length ws * 64 → m ≡ 2 ^ (bits % 64) - 1
    → (ones (bit_and (get_or ws (bits / 64) 0) m) ≤ 64)
    × (count (take bits (bits_of_all 64 ws)) ≡ count (bits_of_all 64 (take (bits / 64) ws)) + ones (bit_and (get_or ws (bits / 64) 0) m))
cut bits m ws h e =
    let k : ℕ = bits % 64 in
    let w = get_or ws (bits / 64) 0 in
    let place : bits / 64 * 64 + k ≡ bits = omega arith in
    let low : bit_and w m ≡ w % 2 ^ k = ap (bit_and w) e ∙ and_mask w k in (
      omega (arith, ap ones low, ones-le k (w % 2 ^ k) (mod-lt w (pow_pos k))),
      rw (whole, low) (ap (λ (x : ℕ). count (take x (bits_of_all 64 ws))) (sym place) ∙ count_take_words 64 (bits / 64) k ws (omega arith) (omega arith)),
    )

pub returns-then-rest-eq0 : goal.returns-then-rest-eq0
returns-then-rest-eq0 c =
    let a = c.args in
    let all : a.bits / 64 * 64 ≡ a.bits = omega arith in
    c.count_words-sum.ensures ∙ whole (a.bits / 64) a.words.now ∙ ap (λ (x : ℕ). count (take x (bits_of_all 64 a.words.now))) all

pub overflow_add-result : goal.overflow_add-result
overflow_add-result c =
    let a = c.args in
    omega (arith, cut a.bits c.ones.result a.words.now (omega arith) c.ones.ensures, count_take_le a.bits (bits_of_all 64 a.words.now))

pub returns : goal.returns
returns c =
    let a = c.args in
    omega (arith, cut a.bits c.ones.result a.words.now (omega arith) c.ones.ensures)
