-- `lent::inner::count_words` meets its contract.
-- Each turn adds one word's set bits, of which there are at most 64: so the sum is at most 64 times the words passed.
use Rattle.std.proofs.Common.{◌≡◌, ℕ, ◌+◌, ◌*◌, ◌^◌, ◌<◌, List, length, take, get_or, ap, ◌∙◌, arith}
use native.Mathlib.Nat.{mod-eq_of_lt}
use lib.Seq.{take_all}
use lib.Count.{ones, ones-le}
use Rattle.rows.specs.Rows.{count}
use Rattle.rows.specs.Words.{bits_of_all}
use Rattle.rows.proofs.RowLaws.{count_take_le}
use Rattle.rows.proofs.FitLaws.{count_take_words}
use Rattle.rows.proofs.WordsLaws.{bits_of_all_length}
use Rattle.lent.proofs.inner.count_words.Goals as goal

more : (i : ℕ) (ws : List ℕ) → i < length ws → get_or ws i 0 < 2 ^ 64
    → count (take ((i + 1) * 64) (bits_of_all 64 ws)) ≡ count (take (i * 64) (bits_of_all 64 ws)) + ones (get_or ws i 0)
more i ws h small =
    let next : (i + 1) * 64 ≡ i * 64 + 64 = omega arith in
    rw next
    (count_take_words 64 i 64 ws (omega arith) h ∙ ap (λ (x : ℕ). count (take (i * 64) (bits_of_all 64 ws)) + ones x) (mod-eq_of_lt small))

pub overflow_add-sum : goal.overflow_add-sum
overflow_add-sum c =
    let i : ℕ = c.loop-word.word-index in
    let ws = c.args.words.now in
    omega (arith, ones-le 64 (get_or ws i 0) (c.type_inv.words i).fits, count_take_le (i * 64) (bits_of_all 64 ws))

pub loop-word-preserved : goal.loop-word-preserved
loop-word-preserved c =
    let i : ℕ = c.loop-word.word-index in
    let ws = c.args.words.now in
    omega (arith, more i ws (omega arith) (c.type_inv.words i).fits)

pub returns : goal.returns
returns c =
    let ws = c.args.words.now in
    let all : c.loop-word.word-index ≡ length ws = omega arith in
    c.loop-word.invariant ∙ ap (λ (k : ℕ). count (take (k * 64) (bits_of_all 64 ws))) all
    ∙ ap count (take_all (length ws * 64) (bits_of_all 64 ws) (omega (arith, bits_of_all_length 64 ws)))
