-- `laid::inner::copy_bits` meets its contract.
-- A turn lays a part more and counts it, by the laws of bits copied; the part of the last turn ends the bits.
use Rattle.std.proofs.Common.{◌≡◌, ℕ, ◌+◌, ◌-◌, ◌*◌, ◌^◌, ◌≤◌, ◌<◌, min, List, length, drop, ap, ◌∙◌, subst, arith}
use native.Mathlib.Nat.{add-zero}
use lib.Bits.{bit_and}
use lib.Count.{ones}
use Rattle.rows.specs.Word.{bits_of, word_of}
use Rattle.rows.specs.Words.{fit, bits_of_all}
use Rattle.rows.specs.Laid.{laid}
use Rattle.rows.specs.WordAnswer.{word_from}
use Rattle.rows.proofs.LaidLaws.{below_all}
use Rattle.laid.proofs.CopyLaws.{Copying, copying_none, part_few, copying_part, copying_all}
use Rattle.laid.proofs.inner.copy_bits.Goals as goal

-- a turn: the word x is read and its low bits laid, and those are counted through the mask y
turn : (ws : List ℕ) (from n at done sum some x y : ℕ) (out₀ out then : List ℕ) → Copying ws from n at done sum out₀ out → done < n → some ≡ min 64 (n - done)
    → from + n ≤ length ws * 64 → x ≡ word_from (from + done + 0) ws → y ≡ 2 ^ some - 1 → then ≡ laid (at + done) (bits_of some x) out
    → (sum + ones (bit_and x y) ≤ n) × Copying ws from n at (done + some) (sum + ones (bit_and x y)) out₀ then
turn ws from n at done sum some x y out₀ out then c more e room read mask lies =
    let place : ℕ = from + done in
    let is_read : x ≡ word_of (fit 64 (drop place (bits_of_all 64 ws))) = read ∙ ap (λ (k : ℕ). word_of (fit 64 (drop k (bits_of_all 64 ws)))) (add-zero place) in (
      part_few ws from n at done sum out₀ out c some x y then (omega arith) (omega arith) room is_read mask,
      copying_part ws from n at done sum out₀ out c some x y then (omega arith) (omega arith) room is_read mask lies,
    )

pub loop-done-init : goal.loop-done-init
loop-done-init c =
    let a = c.args in
    copying_none a.words.now a.from a.n a.at a.out.now (below_all (2 ^ 64) a.out.now (λ i. (c.type_inv.out i).fits))

pub overflow_add-sum : goal.overflow_add-sum
overflow_add-sum c =
    let a = c.args in
    let l = c.loop-done in
    let t = turn a.words.now a.from a.n a.at l.done l.sum _ _ _ a.out.now l.out _ l.invariant c.loop-done-test.true c.chunk_len-some.ensures c.requires.0 c.read-bits.ensures c.ones.ensures c.put.ensures in
    omega (arith, t.0)

pub loop-done-preserved : goal.loop-done-preserved
loop-done-preserved c =
    let a = c.args in
    let l = c.loop-done in
    let t = turn a.words.now a.from a.n a.at l.done l.sum _ _ _ a.out.now l.out _ l.invariant c.loop-done-test.true c.chunk_len-some.ensures c.requires.0 c.read-bits.ensures c.ones.ensures c.put.ensures in
    let whole : c.chunk_len-some.result ≡ 64 = omega arith in
    subst (λ (k : ℕ). Copying a.words.now a.from a.n a.at (l.done + k) (l.sum + ones (bit_and c.read-bits.result c.ones.result)) a.out.now c.put.new.out) whole t.1

pub returns : goal.returns
returns c =
    let a = c.args in
    let l = c.loop-done in
    copying_all a.words.now a.from a.n a.at l.done l.sum a.out.now l.out l.invariant (omega arith)

pub returns-2 : goal.returns-2
returns-2 c =
    let a = c.args in
    let l = c.loop-done in
    let t = turn a.words.now a.from a.n a.at l.done l.sum _ _ _ a.out.now l.out _ l.invariant c.loop-done-test.true c.chunk_len-some.ensures c.requires.0 c.read-bits.ensures c.ones.ensures c.put.ensures in
    copying_all a.words.now a.from a.n a.at (l.done + c.chunk_len-some.result) (l.sum + ones (bit_and c.read-bits.result c.ones.result)) a.out.now c.put.new.out t.1 (omega arith)
