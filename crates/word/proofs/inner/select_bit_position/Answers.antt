-- `word::inner::select_bit_position` meets its contract: past the last byte nothing is left, and the place is the width.
-- In the byte that holds the rank the table has the place; a byte before it is skipped by its count.
use Rattle.std.proofs.Common.{◌≡◌, ℕ, suc, ◌+◌, ◌-◌, ◌/◌, ◌%◌, ◌<◌, ◌≤◌, sym, refl, ap, ◌∙◌, subst, lt_of_le_of_lt, arith}
use lib.Bits.{bit_and, and_mask, and_le_r}
use lib.Count.{ones, ones-le}
use Rattle.rows.specs.Word.{bits_of}
use Rattle.rows.specs.Lists.{select}
use Rattle.network.specs.Lanes.{each}
use Rattle.network.proofs.GatherLaws.{count_low, count_high}
use Rattle.word.proofs.SelectWord.{skip_bits, in_low_bits, in_bits_le}
use Rattle.word.proofs.inner.select_bit_position.Goals as goal

-- the bytes from a bit on
abbrev bytes_from : ℕ → ℕ
bytes_from offset = (64 - offset) / 8

-- what a byte that is left has: its count is the first of the counts
record Byte (offset rest counts : ℕ) : Type 0 where
  room : offset + 8 ≤ 64
  few : ones (rest % 256) ≤ 8
  count : bit_and counts 255 ≡ ones (rest % 256)
  later : counts / 256 ≡ each ones (bytes_from (offset + 8)) (rest / 256)

byte_left : (offset rest counts : ℕ) → offset < 64 → offset % 8 ≡ 0 → counts ≡ each ones (bytes_from offset) rest → Byte offset rest counts
byte_left offset rest counts more whole are =
    let n : ℕ = bytes_from (offset + 8) in
    let e : bytes_from offset ≡ suc n = omega arith in
    let all : counts ≡ each ones (suc n) rest = are ∙ ap (λ (k : ℕ). each ones k rest) e in
    record {
      room = omega arith;
      few = ones-le 8 (rest % 256) (omega arith);
      count = and_mask counts 8 ∙ ap (λ (k : ℕ). k % 256) all ∙ count_low n rest;
      later = ap (λ (k : ℕ). k / 256) all ∙ count_high n rest;
    }

-- past the last byte no bit is left
select_empty : (n r : ℕ) → select (bits_of 0 n) r ≡ 0
unfolding bits_of
select_empty n r = refl

pub place_in-requires : goal.place_in-requires
place_in-requires c =
    let at = c.loop-bit_offset in
    let byte = byte_left at.bit_offset at.rest at.counts c.loop-bit_offset-test.true at.invariant.1 at.invariant.2 in
    (lt_of_le_of_lt (and_le_r at.rest 255) (omega arith), omega (arith, byte.few, byte.count, c.if-left-count.true))

pub overflow_add-result : goal.overflow_add-result
overflow_add-result c =
    let most : c.place_in.result ≤ 8 = subst (λ (x : ℕ). x ≤ 8) (sym c.place_in.ensures) (in_bits_le 8 _ _) in
    omega arith

pub loop-bit_offset-preserved : goal.loop-bit_offset-preserved
loop-bit_offset-preserved c =
    let at = c.loop-bit_offset in
    let n : ℕ = at.rest in
    let byte = byte_left at.bit_offset n at.counts c.loop-bit_offset-test.true at.invariant.1 at.invariant.2 in
    let j : ℕ = 64 - (at.bit_offset + 8) in
    let v : 64 - at.bit_offset ≡ 8 + j = omega (arith, byte.room) in
    let skip : select (bits_of (64 - at.bit_offset) n) at.left ≡ 8 + select (bits_of j (n / 256)) (at.left - bit_and at.counts 255) =
    ap (λ (k : ℕ). select (bits_of k n) at.left) v ∙ skip_bits 8 j n at.left (omega (arith, byte.count, c.if-left-count.false))
    ∙ ap (λ (k : ℕ). 8 + select (bits_of j (n / 256)) (at.left - k)) (sym byte.count) in
    (byte.room, omega (arith, at.invariant.1), byte.later, omega (arith, at.invariant.3))

pub returns-then-left-count : goal.returns-then-left-count
returns-then-left-count c =
    let at = c.loop-bit_offset in
    let n : ℕ = at.rest in
    let byte = byte_left at.bit_offset n at.counts c.loop-bit_offset-test.true at.invariant.1 at.invariant.2 in
    let j : ℕ = 64 - (at.bit_offset + 8) in
    let v : 64 - at.bit_offset ≡ 8 + j = omega (arith, byte.room) in
    let held : at.left < ones (n % 256) = omega (arith, byte.count, c.if-left-count.true) in
    ap (λ (k : ℕ). at.bit_offset + k)
    (c.place_in.ensures ∙ ap (λ (k : ℕ). select (bits_of 8 k) at.left) (and_mask n 8) ∙ sym (in_low_bits 8 j n at.left held)
    ∙ ap (λ (k : ℕ). select (bits_of k n) at.left) (sym v))
    ∙ at.invariant.3

pub returns : goal.returns
returns c =
    let at = c.loop-bit_offset in
    let e : 64 - at.bit_offset ≡ 0 = omega arith in
    let z : select (bits_of (64 - at.bit_offset) at.rest) at.left ≡ 0 = ap (λ (k : ℕ). select (bits_of k at.rest) at.left) e ∙ select_empty at.rest at.left in
    omega (arith, at.invariant.3)
