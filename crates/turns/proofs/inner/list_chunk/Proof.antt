-- `turns::inner::list_chunk` meets its contract.
-- The invariant: the rows that are left, over the entries from p on, are the whole over those from k on. Assumes nothing.
use Prim.Native.Nat.{ℕ, ◌+◌, ◌-◌, ◌<◌, ◌^◌}
use mathlib.Core.Path.{◌≡◌, refl, sym, ap, ◌∙◌}
use mathlib.Core.List.{[]}
use native.Mathlib.Numerals.{add-one}
use native.Mathlib.Omega.{arith}
use lib.ListN.{length, length-set}
use lib.Bits.{and_le_l}
use lib.Count.{trailing_le}
use Rattle.rows.specs.Rows.{count, splice}
use Rattle.rows.specs.Word.{bits_of}
use Rattle.rows.specs.Lists.{set_rows}
use Rattle.rows.proofs.SpliceLaws.{splice_nil}
use Rattle.rows.proofs.ListLaws.{rows_count}
use Rattle.rows.proofs.ClearLaws.{count_low}
use Rattle.rows.proofs.PartLaws.{rows_zero}
use Rattle.turns.proofs.WrittenLaws.{bit_turn}
use borrow.Author.Rules.{rules}
use Rattle.turns.proofs.inner.list_chunk.Statement.{statement}
use Rattle.turns.proofs.inner.list_chunk.Tie as tie

abbrev invariant-loop : tie.invariant-loop-rest
invariant-loop chunk base k out₀ rest₀ p₀ out rest p =
    (rest < 2 ^ 64) × (length out ≡ length out₀) × (p + count (bits_of 64 rest) ≡ k + count (bits_of 64 chunk))
    × (splice p out (set_rows base (bits_of 64 rest)) ≡ splice k out₀ (set_rows base (bits_of 64 chunk)))

abbrev decreases-loop : tie.decreases-loop-rest
decreases-loop chunk base k out₀ rest₀ p₀ out rest p = count (bits_of 64 rest)

loop-holds : tie.Need-loop-rest-init invariant-loop decreases-loop
loop-holds c = (c.ranges.chunk.fits, refl, refl, refl)

add-out : tie.Need-overflow_add-out invariant-loop decreases-loop
add-out c = omega (arith, trailing_le 64 c.before.loop-rest.rest)

mul-out : tie.Need-offset_bounds-out-p invariant-loop decreases-loop
mul-out c = omega (arith, count_low 64 c.before.loop-rest.rest (omega arith) c.before.loop-rest.invariant.0)

slice-write-out : tie.Need-bounds-out-p invariant-loop decreases-loop
slice-write-out c = omega (arith, count_low 64 c.before.loop-rest.rest (omega arith) c.before.loop-rest.invariant.0)

sub-rest : tie.Need-overflow_sub-rest invariant-loop decreases-loop
sub-rest c = search rules

add-p : tie.Need-overflow_add-p invariant-loop decreases-loop
add-p c = omega (arith, count_low 64 c.before.loop-rest.rest (omega arith) c.before.loop-rest.invariant.0)

loop-less : tie.Need-loop-rest-smaller invariant-loop decreases-loop
loop-less c = omega (arith, count_low 64 c.before.loop-rest.rest (omega arith) c.before.loop-rest.invariant.0)

loop-again : tie.Need-loop-rest-preserved invariant-loop decreases-loop
loop-again c =
    let a = c.before.before.args in
    let l = c.before.loop-rest in
    let pos : 0 < l.rest = omega arith in
    let less = count_low 64 l.rest pos l.invariant.0 in (
      omega (arith, and_le_l l.rest (l.rest - 1)),
      length-set l.out l.p _ ∙ l.invariant.1,
      omega arith,
      rw (add-one l.p) (bit_turn 64 a.base l.rest l.p l.out pos l.invariant.0 (omega arith) ∙ l.invariant.3),
    )

same_length : tie.Need-shape_of-out invariant-loop decreases-loop
same_length c = search rules

returns : tie.Need-returns invariant-loop decreases-loop
returns c =
    let a = c.before.before.args in
    let l = c.before.loop-rest in
    let z : set_rows a.base (bits_of 64 l.rest) ≡ [] = ap (λ (x : ℕ). set_rows a.base (bits_of 64 x)) c.loop-rest-test.false ∙ rows_zero a.base 64 in
    let n : count (bits_of 64 l.rest) ≡ 0 = sym (rows_count a.base (bits_of 64 l.rest)) ∙ ap length z in
    (omega arith, sym (splice_nil l.p l.out) ∙ ap (splice l.p l.out) (sym z) ∙ l.invariant.3)

pub list_chunk_spec : {M : Type 1} → statement M
list_chunk_spec =
    tie.close
    (tie.spec
    invariant-loop
    decreases-loop
    loop-holds
    add-out
    mul-out
    slice-write-out
    sub-rest
    add-p
    loop-less
    loop-again
    same_length
    returns)
