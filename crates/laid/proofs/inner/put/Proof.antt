-- `laid::inner::put` meets its contract: what is stored in one word, or in two, is the bits laid over the words.
-- By the two store laws; the second is for bits that pass the first word. Assumes nothing.
use native.Mathlib.Omega.{arith}
use lib.ListN.{length-set}
use borrow.Author.Rules.{rules}
use Rattle.laid.proofs.StoreLaws.{one_word, two_words}
use Rattle.laid.proofs.inner.put.Statement.{statement}
use Rattle.laid.proofs.inner.put.Tie as tie

ones-requires : tie.Need-ones-mask-requires
ones-requires c κs = search rules

mul-out : tie.Need-offset_bounds-out-i
mul-out c = search rules

slice-read-out : tie.Need-bounds-out-i
slice-read-out c = search rules

shl-out : tie.Need-overflow_shl-out
shl-out c = search rules

shl-out-2 : tie.Need-overflow_shl-out-2
shl-out-2 c = search rules

mul-out-2 : tie.Need-offset_bounds-out-i-2
mul-out-2 c = search rules

slice-write-out : tie.Need-bounds-out-i-2
slice-write-out c = search rules

add-if1 : tie.Need-overflow_add-shift
add-if1 c = search rules

sub-past : tie.Need-overflow_sub-past
sub-past c = search rules

add-out : tie.Need-overflow_add-out
add-out c = search rules

mul-out-3 : tie.Need-offset_bounds-out-i-then-shift-n-gt64
mul-out-3 c = search rules

slice-read-out-2 : tie.Need-bounds-out-i-then-shift-n-gt64
slice-read-out-2 c = simp length-set (omega arith)

shr-out : tie.Need-overflow_shr-out
shr-out c = search rules

shr-out-2 : tie.Need-overflow_shr-out-then-shift-n-gt64
shr-out-2 c = search rules

add-out-2 : tie.Need-overflow_add-out-then-shift-n-gt64
add-out-2 c = search rules

mul-out-4 : tie.Need-offset_bounds-out-i-then-shift-n-gt64-2
mul-out-4 c = search rules

slice-write-out-2 : tie.Need-bounds-out-i-then-shift-n-gt64-2
slice-write-out-2 c = simp length-set (omega arith)

same_length : tie.Need-shape_of-out-then-shift-n-gt64
same_length c = search rules

returns : tie.Need-returns-then-shift-n-gt64
returns c =
    let s = c.before.before.before.before.before in
    two_words s.args.out.now s.args.at s.args.n s.args.bits c.before.before.before.ones-mask.result c.before.before.before.ones-mask.ensures (omega arith) (omega arith) (omega arith)
    s.ranges.bits.fits (λ i. (c.before.before.before.before.slice_known-1.given i).fits)

same-length-2 : tie.Need-shape_of-out-else-shift-n-gt64
same-length-2 c = search rules

returns-2 : tie.Need-returns-else-shift-n-gt64
returns-2 c =
    let s = c.before.before.before.before in
    one_word s.args.out.now s.args.at s.args.n s.args.bits c.before.before.ones-mask.result c.before.before.ones-mask.ensures (omega arith) (omega arith) (omega arith)
    (λ i. (c.before.before.before.slice_known-1.given i).fits)

pub put_spec : {M : Type 1} → statement M
put_spec =
    tie.close
    (tie.spec
    ones-requires
    mul-out
    slice-read-out
    shl-out
    shl-out-2
    mul-out-2
    slice-write-out
    add-if1
    sub-past
    add-out
    mul-out-3
    slice-read-out-2
    shr-out
    shr-out-2
    add-out-2
    mul-out-4
    slice-write-out-2
    same_length
    returns
    same-length-2
    returns-2)
