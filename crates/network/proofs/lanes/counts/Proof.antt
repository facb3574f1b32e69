-- `network::lanes::counts` meets its contract: pairs, then nibbles, then bytes, each counted all at once.
-- By the laws of neighbouring lanes, at its masks. Assumes nothing.
use Rattle.std.proofs.Common.{◌/◌, le_trans, div-le_self, arith, rules}
use lib.Bits.{and_le_l}
use Rattle.network.proofs.CountLaws.{nib_lt, counts_word}
use Rattle.network.proofs.lanes.counts.Statement.{statement}
use Rattle.network.proofs.lanes.counts.Tie as tie

bytes-requires : tie.Need-bytes-requires
bytes-requires c κs = search rules

sub-pairs : tie.Need-overflow_sub-pairs
sub-pairs c = le_trans (and_le_l (c.before.args.mask / 2) c.bytes.result) (div-le_self c.before.args.mask 2)

bytes-requires-2 : tie.Need-bytes-requires-2
bytes-requires-2 c κs = search rules

bytes-requires-3 : tie.Need-bytes-requires-3
bytes-requires-3 c κs = search rules

add-nibbles : tie.Need-overflow_add-nibbles
add-nibbles c =
    omega (arith, nib_lt c.before.before.before.args.mask c.before.before.bytes.result c.before.bytes-2.result c.bytes-3.result c.before.bytes-2.ensures c.bytes-3.ensures)

add-result : tie.Need-overflow_add-result
add-result c =
    omega (arith, nib_lt c.before.before.before.args.mask c.before.before.bytes.result c.before.bytes-2.result c.bytes-3.result c.before.bytes-2.ensures c.bytes-3.ensures)

bytes-requires-4 : tie.Need-bytes-requires-4
bytes-requires-4 c κs = search rules

returns : tie.Need-returns
returns c =
    let start = c.before.before.before.before in
    counts_word start.args.mask c.before.before.before.bytes.result c.before.before.bytes-2.result c.before.bytes-3.result c.bytes-4.result start.ranges.mask.fits
    c.before.before.before.bytes.ensures c.before.before.bytes-2.ensures c.before.bytes-3.ensures c.bytes-4.ensures

pub counts_spec : {M : Type 1} → statement M
counts_spec =
    tie.close
    (tie.spec
    bytes-requires
    sub-pairs
    bytes-requires-2
    bytes-requires-3
    add-nibbles
    add-result
    bytes-requires-4
    returns)
