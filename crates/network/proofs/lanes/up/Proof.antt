-- `network::lanes::up` meets its contract: what a shift brings in from the byte below, the mask takes off.
-- By the law of masked shifts, over the number of bytes. Assumes nothing.
use Rattle.std.proofs.Common.{ℕ, ◌*◌, ◌%◌, ◌^◌, ap, ◌∙◌, rules}
use lib.Bits.{bit_and}
use Rattle.network.proofs.NetworkLaws.{up_is}
use Rattle.network.proofs.ProductLaws.{in_each_lem}
use Rattle.network.proofs.lanes.up.Statement.{statement}
use Rattle.network.proofs.lanes.up.Tie as tie

shl-result : tie.Need-overflow_shl-result
shl-result c = search rules

cast-bytes : tie.Need-overflow_cast-k
cast-bytes c = search rules

shl-bytes : tie.Need-overflow_shl-k
shl-bytes c = search rules

bytes-requires : tie.Need-bytes-requires
bytes-requires c κs = search rules

returns : tie.Need-returns
returns c =
    let x : ℕ = c.before.args.x in
    let k : ℕ = c.before.args.k in
    ap (bit_and ((x * 2 ^ k) % 2 ^ 64)) (c.bytes.ensures ∙ in_each_lem _) ∙ up_is x k c.before.ranges.x.fits c.before.requires

pub up_spec : {M : Type 1} → statement M
up_spec = tie.close (tie.spec shl-result cast-bytes shl-bytes bytes-requires returns)
