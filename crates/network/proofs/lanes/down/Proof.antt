-- `network::lanes::down` meets its contract: what a shift brings in from the byte above, the mask takes off.
-- By the law of masked shifts, over the number of bytes. Assumes nothing.
use Rattle.std.proofs.Common.{ℕ, ◌/◌, ◌^◌, ap, ◌∙◌, rules}
use lib.Bits.{bit_and}
use Rattle.network.proofs.NetworkLaws.{down_is}
use Rattle.network.proofs.ProductLaws.{in_each_lem}
use Rattle.network.proofs.lanes.down.Statement.{statement}
use Rattle.network.proofs.lanes.down.Tie as tie

shr-result : tie.Need-overflow_shr-result
shr-result c = search rules

cast-bytes : tie.Need-overflow_cast-k
cast-bytes c = search rules

shr-bytes : tie.Need-overflow_shr-k
shr-bytes c = search rules

bytes-requires : tie.Need-bytes-requires
bytes-requires c κs = search rules

returns : tie.Need-returns
returns c =
    let x : ℕ = c.before.args.x in
    let k : ℕ = c.before.args.k in
    ap (bit_and (x / 2 ^ k)) (c.bytes.ensures ∙ in_each_lem _) ∙ down_is x k c.before.ranges.x.fits c.before.requires

pub down_spec : {M : Type 1} → statement M
down_spec = tie.close (tie.spec shr-result cast-bytes shr-bytes bytes-requires returns)
