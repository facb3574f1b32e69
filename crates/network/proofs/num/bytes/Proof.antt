-- `network::num::bytes` meets its contract: a byte in each byte is the product. Assumes nothing.
use Rattle.std.proofs.Common.{sym, rules}
use Rattle.network.proofs.ProductLaws.{in_each_lem}
use Rattle.network.proofs.num.bytes.Statement.{statement}
use Rattle.network.proofs.num.bytes.Tie as tie

mul-result : tie.Need-overflow_mul-result
mul-result c = search rules

returns : tie.Need-returns
returns c = sym (in_each_lem c.args.b)

pub bytes_spec : {M : Type 1} → statement M
bytes_spec = tie.close (tie.spec mul-result returns)
