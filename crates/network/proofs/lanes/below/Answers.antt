-- `network::lanes::below` meets its contract.
-- The product sums the counts of the bytes below each byte.
use Rattle.std.proofs.Common.{ℕ, ◌*◌, ◌%◌, ◌^◌, ◌∙◌, ap₂}
use Rattle.network.proofs.ProductLaws.{in_each_lem}
use Rattle.network.proofs.Bytewise.{below_is}
use Rattle.network.proofs.lanes.below.Goals as goal

pub returns : goal.returns
returns c =
    ap₂ (λ (m n : ℕ). ((m * n) % 2 ^ 64 * 256) % 2 ^ 64) c.counts.ensures (c.bytes.ensures ∙ in_each_lem 1) ∙ below_is c.args.mask
