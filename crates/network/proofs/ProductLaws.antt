-- A byte in each byte of a word is a product.
-- By what the definition computes.
use Rattle.std.proofs.Common.{◌≡◌, ℕ, ◌*◌, arith}
use Rattle.network.specs.Lanes.{in_each}

pub in_each_lem : (b : ℕ) → in_each 8 b ≡ b * 0x0101_0101_0101_0101
unfolding in_each
in_each_lem b = omega arith
