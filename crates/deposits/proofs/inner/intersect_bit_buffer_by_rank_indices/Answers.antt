-- `deposits::inner::intersect_bit_buffer_by_rank_indices` meets its contract: from rank 0 on the list is walked from its first entry on.
-- By what ascends being a climb. Assumes nothing.
use Rattle.std.proofs.Common.{arith}
use Rattle.books.proofs.GatherLaws.{ascending_climbs}
use Rattle.deposits.proofs.inner.intersect_bit_buffer_by_rank_indices.Goals as goal

pub deposit_rows-requires : goal.deposit_rows-requires
deposit_rows-requires c =
    (c.requires.0, c.requires.1, record { within = omega arith; before = tt; after = ascending_climbs 0 _ c.args.ranks.now c.requires.2 })
