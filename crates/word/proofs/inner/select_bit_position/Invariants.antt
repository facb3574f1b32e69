-- `word::inner::select_bit_position` meets its contract.
-- The place in what is left of the word, after the bytes passed, is the place that is asked, and the counts that are left are those of its bytes.
use Rattle.std.proofs.Common.{◌≡◌, ◌+◌, ◌-◌, ◌/◌, ◌%◌, ◌≤◌}
use lib.Count.{ones}
use Rattle.rows.specs.Word.{bits_of}
use Rattle.rows.specs.Lists.{select}
use Rattle.network.specs.Lanes.{each}
use Rattle.word.proofs.inner.select_bit_position.Given as goal

abbrev pub invariant-loop-bit_offset : goal.invariant-loop-bit_offset
invariant-loop-bit_offset l =
    (l.bit_offset ≤ 64) × (l.bit_offset % 8 ≡ 0) × (l.counts ≡ each ones ((64 - l.bit_offset) / 8) l.rest)
    × (l.bit_offset + select (bits_of (64 - l.bit_offset) l.rest) l.left ≡ select (bits_of 64 l.word) l.rank)
