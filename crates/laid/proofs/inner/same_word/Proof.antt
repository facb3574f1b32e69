-- `laid::inner::same_word` meets its contract: the bits of 0 are zeros, and those of the largest word ones.
-- By the test on the bit, and the law of a word of one bit. Assumes nothing.
use Prim.Native.Nat.{◌-◌, ◌^◌}
use mathlib.Core.Path.{sym, ap, ◌∙◌}
use mathlib.Core.Bool.{true}
use lib.ListN.{replicate}
use Rattle.rows.proofs.FitLaws.{zero_word}
use Rattle.laid.proofs.LayLaws.{ones_bits}
use Rattle.laid.proofs.SameLaws.{low_same}
use Rattle.laid.proofs.inner.same_word.Statement.{statement}
use Rattle.laid.proofs.inner.same_word.Tie as tie

returns : tie.Need-returns-then-set
returns c n h = low_same n 64 (2 ^ 64 - 1) true h (ones_bits 64) ∙ ap (replicate n) (sym c.if-set.true)

returns-2 : tie.Need-returns
returns-2 c n h = zero_word n ∙ ap (replicate n) (sym c.if-set.false)

pub same_word_spec : {M : Type 1} → statement M
same_word_spec = tie.close (tie.spec returns returns-2)
