-- `extracts::inner::recover_words`: the ranks of the words before number i are laid, and `rank` is how many they are.
use Rattle.std.proofs.Common.{◌*◌}
use Rattle.rows.specs.Words.{view}
use Rattle.extracts.proofs.ExtractLaws.{Extracting}
use Rattle.extracts.proofs.inner.recover_words.Given as goal

abbrev pub invariant-loop-i : goal.invariant-loop-i
invariant-loop-i l = Extracting (view l.start l.len l.words) (view l.from l.len l.kept) l.at (l.i * 64) l.rank.0 l.fn.out l.out
