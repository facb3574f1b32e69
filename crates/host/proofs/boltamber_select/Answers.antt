-- `host::boltamber_select` meets its contract: no word has more than 64 set bits, and past them select gives the width.
-- Assumes nothing.
use Rattle.std.proofs.Common.{ℕ, sym, ◌∙◌, arith}
use Rattle.rows.specs.Word.{bits_of}
use Rattle.rows.proofs.WordLaws.{bits_of_length}
use Rattle.rows.proofs.RowLaws.{count_le_length}
use Rattle.rows.proofs.SelectLaws.{select_none}
use Rattle.host.proofs.boltamber_select.Goals as goal

pub returns-then-rank-gt63 : goal.returns-then-rank-gt63
returns-then-rank-gt63 c =
    let n : ℕ = c.args.word in
    sym (select_none (bits_of 64 n) c.args.rank (omega (arith, count_le_length (bits_of 64 n), bits_of_length 64 n)) ∙ bits_of_length 64 n)
