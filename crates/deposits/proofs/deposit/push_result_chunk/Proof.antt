-- `deposits::deposit::push_result_chunk` meets its contract: what is laid is the deposit's low bits.
-- By the contracts of `put_rows` and of the deposit. Assumes nothing.
use mathlib.Core.Path.{ap, ◌∙◌}
use Prim.Native.Nat.{ℕ, ◌+◌}
use Rattle.rows.specs.Word.{bits_of}
use Rattle.rows.specs.Laid.{laid}
use borrow.Author.Rules.{rules}
use Rattle.deposits.proofs.deposit.push_result_chunk.Statement.{statement}
use Rattle.deposits.proofs.deposit.push_result_chunk.Tie as tie

deposit-bits-requires : tie.Need-deposit_bits-requires
deposit-bits-requires c κs = search rules

put-rows-requires : tie.Need-put_rows-requires
put-rows-requires c κs = search rules

same_length : tie.Need-shape_of-out
same_length c = search rules

returns : tie.Need-returns
returns c =
    let a = c.before.before.before.before.before.before.args in
    c.before.before.put_rows.ensures ∙ ap (λ (x : ℕ). laid (a.at + a.row.0) (bits_of a.n x) a.out.now) c.before.before.before.deposit_bits.ensures

pub push_result_chunk_spec : {M : Type 1} → statement M
push_result_chunk_spec =
    tie.close (tie.spec deposit-bits-requires put-rows-requires same_length returns)
