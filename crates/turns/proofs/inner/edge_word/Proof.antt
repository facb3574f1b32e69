-- `turns::inner::edge_word` meets its contract.
-- By the law of a word against itself moved up by one. Assumes nothing.
use Prim.Native.Nat.{ℕ, ◌*◌, ◌%◌, ◌^◌}
use mathlib.Core.Path.{ap, ◌∙◌}
use native.Mathlib.Omega.{arith}
use lib.Bits.{bit_and, bit_or, bit_xor}
use borrow.Author.Rules.{rules}
use Rattle.rows.proofs.TurnLaws.{edge_word}
use Rattle.turns.proofs.inner.edge_word.Statement.{statement}
use Rattle.turns.proofs.inner.edge_word.Tie as tie

ones-requires : tie.Need-ones-requires
ones-requires c κs = search rules

returns : tie.Need-returns
returns c =
    let a = c.before.args in
    let x : ℕ = a.chunk in
    ap (bit_and (bit_xor x (bit_or (x * 2 % 2 ^ 64) a.carry))) c.ones.ensures ∙ edge_word 64 a.n x a.carry (omega arith) (omega arith)

pub edge_word_spec : {M : Type 1} → statement M
edge_word_spec = tie.close (tie.spec ones-requires returns)
