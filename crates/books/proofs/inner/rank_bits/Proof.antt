-- `books::inner::rank_bits` meets its contract: the place is the sum.
-- By the contract of `read`. Assumes nothing.
use Prim.Native.Nat.{ℕ, ◌+◌}
use native.Mathlib.Nat.{add-zero}
use mathlib.Core.Path.{ap, ◌∙◌}
use lib.ListN.{drop}
use Rattle.rows.specs.Word.{word_of}
use Rattle.rows.specs.Words.{fit, bits_of_all}
use borrow.Author.Rules.{rules}
use Rattle.books.proofs.inner.rank_bits.Statement.{statement}
use Rattle.books.proofs.inner.rank_bits.Tie as tie

add_at : tie.Need-overflow_add-at
add_at c = search rules

read-requires : tie.Need-read-requires
read-requires c κs = search rules

returns : tie.Need-returns
returns c =
    let a = c.before.before.before.args in
    c.read.ensures ∙ ap (λ (k : ℕ). word_of (fit 64 (drop k (bits_of_all 64 a.ranks.now)))) (add-zero (a.from + a.rank.0))

pub rank_bits_spec : {M : Type 1} → statement M
rank_bits_spec = tie.close (tie.spec add_at read-requires returns)
