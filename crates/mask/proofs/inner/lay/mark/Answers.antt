-- `mask::inner::lay::mark` meets its contract: a turn sets one entry's bit more.
-- By the laws of entries that are marked. Assumes nothing.
use Rattle.std.proofs.Common.{ℕ, ◌+◌, List, ◌∷◌, [], true, ap₂, ◌∙◌, add-one, arith}
use Rattle.rows.specs.Laid.{laid}
use Rattle.rows.proofs.MarkLaws.{marked_next, below_at}
use Rattle.mask.proofs.inner.lay.mark.Goals as goal

pub overflow_add-at : goal.overflow_add-at
overflow_add-at c =
    let below = below_at c.args.len c.args.rows.now c.loop-row.row-index c.requires.0 c.loop-row-test.true in
    record { fits = omega (arith, below, c.from.ensures, c.requires.1.1) }

pub set_bit-requires : goal.set_bit-requires
set_bit-requires c =
    let below = below_at c.args.len c.args.rows.now c.loop-row.row-index c.requires.0 c.loop-row-test.true in
    omega (arith, below, c.from.ensures, c.requires.1.0, c.loop-row.auto.out)

pub loop-row-preserved : goal.loop-row-preserved
loop-row-preserved c =
    let a = c.args in
    let i = c.loop-row.row-index in
    rw (add-one i)
    (c.set_bit.ensures ∙ ap₂ (λ (row : ℕ) (o : List ℕ). laid (a.at + row) (true ∷ []) o) c.from.ensures c.loop-row.invariant
    ∙ marked_next a.at i a.rows.now a.out.now c.loop-row-test.true)
