-- `laid::inner::set_bit` meets its contract: one bit of the word 1 is laid.
-- By the contract of `put`. Assumes nothing.
use mathlib.Core.Path.{◌≡◌, refl, ap, ◌∙◌}
use mathlib.Core.Bool.{Bool, true}
use mathlib.Core.List.{List, [], ◌∷◌}
use borrow.Author.Rules.{rules}
use Rattle.rows.specs.Word.{bits_of}
use Rattle.rows.specs.Laid.{laid}
use Rattle.laid.proofs.inner.set_bit.Statement.{statement}
use Rattle.laid.proofs.inner.set_bit.Tie as tie

one_bit : bits_of 1 1 ≡ true ∷ []
unfolding bits_of
one_bit = refl

put-requires : tie.Need-put-requires
put-requires c κs = search rules

same_length : tie.Need-shape_of-out
same_length c = search rules

returns : tie.Need-returns
returns c =
    let a = c.before.before.before.before.before.args in
    c.before.before.put.ensures ∙ ap (λ (l : List Bool). laid a.at l a.out.now) one_bit

pub set_bit_spec : {M : Type 1} → statement M
set_bit_spec = tie.close (tie.spec put-requires same_length returns)
