-- `places::inner::place_in` meets its contract: the table's rule, at the byte and the rank.
-- Assumes nothing.
use Rattle.std.proofs.Common.{ℕ, ◌*◌, ◌/◌, ◌%◌, ◌^◌, ap, ◌∙◌}
use Rattle.places.proofs.TableLaw.{placed}
use Rattle.places.proofs.inner.place_in.Goals as goal

pub returns : goal.returns
returns c =
    let a = c.args in
    ap (λ (n : ℕ). n / 2 ^ (8 * a.rank) % 256) c.places_of.ensures ∙ placed a.byte a.rank c.requires.0 c.requires.1
