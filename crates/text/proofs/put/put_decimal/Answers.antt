-- `text::put::put_decimal` meets its contract: what `io::decimal` makes is the number in decimal, of at most 20 digits.
-- By the laws of the fewest digits. Assumes nothing.
use mathlib.Core.Path.{◌≡◌, ap, ◌∙◌}
use native.Mathlib.Omega.{arith}
use lib.ListN.{length, take}
use Rattle.rows.specs.Rows.{splice}
use Rattle.lines.specs.Text.{decimal}
use Rattle.text.proofs.PutLaws.{decimal_is, few_places}
use Rattle.text.proofs.put.put_decimal.Goals as goal

pub returns : goal.returns
returns c =
    let a = c.args in
    let d = c.decimal-k in
    let p = c.put_bytes in
    let e : take d.result d.new.out ≡ decimal a.n = d.ensures.digits ∙ decimal_is d.result a.n d.ensures.len in (
      omega (arith, p.ensures.0, ap length e),
      p.ensures.1 ∙ ap (splice a.at a.out.now) e,
      omega (arith, p.ensures.0, d.ensures.in_bounds.1, few_places a.n d.result c.ranges.n.fits d.ensures.len),
    )
