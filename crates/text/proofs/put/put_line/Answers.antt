-- `text::put::put_line` meets its contract: the key, the number and the newline, one after the other, are the line.
-- By the law of parts one after the other. Assumes nothing.
use Prim.Native.Nat.{ℕ}
use mathlib.Core.Path.{ap, ◌∙◌}
use mathlib.Core.List.{List, [], ◌∷◌, ◌++◌}
use native.Mathlib.Omega.{arith}
use lib.ListN.{length-append}
use Rattle.rows.specs.Rows.{splice}
use Rattle.lines.specs.Text.{decimal}
use Rattle.text.proofs.PutLaws.{put_after}
use Rattle.text.proofs.put.put_line.Goals as goal

pub returns : goal.returns
returns c =
    let a = c.args in
    let key = a.key.now in
    let value = decimal a.n in
    let one = c.put_bytes-value in
    let two = c.put_decimal-end in
    let three = c.put_bytes in
    let inner = length-append key value in
    let whole = length-append (key ++ value) (10 ∷ []) in (
      omega (arith, one.ensures.0, two.ensures.0, three.ensures.0),
      three.ensures.1
          ∙ ap (λ (o : List ℕ). splice two.result o (10 ∷ []))
          (two.ensures.1 ∙ ap (λ (o : List ℕ). splice one.result o value) one.ensures.1 ∙ put_after a.at one.result a.out.now key value one.ensures.0)
          ∙ put_after a.at two.result a.out.now (key ++ value) (10 ∷ []) (omega (arith, one.ensures.0, two.ensures.0)),
      omega (arith, one.ensures.0, two.ensures.0, two.ensures.2, three.ensures.0),
    )
