-- `text::put::put_bits` meets its contract: the key, the digits and the newline, one after the other, are the line.
-- By the law of parts one after the other. Assumes nothing.
use Prim.Native.Nat.{ℕ}
use mathlib.Core.Path.{◌≡◌, ap, ◌∙◌}
use mathlib.Core.List.{List, [], ◌∷◌, ◌++◌}
use native.Mathlib.Omega.{arith}
use lib.ListN.{length, length-append}
use Rattle.rows.specs.Rows.{splice}
use Rattle.rows.specs.Words.{view}
use Rattle.rows.proofs.WordsLaws.{view_length}
use Rattle.lines.specs.Text.{digits, bits_key}
use Rattle.lines.proofs.SaidLaws.{digits_length}
use Rattle.text.proofs.PutLaws.{put_after}
use Rattle.text.proofs.put.put_bits.Goals as goal

pub returns : goal.returns
returns c =
    let a = c.args in
    let value = digits (view 0 a.n a.words.now) in
    let one = c.put_bytes-value in
    let two = c.put_digits-end in
    let three = c.put_bytes in
    let long : length value ≡ a.n = digits_length (view 0 a.n a.words.now) ∙ view_length 0 a.n a.words.now (omega (arith, c.requires.0)) in
    let inner = length-append bits_key value in
    let whole = length-append (bits_key ++ value) (10 ∷ []) in (
      omega (arith, one.ensures.0, two.ensures.0, three.ensures.0),
      three.ensures.1
          ∙ ap (λ (o : List ℕ). splice two.result o (10 ∷ []))
          (two.ensures.1 ∙ ap (λ (o : List ℕ). splice one.result o value) one.ensures.1 ∙ put_after a.at one.result a.out.now bits_key value one.ensures.0)
          ∙ put_after a.at two.result a.out.now (bits_key ++ value) (10 ∷ []) (omega (arith, one.ensures.0, two.ensures.0)),
    )
