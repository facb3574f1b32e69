-- `text::put::put_lines` meets its contract: the four lines one after the other.
-- By the law of parts one after the other. Assumes nothing.
use Prim.Native.Nat.{ℕ}
use mathlib.Core.Path.{ap, ◌∙◌}
use mathlib.Core.List.{List, ◌++◌}
use native.Mathlib.Omega.{arith}
use lib.ListN.{length-append}
use Rattle.rows.specs.Rows.{splice}
use Rattle.rows.specs.Words.{view}
use Rattle.rows.proofs.WordsLaws.{view_length}
use Rattle.lines.specs.Text.{digits, line, decimal, refusal_key, route_key, count_key, bits_key, lines}
use Rattle.text.proofs.PutLaws.{put_after, bits_line}
use Rattle.text.proofs.put.put_lines.Goals as goal

pub returns : goal.returns
unfolding lines
returns c =
    let a = c.args in
    let out = a.out.now in
    let first = line refusal_key (decimal a.refusal) in
    let second = line route_key (decimal a.route) in
    let third = line count_key (decimal a.count) in
    let last = line bits_key (digits (view 0 a.n a.words.now)) in
    let one = c.put_line-first in
    let two = c.put_line-second in
    let three = c.put_line-third in
    let four = c.put_bits in
    let to-second = length-append first second in
    let to-third = length-append (first ++ second) third in
    let to_last = length-append (first ++ second ++ third) last in
    let after_two = two.ensures.1 ∙ ap (λ (o : List ℕ). splice one.result o second) one.ensures.1 ∙ put_after 0 one.result out first second one.ensures.0 in
    let after-three = three.ensures.1 ∙ ap (λ (o : List ℕ). splice two.result o third) after_two ∙ put_after 0 two.result out (first ++ second) third (omega (arith, one.ensures.0, two.ensures.0)) in (
      omega (arith, one.ensures.0, two.ensures.0, three.ensures.0, four.ensures.0),
      four.ensures.1 ∙ ap (λ (o : List ℕ). splice three.result o last) after-three ∙ put_after 0 three.result out (first ++ second ++ third) last (omega (arith, one.ensures.0, two.ensures.0, three.ensures.0)),
      omega (arith, one.ensures.2, two.ensures.2, three.ensures.2, four.ensures.0, bits_line (view 0 a.n a.words.now), view_length 0 a.n a.words.now (omega (arith, c.requires.0))),
    )
