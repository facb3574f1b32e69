-- `text::tell::tell_words` meets its contract: what composition answers, and its lines.
-- By the laws of what words tell. Assumes nothing.
use Prim.Native.Nat.{ℕ}
use mathlib.Core.Path.{ap, ap₂, ◌∙◌}
use mathlib.Core.List.{List, [], ◌∷◌}
use native.Mathlib.Omega.{arith}
use Rattle.rows.specs.Rows.{count, splice}
use Rattle.rows.specs.Words.{view}
use Rattle.rules.specs.declared.Form.{Form}
use Rattle.rules.specs.Route.{published}
use Rattle.rules.specs.Compose.{composed, composed_out}
use Rattle.rules.specs.Operand.{lent}
use Rattle.lines.specs.Text.{with_text}
use Rattle.lines.proofs.ToldLaws.{rows_ignored, rows_ignored_out, words_answered, words_told}
use Rattle.text.proofs.tell.tell_words.Goals as goal

pub returns : goal.returns
returns c =
    let a = c.args in
    let i = c.intersect_by_rank-a in
    let p = c.put_answer in
    let sws = a.swords.now in
    let rws = a.rwords.now in
    let es : List ℕ = 0 ∷ [] in
    let out = a.words.now in
    let one = c.operand.ensures in
    let two = c.operand-2.ensures in
    let answer = i.ensures.0 ∙ ap₂ (λ (f g : Form). composed published (lent f sws es) (lent g rws es) out) one two ∙ rows_ignored a.s (count (view 0 a.s sws)) a.r (count (view 0 a.r rws)) sws rws es es out in
    let left = i.ensures.1 ∙ ap₂ (λ (f g : Form). composed_out (lent f sws es) (lent g rws es) out) one two ∙ rows_ignored_out a.s (count (view 0 a.s sws)) a.r (count (view 0 a.r rws)) sws rws es es out in
    let e = words_told sws a.s rws a.r out i.result i.new.out answer left in (
      p.ensures.0 ∙ ap₂ with_text (words_answered sws a.s rws a.r out i.result answer) e,
      p.ensures.1 ∙ ap (splice 0 a.out.now) e,
      omega (arith, p.ensures.2, c.requires.0),
    )
