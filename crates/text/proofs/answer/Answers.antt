-- `text::answer` meets its contract: where the text has room, it is copied out, and else nothing is.
-- By the laws of where it is written. Assumes nothing.
use mathlib.Core.Path.{◌≡◌, sym, ap, ◌∙◌}
use mathlib.Core.List.{[]}
use native.Mathlib.Omega.{arith}
use lib.ListN.{length}
use Rattle.rows.specs.Rows.{splice}
use Rattle.rules.specs.Answer.{Answer}
use Rattle.std.specs.Prelude.{Err}
use Rattle.lines.specs.declared.Written.{Written}
use Rattle.lines.specs.Text.{text_of, with_text}
use Rattle.lines.proofs.ToldLaws.{no_room, room}
use Rattle.text.proofs.answer.Goals as goal

pub returns-then-out-len : goal.returns-then-out-len
returns-then-out-len c =
    let a = c.args in
    let t = c.tell-told in
    let len : t.result.len ≡ length (text_of a.input.now) = ap (λ (w : Written). w.len) t.ensures.0 in
    let n = no_room a.input.now a.out.now (omega (arith, len, c.if-out-len.true)) in
    (ap (λ (x : Answer). with_text x []) (ap Err c.refusal.ensures) ∙ sym n.0, sym n.1)

pub returns : goal.returns
returns c =
    let a = c.args in
    let t = c.tell-told in
    let len : t.result.len ≡ length (text_of a.input.now) = ap (λ (w : Written). w.len) t.ensures.0 in
    let n = room a.input.now a.out.now (omega (arith, len, c.if-out-len.false)) in
    (t.ensures.0 ∙ sym n.0, c.put_bytes.ensures.1 ∙ ap (splice 0 a.out.now) t.ensures.1 ∙ sym n.1)
