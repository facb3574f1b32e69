-- `text::tell::tell` meets its contract: 13 where no masks are found, and else what the masks tell.
-- By what was found. Assumes nothing.
use mathlib.Core.Path.{◌≡◌, sym, ap, ap₂, ◌∙◌}
use mathlib.Core.List.{[]}
use native.Mathlib.Omega.{arith}
use lib.ListN.{length, take}
use Rattle.rows.specs.Rows.{splice}
use Rattle.rules.specs.Answer.{Answer}
use Rattle.std.specs.Prelude.{Err}
use Rattle.lines.specs.declared.Written.{Written}
use Rattle.lines.specs.Text.{lines_of, answer_for, text_of, with_text}
use Rattle.lines.proofs.ToldLaws.{answer_ill, text_ill, found_ill, text_front}
use Rattle.text.proofs.tell.tell.Goals as goal

pub tell_masks-requires : goal.tell_masks-requires
tell_masks-requires c = (sym c.find.ensures ∙ c.in-Some.is, omega (arith, c.requires))

pub returns-in-None : goal.returns-in-None
returns-in-None c =
    let input = c.args.input.now in
    let out = c.args.out.now in
    let p = c.put_answer in
    let ill = found_ill input (sym c.find.ensures ∙ c.in-None.is) in
    let thirteen = ap Err c.refusal.ensures in
    let text = ap (λ (a : Answer). lines_of a []) thirteen ∙ sym (text_ill input ill) in
    let whole : p.result ≡ with_text (answer_for input) (text_of input) = p.ensures.0 ∙ ap₂ with_text (thirteen ∙ sym (answer_ill input ill)) text in
    let n : p.result.len ≡ length (text_of input) = ap (λ (w : Written). w.len) whole in (
      whole,
      ap (take p.result.len) (p.ensures.1 ∙ ap (splice 0 out) text) ∙ text_front (text_of input) out p.result.len n (omega (arith, p.ensures.2, c.requires)),
      omega (arith, p.ensures.2),
    )

pub returns-in-Some : goal.returns-in-Some
returns-in-Some c =
    let input = c.args.input.now in
    let out = c.args.out.now in
    let t = c.tell_masks in
    let n : t.result.len ≡ length (text_of input) = ap (λ (w : Written). w.len) t.ensures.0 in
    (t.ensures.0, ap (take t.result.len) t.ensures.1 ∙ text_front (text_of input) out t.result.len n (omega (arith, t.ensures.2, c.requires)), t.ensures.2)
