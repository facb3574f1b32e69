-- `text::put::put_digits` meets its contract: a digit fits a byte, and stands after those that are laid.
-- By the law of one digit more. Assumes nothing.
use Rattle.std.proofs.Common.{refl, sym, ap, ◌∙◌, ℕ, ◌+◌, List, drop, arith, length-set}
use Rattle.std.proofs.Math.ListN.{set}
use Rattle.rows.specs.Rows.{splice}
use Rattle.rows.specs.Words.{bits_of_all, view}
use Rattle.rows.proofs.SpliceLaws.{splice_nil}
use Rattle.rows.proofs.WordsLaws.{view_length}
use Rattle.lines.specs.Text.{digits}
use Rattle.lines.proofs.SaidLaws.{digits_length}
use Rattle.text.proofs.PutLaws.{one_more, bit_small, digit_next}
use Rattle.text.proofs.put.put_digits.Goals as goal

pub loop-i-init : goal.loop-i-init
loop-i-init c = (refl, sym (splice_nil c.args.at c.args.out.now))

pub overflow_cast-out : goal.overflow_cast-out
overflow_cast-out c = omega (arith, c.chunk-bit.ensures, bit_small (drop (0 + c.loop-i.i) (bits_of_all 64 c.args.words.now)))

pub overflow_add-out : goal.overflow_add-out
overflow_add-out c = omega (arith, c.chunk-bit.ensures, bit_small (drop (0 + c.loop-i.i) (bits_of_all 64 c.args.words.now)))

pub loop-i-preserved : goal.loop-i-preserved
loop-i-preserved c =
    let a = c.args in
    let l = c.loop-i in
    let byte = 48 + c.chunk-bit.result in
    let seen = digits (view 0 l.i a.words.now) in
    let long = digits_length (view 0 l.i a.words.now) ∙ view_length 0 l.i a.words.now (omega (arith, c.requires.0, c.loop-i-test.true)) in (
      length-set l.out (a.at + l.i) byte ∙ l.invariant.0,
      ap (λ (o : List ℕ). set o (a.at + l.i) byte) l.invariant.1
          ∙ one_more a.at l.i byte a.out.now seen long
          ∙ ap (splice a.at a.out.now) (sym (digit_next l.i c.chunk-bit.result a.words.now (omega (arith, c.requires.0, c.loop-i-test.true)) c.chunk-bit.ensures)),
    )
