-- `text::tell::pack` meets its contract.
-- By the invariant: the digits before `i` are laid over the words whose last was cleared. Assumes nothing.
use Rattle.std.proofs.Common.{◌≡◌, refl, sym, ap, ap₂, ◌∙◌, ℕ, ◌+◌, ◌-◌, ◌^◌, List, length, take, drop, get_or, arith, take_all}
use Rattle.rows.specs.Word.{bits_of}
use Rattle.rows.specs.Laid.{laid}
use Rattle.rows.proofs.LaidLaws.{below_all, laid_nil, laid_length}
use Rattle.rows.proofs.WrittenLaws.{laid_written}
use Rattle.lines.specs.Text.{rows_in}
use Rattle.text.proofs.PackLaws.{digit_within, digit_at_least, pack_next}
use Rattle.text.proofs.tell.pack.Goals as goal

pub loop-i-init : goal.loop-i-init
loop-i-init c =
    let start : List ℕ = c.clear_last.new.out in
    (refl, sym (laid_nil 64 0 start (below_all (2 ^ 64) start (λ i. (c.type_inv.words i).fits))))

pub overflow_add-digit : goal.overflow_add-digit
overflow_add-digit c = omega (arith, digit_within c.args.input.now c.args.at c.loop-i.i (omega (arith, c.requires.1, c.loop-i-test.true)))

pub bounds-input-at : goal.bounds-input-at
bounds-input-at c = digit_within c.args.input.now c.args.at c.loop-i.i (omega (arith, c.requires.1, c.loop-i-test.true))

pub overflow_sub-digit : goal.overflow_sub-digit
overflow_sub-digit c = digit_at_least c.args.input.now c.args.at c.loop-i.i (omega (arith, c.requires.1, c.loop-i-test.true))

pub loop-i-preserved : goal.loop-i-preserved
loop-i-preserved c =
    let a = c.args in
    let l = c.loop-i in
    let rows = rows_in (drop a.at a.input.now) in
    let start : List ℕ = c.clear_last.new.out in
    let words : c.put.new.out ≡ laid 0 (take (l.i + 1) rows) start =
    c.put.ensures
    ∙ ap (λ (d : ℕ). laid l.i (bits_of 1 d) l.words) c.from.ensures
    ∙ ap (laid l.i (bits_of 1 (get_or a.input.now (a.at + l.i) 0 - 48))) l.invariant.1
    ∙ pack_next a.input.now a.at l.i (omega (arith, c.requires.1, c.loop-i-test.true)) start in
    (ap length words ∙ laid_length 64 0 (take (l.i + 1) rows) start, words)

pub returns : goal.returns
returns c =
    let a = c.args in
    let l = c.loop-i in
    let rows = rows_in (drop a.at a.input.now) in
    let long : length rows ≡ a.n = sym c.requires.1 in
    l.invariant.1 ∙ ap₂ (laid 0) (take_all l.i rows (omega (arith, long, l.auto.i-end, c.loop-i-test.false))) c.clear_last.ensures
    ∙ laid_written a.n rows a.words.now (below_all (2 ^ 64) a.words.now (λ i. (c.slice_known-1.given i).fits)) long c.requires.2
