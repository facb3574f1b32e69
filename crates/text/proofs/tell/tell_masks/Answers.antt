-- `text::tell::tell_masks` meets its contract: the digits packed, the words that have rows lent, and what they tell.
-- By what was found, and by the law of packed digits. Assumes nothing.
use Prim.Native.Nat.{ℕ, ◌+◌}
use mathlib.Core.Path.{◌≡◌, sym, ap, ap₂, ◌∙◌}
use mathlib.Core.List.{List}
use native.Mathlib.Omega.{arith}
use lib.ListN.{length, drop, replicate}
use lib.Seq.{length-take-le}
use Rattle.rows.specs.Rows.{splice}
use Rattle.rows.specs.Laid.{words_for}
use Rattle.lines.specs.Text.{rows_in, self_in, rank_in, with_text}
use Rattle.lines.proofs.SaidLaws.{said_length}
use Rattle.lines.proofs.ToldLaws.{found_masks, packed_answered}
use Rattle.text.proofs.tell.tell_masks.Goals as goal

pub pack-requires : goal.pack-requires
pack-requires c =
    let input = c.args.input.now in
    let f = found_masks input c.args.s c.args.r c.requires.0 in
    let long = said_length input (self_in input) (rank_in input) f.well.said in
    (omega (arith, long), f.self_long, omega (arith, f.self_long, f.rank_long, f.well.self_short, f.well.rank_short))

pub overflow_add-s : goal.overflow_add-s
overflow_add-s c =
    let f = found_masks c.args.input.now c.args.s c.args.r c.requires.0 in
    omega (arith, f.self_long, f.well.self_short)

pub pack-requires-2 : goal.pack-requires-2
pack-requires-2 c =
    let input = c.args.input.now in
    let f = found_masks input c.args.s c.args.r c.requires.0 in
    let long = said_length input (self_in input) (rank_in input) f.well.said in (
      omega (arith, long, f.self_long, f.rank_long, f.well.self_short, f.well.rank_short),
      f.rank_long ∙ ap (λ (n : ℕ). length (rows_in (drop (11 + n) input))) (sym f.self_long),
      omega (arith, f.self_long, f.rank_long, f.well.self_short, f.well.rank_short),
    )

-- as many words as there are rows to hold are no more than the words that were packed
pub slice_bounds-swords-end : goal.slice_bounds-swords-end
slice_bounds-swords-end c =
    let f = found_masks c.args.input.now c.args.s c.args.r c.requires.0 in
    omega (arith, c.words_for-sk.ensures, c.pack.auto.words, f.self_long, f.well.self_short)

pub slice_bounds-tell_words-end : goal.slice_bounds-tell_words-end
slice_bounds-tell_words-end c =
    let f = found_masks c.args.input.now c.args.s c.args.r c.requires.0 in
    sym (length-take-le c.words_for-sk.result c.pack.new.words (omega (arith, c.words_for-sk.ensures, c.pack.auto.words, f.self_long, f.well.self_short)))

pub slice_bounds-rwords-end : goal.slice_bounds-rwords-end
slice_bounds-rwords-end c =
    let f = found_masks c.args.input.now c.args.s c.args.r c.requires.0 in
    omega (arith, c.words_for-rk.ensures, c.pack-2.auto.words, f.rank_long, f.well.rank_short)

pub slice_bounds-tell_words-end-2 : goal.slice_bounds-tell_words-end-2
slice_bounds-tell_words-end-2 c =
    let f = found_masks c.args.input.now c.args.s c.args.r c.requires.0 in
    sym (length-take-le c.words_for-rk.result c.pack-2.new.words (omega (arith, c.words_for-rk.ensures, c.pack-2.auto.words, f.rank_long, f.well.rank_short)))

pub slice_bounds-words-end : goal.slice_bounds-words-end
slice_bounds-words-end c =
    let f = found_masks c.args.input.now c.args.s c.args.r c.requires.0 in
    omega (arith, c.words_for-sk.ensures, f.self_long, f.well.self_short)

pub slice_bounds-tell_words-end-3 : goal.slice_bounds-tell_words-end-3
slice_bounds-tell_words-end-3 c =
    let f = found_masks c.args.input.now c.args.s c.args.r c.requires.0 in
    sym (length-take-le c.words_for-sk.result (replicate 128 0) (omega (arith, c.words_for-sk.ensures, f.self_long, f.well.self_short)))

pub tell_words-requires : goal.tell_words-requires
tell_words-requires c =
    let f = found_masks c.args.input.now c.args.s c.args.r c.requires.0 in
    let k = c.words_for-sk.result in
    let l = c.words_for-rk.result in
    let kf : k ≡ words_for c.args.s = c.words_for-sk.ensures in
    let lf : l ≡ words_for c.args.r = c.words_for-rk.ensures in
    let sk = length-take-le k c.pack.new.words (omega (arith, kf, c.pack.auto.words, f.self_long, f.well.self_short)) in
    let rl = length-take-le l c.pack-2.new.words (omega (arith, lf, c.pack-2.auto.words, f.rank_long, f.well.rank_short)) in
    let wk = length-take-le k (replicate {A = ℕ} 128 0) (omega (arith, kf, f.self_long, f.well.self_short)) in
    (omega (arith, f.self_long, f.well.self_short), omega (arith, sk, kf), omega (arith, f.rank_long, f.well.rank_short), omega (arith, rl, lf), omega (arith, wk, kf), omega (arith, c.requires.1))

pub returns : goal.returns
returns c =
    let input = c.args.input.now in
    let t = c.tell_words in
    let zeros : List ℕ = replicate 128 0 in
    let e = packed_answered input c.args.s c.args.r c.requires.0 c.words_for-sk.result c.words_for-rk.result c.words_for-sk.ensures c.words_for-rk.ensures
    c.pack.new.words c.pack-2.new.words zeros zeros c.pack.ensures c.pack-2.ensures in
    (t.ensures.0 ∙ ap₂ with_text e.0 e.1, t.ensures.1 ∙ ap (splice 0 c.args.out.now) e.1, t.ensures.2)
