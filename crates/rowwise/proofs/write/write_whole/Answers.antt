-- `rowwise::write::write_whole` meets its contract: a word more is a chunk more of the result.
-- By the laws of a word made of two words, and of one chunk. Assumes nothing.
use Rattle.std.proofs.Common.{◌≡◌, ◌*◌, ◌^◌, ◌<◌, ◌∙◌, take, drop, arith}
use Rattle.rows.specs.Word.{word_of, both}
use Rattle.rows.specs.Words.{view}
use Rattle.rows.proofs.LaidLaws.{below_all, below_set, laid_word}
use Rattle.rowwise.proofs.WriteLaws.{turn_few, made_none, made_next, made_all, whole_length, whole_word}
use Rattle.rowwise.proofs.write.write_whole.Given.{Over}
use Rattle.rowwise.proofs.write.write_whole.Goals as goal

pub loop-i-init : goal.loop-i-init
loop-i-init g c =
    let known = below_all (2 ^ 64) c.args.out.now (λ i. (c.type_inv.out i).fits) in
    record { below = known; made = made_none _ _ known }

-- a turn's word is a chunk of the result
bits_are : (g : Over) (c : goal.After-on_words-bits g)
    → c.on_words-bits.result
    ≡ word_of
    (take 64 (drop (c.loop-i.i * 64)
    (both g.O.RowOperation.on_rows (view c.args.astart (c.args.n * 64) c.args.awords.now) (view c.args.bstart (c.args.n * 64) c.args.bwords.now))))
bits_are g c =
    let a = c.args in
    c.on_words-bits.ensures
    ∙ whole_word g.O.RowOperation.on_rows (a.n * 64) a.astart a.bstart a.awords.now a.bwords.now c.requires.0.2 c.requires.1.2 (c.loop-i.i * 64) _ _ (omega arith)
    c.whole_word-x.ensures c.whole_word-y.ensures

pub overflow_add-count : goal.overflow_add-count
overflow_add-count g c = omega (arith, c.requires.0.0, c.loop-i.invariant.made.few, turn_few (c.loop-i.i * 64) 64 _ _ (bits_are g c))

pub loop-i-preserved : goal.loop-i-preserved
loop-i-preserved g c =
    let a = c.args in
    let l = c.loop-i in
    let small : c.on_words-bits.result < 2 ^ 64 = omega (arith, c.on_words-bits.type_inv) in
    let long = whole_length g.O.RowOperation.on_rows (a.n * 64) a.astart a.bstart a.awords.now a.bwords.now c.requires.0.2 c.requires.1.2 in record {
      below = below_set (2 ^ 64) l.out l.i _ small l.invariant.below;
      made = made_next _ _ _ _ 64 _ _ _ _ l.invariant.made (bits_are g c) (omega (arith, long)) (laid_word 64 l.i _ l.out small l.invariant.below) (omega arith);
    }

pub returns : goal.returns
returns g c =
    let a = c.args in
    let long = whole_length g.O.RowOperation.on_rows (a.n * 64) a.astart a.bstart a.awords.now a.bwords.now c.requires.0.2 c.requires.1.2 in
    made_all _ _ _ _ _ c.loop-i.invariant.made (omega (arith, long))
