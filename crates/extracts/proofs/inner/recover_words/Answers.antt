-- `extracts::inner::recover_words`: each turn stores the ranks of one word, and those of the rows past the last are stored behind them.
-- By the law of one chunk more, at words.
use Rattle.std.proofs.Common.{◌-◌, ◌*◌, ◌%◌, ◌^◌, ◌∙◌, arith}
use Rattle.rows.proofs.LaidLaws.{below_all}
use Rattle.rows.proofs.WordsLaws.{view_length}
use Rattle.rows.proofs.PartLaws.{view_chunk}
use Rattle.extracts.proofs.ExtractLaws.{extracting_none, extracting_few, extracting_stored, extracting_at, extracting_end, views_same}
use Rattle.extracts.proofs.inner.recover_words.Goals as goal

pub loop-i-init : goal.loop-i-init
loop-i-init c = extracting_none _ _ _ _ (below_all (2 ^ 64) c.args.out.now (λ i. (c.type_inv.out i).fits)) c.requires.3.0

pub store_ranks-rank-requires : goal.store_ranks-rank-requires
store_ranks-rank-requires c =
    let own = c.whole_word-mask.ensures ∙ view_chunk c.args.start (c.loop-i.i * 64) 64 c.args.len c.args.words.now (omega arith) c.requires.0.2 in
    let few = extracting_few _ _ _ (views_same _ _ _ _ _ c.requires.0.2 c.requires.1.2) _ _ _ _ c.loop-i.invariant 64 _ _ (omega arith) c.requires.2 own in
    (few.0, omega (arith, few.1), omega arith, omega arith)

pub loop-i-preserved : goal.loop-i-preserved
loop-i-preserved c =
    let own = c.whole_word-mask.ensures ∙ view_chunk c.args.start (c.loop-i.i * 64) 64 c.args.len c.args.words.now (omega arith) c.requires.0.2 in
    let his = c.whole_word-source.ensures ∙ view_chunk c.args.from (c.loop-i.i * 64) 64 c.args.len c.args.kept.now (omega arith) c.requires.1.2 in
    extracting_stored _ _ _ (views_same _ _ _ _ _ c.requires.0.2 c.requires.1.2) _ _ _ _ c.loop-i.invariant 64 _ _ (omega arith) c.requires.2 own _ _ _ _ _ his c.extract_bits-bits.ensures c.store_ranks-rank.ensures.1
    c.store_ranks-rank.ensures.0 (omega arith)

pub store_ranks-requires : goal.store_ranks-requires
store_ranks-requires c =
    let rest = c.args.len % 64 in
    let at_rest = extracting_at _ _ _ (views_same _ _ _ _ _ c.requires.0.2 c.requires.1.2) _ _ _ _ c.loop-i.invariant (c.args.len - rest) (omega arith) in
    let own = c.self_bits-mask.ensures ∙ view_chunk c.args.start (c.args.len - rest) rest c.args.len c.args.words.now (omega arith) c.requires.0.2 in
    let few = extracting_few _ _ _ (views_same _ _ _ _ _ c.requires.0.2 c.requires.1.2) _ _ _ _ at_rest rest _ _ (omega arith) c.requires.2 own in
    (few.0, omega (arith, few.1), omega arith, omega arith)

pub returns : goal.returns
returns c =
    let rest = c.args.len % 64 in
    let at_rest = extracting_at _ _ _ (views_same _ _ _ _ _ c.requires.0.2 c.requires.1.2) _ _ _ _ c.loop-i.invariant (c.args.len - rest) (omega arith) in
    let own = c.self_bits-mask.ensures ∙ view_chunk c.args.start (c.args.len - rest) rest c.args.len c.args.words.now (omega arith) c.requires.0.2 in
    let his = c.self_bits-source.ensures ∙ view_chunk c.args.from (c.args.len - rest) rest c.args.len c.args.kept.now (omega arith) c.requires.1.2 in
    let all =
    extracting_stored _ _ _ (views_same _ _ _ _ _ c.requires.0.2 c.requires.1.2) _ _ _ _ at_rest rest _ _ (omega arith) c.requires.2 own _ _ _ c.args.len _ his c.extract_bits-bits-2.ensures c.store_ranks.ensures.1
    c.store_ranks.ensures.0 (omega arith) in
    extracting_end _ _ _ (views_same _ _ _ _ _ c.requires.0.2 c.requires.1.2) _ _ _ _ all (omega (arith, view_length c.args.start c.args.len c.args.words.now c.requires.0.2))
