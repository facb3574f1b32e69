-- `deposits::whole::deposit_words` meets its contract: a word more is stored.
-- By the law of one word, and of the rank bits told for it. Assumes nothing.
use Rattle.std.proofs.Common.{◌*◌, ◌^◌, ◌∙◌, ap, refl, arith}
use Rattle.std.specs.Int.Count.{ones}
use Rattle.rows.specs.Rows.{count}
use Rattle.rows.specs.Words.{view}
use Rattle.rows.specs.Lists.{tab}
use Rattle.rows.proofs.LaidLaws.{below_all}
use Rattle.deposits.proofs.RankLaws.{ranks_told}
use Rattle.deposits.proofs.WholeLaws.{stored_none, stored_word, word_ranked}
use Rattle.deposits.proofs.whole.deposit_words.Goals as goal

pub loop-i-init : goal.loop-i-init
loop-i-init g c = record {
  stored = stored_none _ _ _ _ _ (below_all (2 ^ 64) c.args.out.now (λ i. (c.type_inv.out i).fits));
  reached = c.requires.2;
  same = refl;
}

pub loop-i-preserved : goal.loop-i-preserved
loop-i-preserved g c =
    let s = c.loop-i.invariant.stored in
    let ranked = word_ranked c.args.start c.loop-i.i c.args.n c.args.words.now c.requires.0.2 c.loop-i-test.true in
    let passed = count (view c.args.start (c.loop-i.i * 64) c.args.words.now) in
    let total = count (view c.args.start (c.args.n * 64) c.args.words.now) in
    let told = c.bits-bits.ensures.0 ∙ ap (tab c.loop-i.rank.0 (ones c.whole_word-mask.result)) c.loop-i.invariant.same in record {
      stored = stored_word _ _ _ _ _ _ (omega (arith, c.requires.0.2)) _ _ _ _ _ s c.whole_word-mask.ensures
          (ranks_told _ 0 passed total _ _ _ (g.R.Ranks.has c.args.ranks.now) (omega (arith, ranked)) (omega (arith, s.counted)) c.whole_word-mask.ensures told) c.deposit_bits.ensures;
      reached = c.bits-bits.ensures.1;
      same = c.bits-bits.ensures.2 ∙ c.loop-i.invariant.same;
    }
