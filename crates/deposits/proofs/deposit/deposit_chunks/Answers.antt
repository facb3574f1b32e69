-- `deposits::deposit::deposit_chunks` meets its contract: a chunk more is laid, and the end of the last one is self's.
-- By the law of one chunk, and of the rank bits told for it. Assumes nothing.
use Rattle.std.proofs.Common.{◌≡◌, ◌+◌, ◌^◌, ◌∙◌, ℕ, ap, refl, arith}
use Rattle.std.specs.Int.Count.{ones}
use Rattle.rows.specs.Rows.{count}
use Rattle.rows.specs.Words.{view}
use Rattle.rows.specs.Lists.{tab}
use Rattle.rows.proofs.LaidLaws.{below_all}
use Rattle.deposits.proofs.RankLaws.{ranks_told}
use Rattle.deposits.proofs.DepositLaws.{Deposited, deposited_none, deposited_all, rank_within, chunk_ranked, mask_few, chunk_deposited}
use Rattle.deposits.proofs.deposit.deposit_chunks.Goals as goal
use Rattle.deposits.proofs.deposit.deposit_chunks.Goals.{After-push_result_chunk}
use Rattle.deposits.proofs.deposit.deposit_chunks.Given.{Over}

pub loop-done-init : goal.loop-done-init
loop-done-init g c = record {
  within = omega arith;
  deposited = deposited_none _ _ _ _ _ _ (below_all (2 ^ 64) c.args.out.now (λ i. (c.type_inv.out i).fits));
  reached = c.requires.4;
  same = refl;
}

pub bits-bits-requires : goal.bits-bits-requires
bits-bits-requires g c =
    let d = c.loop-done.invariant.deposited in (
      omega (arith, d.counted, c.requires.2, rank_within c.args.start c.loop-done.done c.args.len c.args.words.now c.loop-done.invariant.within),
      mask_few _ _ _ _ _ _ _ _ _ _ _ _ c.requires.1 d c.loop-done-test.true c.chunk_len-n.ensures c.self_bits-mask.ensures,
      c.loop-done.invariant.reached,
    )

-- a chunk more
laid_more : (g : Over) (c : After-push_result_chunk g) → (past : ℕ) → past ≡ c.loop-done.done + c.chunk_len-n.result
    → Deposited c.args.start c.args.at c.args.first.0 c.args.words.now c.args.out.now
    (tab c.args.first.0 (count (view c.args.start c.args.len c.args.words.now)) (g.R.Ranks.has c.args.ranks))
    past (c.loop-done.rank.0 + ones c.self_bits-mask.result) c.push_result_chunk.new.out
laid_more g c past e =
    let i = c.loop-done.invariant in
    let ranked = chunk_ranked _ _ _ _ _ _ _ _ _ _ _ _ c.requires.1 i.deposited c.loop-done-test.true c.chunk_len-n.ensures c.self_bits-mask.ensures in
    let passed = count (view c.args.start c.loop-done.done c.args.words.now) in
    let total = count (view c.args.start c.args.len c.args.words.now) in
    let told = c.bits-bits.ensures.0 ∙ ap (tab c.loop-done.rank.0 (ones c.self_bits-mask.result)) i.same in
    chunk_deposited _ _ _ _ _ _ _ _ _ _ _ _ c.requires.1 i.deposited c.loop-done-test.true c.chunk_len-n.ensures c.self_bits-mask.ensures _ past _ e
    (ranks_told _ c.args.first.0 passed total _ _ _ (g.R.Ranks.has c.args.ranks) (omega (arith, ranked)) i.deposited.counted c.self_bits-mask.ensures told)
    c.push_result_chunk.ensures

pub loop-done-preserved : goal.loop-done-preserved
loop-done-preserved g c = record {
  within = omega arith;
  deposited = laid_more g (goal.at.loop-done-preserved g c).After-push_result_chunk _ (omega arith);
  reached = c.bits-bits.ensures.1;
  same = c.bits-bits.ensures.2 ∙ c.loop-done.invariant.same;
}

pub returns-2 : goal.returns-2
returns-2 g c = deposited_all _ c.args.len _ _ _ _ _ _ _ _ (laid_more g (goal.at.returns-2 g c).After-push_result_chunk c.args.len (omega arith)) refl
