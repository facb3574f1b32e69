-- `extracts::inner::recover_chunks`: each turn stores the ranks of one chunk, and both walks go on behind it.
-- By the law of one chunk more, at operands.
use Rattle.std.proofs.Common.{ℕ, ◌+◌, ◌^◌, ◌≡◌, sym, subst, ◌∙◌, arith}
use Rattle.rows.proofs.LaidLaws.{below_all}
use Rattle.rules.specs.Operand.{lent}
use Rattle.rules.proofs.OperandLaws.{accepted_length, accepted_count}
use Rattle.extracts.specs.Walk.{Came}
use Rattle.extracts.proofs.WalkLaws.{came_first}
use Rattle.extracts.proofs.ExtractLaws.{extracting_none, extracting_few, extracting_stored, extracting_end, accepted_same}
use Rattle.extracts.proofs.inner.recover_chunks.Goals as goal

pub loop-row-init : goal.loop-row-init
loop-row-init c =
    let counted = accepted_count (lent c.args.s c.args.swords.now c.args.srows.now) c.requires.0 in record {
      within = omega arith;
      own = came_first (lent c.args.s c.args.swords.now c.args.srows.now) c.requires.0;
      other = came_first (lent c.args.k c.args.kwords.now c.args.krows.now) c.requires.1;
      extracting = extracting_none _ _ _ _ (below_all (2 ^ 64) c.args.out.now (λ i. (c.type_inv.out i).fits)) (omega (arith, counted));
    }

pub store_ranks-rank-requires : goal.store_ranks-rank-requires
store_ranks-rank-requires c =
    let few = extracting_few _ _ _ (accepted_same (lent c.args.s c.args.swords.now c.args.srows.now) (lent c.args.k c.args.kwords.now c.args.krows.now) c.requires.0 c.requires.1 c.requires.2) _ _ _ _ c.loop-row.invariant.extracting _ _ _ (omega arith) (c.requires.3 ∙ sym (accepted_count (lent c.args.s c.args.swords.now c.args.srows.now) c.requires.0)) c.rows_in_chunk-mask.ensures.0 in
    (few.0, omega (arith, few.1), omega arith, omega arith)

pub loop-row-preserved : goal.loop-row-preserved
loop-row-preserved c =
    let next : c.loop-row.row + c.chunk_len-n.result ≡ c.loop-row.row + 64 = omega arith in record {
      within = omega arith;
      own = subst (λ (x : ℕ). Came (lent c.args.s c.args.swords.now c.args.srows.now) c.rows_in_chunk-mask.result.next x) next c.rows_in_chunk-mask.ensures.1;
      other = subst (λ (x : ℕ). Came (lent c.args.k c.args.kwords.now c.args.krows.now) c.rows_in_chunk-source.result.next x) next c.rows_in_chunk-source.ensures.1;
      extracting = extracting_stored _ _ _ (accepted_same (lent c.args.s c.args.swords.now c.args.srows.now) (lent c.args.k c.args.kwords.now c.args.krows.now) c.requires.0 c.requires.1 c.requires.2) _ _ _ _ c.loop-row.invariant.extracting _ _ _ (omega arith) (c.requires.3 ∙ sym (accepted_count (lent c.args.s c.args.swords.now c.args.srows.now) c.requires.0))
          c.rows_in_chunk-mask.ensures.0 _ _ _ _ _ c.rows_in_chunk-source.ensures.0 c.extract_bits-bits.ensures c.store_ranks-rank.ensures.1
          c.store_ranks-rank.ensures.0 (omega arith);
    }

pub returns : goal.returns
returns c = extracting_end _ _ _ (accepted_same (lent c.args.s c.args.swords.now c.args.srows.now) (lent c.args.k c.args.kwords.now c.args.krows.now) c.requires.0 c.requires.1 c.requires.2) _ _ _ _ c.loop-row.invariant.extracting (omega (arith, accepted_length (lent c.args.s c.args.swords.now c.args.srows.now) c.requires.0))

pub returns-2 : goal.returns-2
returns-2 c =
    let all = extracting_stored _ _ _ (accepted_same (lent c.args.s c.args.swords.now c.args.srows.now) (lent c.args.k c.args.kwords.now c.args.krows.now) c.requires.0 c.requires.1 c.requires.2) _ _ _ _ c.loop-row.invariant.extracting _ _ _ (omega arith) (c.requires.3 ∙ sym (accepted_count (lent c.args.s c.args.swords.now c.args.srows.now) c.requires.0))
    c.rows_in_chunk-mask.ensures.0 _ _ _ c.length_of-len.result _ c.rows_in_chunk-source.ensures.0 c.extract_bits-bits.ensures c.store_ranks-rank.ensures.1
    c.store_ranks-rank.ensures.0 (omega arith) in
    extracting_end _ _ _ (accepted_same (lent c.args.s c.args.swords.now c.args.srows.now) (lent c.args.k c.args.kwords.now c.args.krows.now) c.requires.0 c.requires.1 c.requires.2) _ _ _ _ all (omega (arith, accepted_length (lent c.args.s c.args.swords.now c.args.srows.now) c.requires.0))
