-- `kept::whole::store_alike`: each turn stores one word as it is, or as 0.
-- By the law of one word more of a stretch, of what is left of it.
use Rattle.std.proofs.Common.{◌^◌, ◌+◌, ◌-◌, ◌*◌, ◌≡◌, replicate, subst, arith}
use Rattle.rows.proofs.LaidLaws.{below_all}
use Rattle.deposits.proofs.WholeLaws.{Stored, stored_none}
use Rattle.kept.proofs.AlikeLaws.{stored_left}
use Rattle.kept.proofs.whole.store_alike.Goals as goal

pub loop-k-init : goal.loop-k-init
loop-k-init c =
    let most = c.args.alike.most in
    let none : 0 ≡ most - most = omega arith in
    record {
      within = omega arith;
      stored = subst (λ x. Stored (c.args.start + c.args.first * 64) (c.args.to + c.args.first) c.args.words.now c.args.out.now
          (replicate most c.args.alike.set) 0 x c.args.out.now) none
          (stored_none _ _ _ _ _ (below_all (2 ^ 64) c.args.out.now (λ i. (c.type_inv.out i).fits)));
    }

pub loop-k-preserved : goal.loop-k-preserved
loop-k-preserved c = record {
  within = omega arith;
  stored = stored_left _ _ _ _ _ _ _ _ _ _ _ _ (omega arith) c.loop-k.invariant.stored (omega arith) c.whole_word-word.ensures (omega arith)
      c.all_or_none.ensures;
}
