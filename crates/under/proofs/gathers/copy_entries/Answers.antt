-- `under::gathers::copy_entries`: each turn gathers and lays one word of rank bits.
-- By the laws of rank bits laid part by part.
use Rattle.std.proofs.Common.{◌^◌, arith}
use Rattle.rows.proofs.LaidLaws.{below_all}
use Rattle.under.proofs.GatheredLaws.{copied_none, copied_part, copied_all}
use Rattle.under.proofs.gathers.copy_entries.Goals as goal

pub loop-done-init : goal.loop-done-init
loop-done-init c = copied_none _ _ _ _ _ _ c.requires.1 (below_all (2 ^ 64) c.args.out.now (λ i. (c.type_inv.out i).fits))

pub loop-done-preserved : goal.loop-done-preserved
loop-done-preserved c =
    copied_part _ _ _ _ _ _ _ _ c.loop-done.invariant _ _ _ _ _ _ (omega arith) (omega arith) (omega arith) c.rank_bits_for_chunk-gathered.ensures
    c.put_rows.ensures

pub returns-2 : goal.returns-2
returns-2 c =
    let all = copied_part _ _ _ _ _ _ _ _ c.loop-done.invariant _ _ _ c.args.n _ _ (omega arith) (omega arith) (omega arith)
    c.rank_bits_for_chunk-gathered.ensures c.put_rows.ensures in
    copied_all _ _ _ _ _ _ _ _ all (omega arith)
