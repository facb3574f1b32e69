-- `under::entries::mark_entries`: each turn marks the ranks of one run.
-- By the laws of the next run and of the ranks that it takes.
use Rattle.std.proofs.Common.{ℕ, List, sym, ap, ◌∙◌, arith}
use Rattle.rows.specs.Laid.{marked}
use Rattle.rows.proofs.PairLaws.{next_pair}
use Rattle.under.proofs.EntryLaws.{walk_few, marking_none, marking_run, marking_all, marking_end, entry_rows}
use Rattle.under.proofs.entries.mark_entries.Goals as goal

pub loop-first-init : goal.loop-first-init
loop-first-init c = marking_none _ _ _ _ _ c.requires.0 c.requires.2 c.requires.1

pub returns-then-next-ranks : goal.returns-then-next-ranks
returns-then-next-ranks c =
    marking_all _ _ _ _ _ _ _ _ _ c.loop-first.invariant (omega arith)
    ∙ ap (λ (rs : List ℕ). marked c.args.at rs c.args.out.now) (sym (entry_rows _ _ _ c.requires.0 c.requires.1))

pub overflow_sub-end : goal.overflow_sub-end
overflow_sub-end c =
    let r = next_pair _ _ _ _ _ c.as_chunks.ensures.front c.as_chunks.ensures.front_len (omega arith) c.loop-first.invariant.walk.ahead in
    omega (arith, r.some)

pub overflow_add-end : goal.overflow_add-end
overflow_add-end c =
    let r = next_pair _ _ _ _ _ c.as_chunks.ensures.front c.as_chunks.ensures.front_len (omega arith) c.loop-first.invariant.walk.ahead in
    omega (arith, walk_few _ _ _ _ c.loop-first.invariant.walk _ _ r)

pub mark_in_run-next-requires : goal.mark_in_run-next-requires
mark_in_run-next-requires c =
    let r = next_pair _ _ _ _ _ c.as_chunks.ensures.front c.as_chunks.ensures.front_len (omega arith) c.loop-first.invariant.walk.ahead in (
      c.loop-first.invariant.within,
      c.loop-first.invariant.ahead,
      (omega (arith, r.some, r.within), omega (arith, r.some, r.within)),
    )

pub loop-first-preserved : goal.loop-first-preserved
loop-first-preserved c =
    let r = next_pair _ _ _ _ _ c.as_chunks.ensures.front c.as_chunks.ensures.front_len (omega arith) c.loop-first.invariant.walk.ahead in
    marking_run _ _ _ _ _ _ _ _ _ c.loop-first.invariant _ _ r _ _ c.mark_in_run-next.ensures

pub returns : goal.returns
returns c =
    marking_end _ _ _ _ _ _ _ _ _ c.loop-first.invariant c.requires.0 c.requires.1 (omega (arith, c.as_chunks.ensures.front_len))
    ∙ ap (λ (rs : List ℕ). marked c.args.at rs c.args.out.now) (sym (entry_rows _ _ _ c.requires.0 c.requires.1))
