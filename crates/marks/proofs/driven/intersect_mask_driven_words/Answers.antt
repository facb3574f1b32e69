-- `marks::driven::intersect_mask_driven_words` meets its contract: a chunk of ranks more is marked, and the end of the last one is the mask's.
-- By the law of one chunk, and of all. Assumes nothing.
use Rattle.std.proofs.Common.{◌≡◌, ◌+◌, ◌∙◌, Bool, List, ℕ, length, map, sym, ap, arith}
use Rattle.rows.specs.Words.{view}
use Rattle.rows.specs.Rows.{count, compose}
use Rattle.rows.specs.Lists.{set_rows, select}
use Rattle.rows.specs.Laid.{marked}
use Rattle.rows.proofs.KeptLaws.{rows_compose_list}
use Rattle.rows.proofs.WordsLaws.{view_length}
use Rattle.marks.proofs.DrivenLaws.{chunk_ranks, marked_chunk, marked_all}
use Rattle.marks.proofs.driven.intersect_mask_driven_words.Goals as goal

-- the rows of the composition
rows : (self r : List Bool) → length r ≡ count self → (at : ℕ) (out : List ℕ)
    → marked at (map (select self) (set_rows 0 r)) out ≡ marked at (set_rows 0 (compose self r)) out
rows self r e at out = ap (λ (rs : List ℕ). marked at rs out) (sym (rows_compose_list self r e))

pub mark_chunk-place-requires : goal.mark_chunk-place-requires
mark_chunk-place-requires c =
    let l = c.loop-first in
    let long = view_length c.args.from c.args.ranklen c.args.ranks.now c.requires.3 in
    let ups = chunk_ranks (view c.args.from c.args.ranklen c.args.ranks.now) l.first l.place.passed.0
    (count (view c.args.start c.args.len c.args.words.now)) l.invariant.behind (omega (arith, long)) (omega (arith, long, c.requires.1)) in
    (c.requires.0, (omega arith, c.requires.4.1), l.invariant.walked, l.invariant.behind, rw c.rank_chunk-chunk.ensures ups)

pub loop-first-preserved : goal.loop-first-preserved
loop-first-preserved c =
    let long = view_length c.args.from c.args.ranklen c.args.ranks.now c.requires.3 in
    let m = c.mark_chunk-place.ensures in record {
      within = omega arith;
      walked = m.0;
      behind = m.1;
      marks = marked_chunk _ _ _ c.loop-first.first _ _ _ _ (omega (arith, long)) c.loop-first.invariant.marks c.rank_chunk-chunk.ensures m.2;
    }

pub returns : goal.returns
returns c =
    let a = c.args in
    let long = view_length a.from a.ranklen a.ranks.now c.requires.3 in
    marked_all _ _ _ c.loop-first.first _ _ (omega (arith, long)) c.loop-first.invariant.marks ∙ rows (view a.start a.len a.words.now) _ (long ∙ c.requires.1) a.at a.out.now

pub returns-2 : goal.returns-2
returns-2 c =
    let a = c.args in
    let long = view_length a.from a.ranklen a.ranks.now c.requires.3 in
    marked_all _ _ _ (c.loop-first.first + 64) _ _ (omega (arith, long))
    (marked_chunk _ _ _ c.loop-first.first _ _ _ _ (omega (arith, long)) c.loop-first.invariant.marks c.rank_chunk-chunk.ensures c.mark_chunk-place.ensures.2)
    ∙ rows (view a.start a.len a.words.now) _ (long ∙ c.requires.1) a.at a.out.now
