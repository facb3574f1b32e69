-- `marks::lists::intersect_indices_by_rank_bits` meets its contract: a chunk of rank bits more is marked, and the last one's end is that of the entries.
-- By the law of one chunk, and of all. Assumes nothing.
use Rattle.std.proofs.Common.{◌≡◌, ◌+◌, ◌*◌, ◌≤◌, ◌∙◌, List, ℕ, length, get_or, take, drop, map, sym, ap, arith}
use Rattle.rows.specs.Rows.{compose}
use Rattle.rows.specs.Words.{bits_of_all, view}
use Rattle.rows.specs.Lists.{listed, set_rows, Ascending}
use Rattle.rows.specs.Laid.{marked}
use Rattle.rows.proofs.WordsLaws.{view_length}
use Rattle.rows.proofs.MarkLaws.{ascending_below}
use Rattle.marks.specs.Entries.{entries}
use Rattle.marks.proofs.DrivenLaws.{chunk_ranks, marked_chunk, marked_all}
use Rattle.marks.proofs.ListLaws.{rows_at_set}
use Rattle.marks.proofs.lists.intersect_indices_by_rank_bits.Goals as goal

-- there are as many rank bits as entries
long : (from n : ℕ) (ranks rows : List ℕ) → n ≡ length rows → from + length rows ≤ length ranks * 64 → length (view from n ranks) ≡ n
long from n ranks rows e h = view_length from n ranks (omega (arith, e))

-- the rows of the composition
all_rows : (len from n : ℕ) (rows ranks : List ℕ) → n ≡ length rows → Ascending 0 len rows → (at : ℕ) (out : List ℕ)
    → marked at (map (λ k. get_or rows k 0) (set_rows 0 (view from n ranks))) out
    ≡ marked at (set_rows 0 (compose (listed len rows) (drop from (bits_of_all 64 ranks)))) out
all_rows len from n rows ranks e up at out =
    ap (λ (rs : List ℕ). marked at rs out)
    (ap (λ (k : ℕ). map (λ i. get_or rows i 0) (set_rows 0 (take k (drop from (bits_of_all 64 ranks))))) e
    ∙ sym (rows_at_set len rows (drop from (bits_of_all 64 ranks)) up))

pub mark_entries-requires : goal.mark_entries-requires
mark_entries-requires c =
    let rows = entries c.args.numbers c.args.rows.now in
    let e = c.entry_count-count.ensures in
    let l = long c.args.from _ c.args.ranks.now rows e c.requires.2 in
    let ups = chunk_ranks (view c.args.from c.entry_count-count.result c.args.ranks.now) c.loop-first.first 0 (length rows)
    (omega arith) (omega (arith, l)) (omega (arith, l, e)) in (
      ascending_below 0 c.args.len rows c.requires.0,
      (omega arith, c.requires.3.1),
      rw c.rank_chunk-chunk.ensures (ascending_below 0 (length rows) _ ups),
    )

pub loop-first-preserved : goal.loop-first-preserved
loop-first-preserved c =
    let l = long c.args.from _ c.args.ranks.now _ c.entry_count-count.ensures c.requires.2 in
    (omega arith, marked_chunk _ _ _ c.loop-first.first _ _ _ _ (omega (arith, l)) c.loop-first.invariant.1 c.rank_chunk-chunk.ensures c.mark_entries.ensures)

pub returns : goal.returns
returns c =
    let e = c.entry_count-count.ensures in
    let l = long c.args.from _ c.args.ranks.now _ e c.requires.2 in
    marked_all _ _ _ c.loop-first.first _ _ (omega (arith, l)) c.loop-first.invariant.1 ∙ all_rows _ _ _ _ _ e c.requires.0 _ _

pub returns-2 : goal.returns-2
returns-2 c =
    let e = c.entry_count-count.ensures in
    let l = long c.args.from _ c.args.ranks.now _ e c.requires.2 in
    marked_all _ _ _ (c.loop-first.first + 64) _ _ (omega (arith, l))
    (marked_chunk _ _ _ c.loop-first.first _ _ _ _ (omega (arith, l)) c.loop-first.invariant.1 c.rank_chunk-chunk.ensures c.mark_entries.ensures)
    ∙ all_rows _ _ _ _ _ e c.requires.0 _ _
