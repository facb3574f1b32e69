-- `marks::lists::intersect_by_rank_indices` meets its contract: a listed rank is one of self's, and its entry is the next row, which is marked.
-- By where the composition's rows lie. Assumes nothing.
use Rattle.std.proofs.Common.{◌≡◌, ◌+◌, ◌<◌, ◌∙◌, List, [], ◌∷◌, ℕ, true, length, get_or, take, sym, ap, ap₂, add-one, arith}
use Rattle.std.proofs.Math.Seq.{take_all}
use Rattle.rows.specs.Rows.{compose}
use Rattle.rows.specs.Lists.{listed, set_rows, Ascending}
use Rattle.rows.specs.Laid.{laid, marked}
use Rattle.rows.proofs.MarkLaws.{marked_next, ascending_below, below_at}
use Rattle.marks.proofs.ListLaws.{ranked_length, ranked_at}
use Rattle.marks.proofs.lists.intersect_by_rank_indices.Goals as goal

module _ (len : ℕ) (rows ranks : List ℕ) (up : Ascending 0 len rows) (ups : Ascending 0 (length rows) ranks) where
  abbrev result : List ℕ
  result = set_rows 0 (compose (listed len rows) (listed (length rows) ranks))

  long : length result ≡ length ranks
  long = ranked_length len rows ranks up ups

  module _ (i : ℕ) (h : i < length ranks) where
    ranked : get_or ranks i 0 < length rows
    ranked = below_at (length rows) ranks i (ascending_below 0 (length rows) ranks ups) h

    row : get_or rows (get_or ranks i 0) 0 < len
    row = below_at len rows (get_or ranks i 0) (ascending_below 0 len rows up) ranked

    next : (at row : ℕ) (ws out then : List ℕ) → row ≡ get_or rows (get_or ranks i 0) 0 → out ≡ marked at (take i result) ws
        → then ≡ laid (at + row) (true ∷ []) out → then ≡ marked at (take (i + 1) result) ws
    next at row ws out then is done new =
        new
        ∙ ap₂ (λ (x : ℕ) (o : List ℕ). laid (at + x) (true ∷ []) o) (is ∙ sym (ranked_at len rows ranks up ups i h)) done
        ∙ marked_next at i result ws (omega (arith, long))
        ∙ ap (λ (j : ℕ). marked at (take j result) ws) (sym (add-one i))

pub entry_at-row-requires : goal.entry_at-row-requires
entry_at-row-requires c = ranked _ _ _ c.requires.0 c.requires.1 _ c.loop-entry-test.true

pub mark_row-requires : goal.mark_row-requires
mark_row-requires c =
    let below = row _ _ _ c.requires.0 c.requires.1 _ c.loop-entry-test.true in
    (omega (arith, below, c.entry_at-row.ensures), omega (arith, below, c.entry_at-row.ensures))

pub loop-entry-preserved : goal.loop-entry-preserved
loop-entry-preserved c =
    next _ _ _ c.requires.0 c.requires.1 _ c.loop-entry-test.true _ _ _ _ _ c.entry_at-row.ensures c.loop-entry.invariant c.mark_row.ensures

pub returns : goal.returns
returns c =
    let all = long _ _ _ c.requires.0 c.requires.1 in
    c.loop-entry.invariant ∙ ap (λ (rs : List ℕ). marked c.args.at rs c.args.out.now) (take_all c.loop-entry.entry-index _ (omega (arith, all)))
