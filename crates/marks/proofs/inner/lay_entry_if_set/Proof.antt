-- `marks::inner::lay_entry_if_set` meets its contract.
-- The rows of the composition, marked where the part was cleared, are the composition laid there. Assumes nothing.
use mathlib.Core.Path.{ap, ◌∙◌}
use native.Mathlib.Omega.{arith}
use lib.ListN.{length, drop}
use Rattle.rows.specs.Rows.{compose}
use Rattle.rows.specs.Words.{bits_of_all}
use Rattle.rows.specs.Lists.{listed, set_rows, member}
use Rattle.rows.specs.Laid.{marked}
use Rattle.rows.proofs.ListLaws.{tab_length}
use Rattle.rows.proofs.LaidLaws.{laid_length}
use Rattle.marks.specs.Entries.{entries}
use Rattle.marks.proofs.ListLaws.{marked_compose}
use borrow.Author.Rules.{rules}
use Rattle.marks.proofs.inner.lay_entry_if_set.Statement.{statement}
use Rattle.marks.proofs.inner.lay_entry_if_set.Tie as tie

-- ---- the places, each from the one after it

abbrev lent : tie.After-slice_known-1 → tie.Start
lent c = c.before.before.before

abbrev entry : tie.After-clear-arg-1 → tie.Start
entry c = lent c.before

abbrev cleared : tie.After-intersect_indices_by_rank_bits-arg-1 → tie.After-clear
cleared c = c.before.before.before

abbrev ended : tie.After-slice_known-3-1 → tie.After-intersect_indices_by_rank_bits
ended c = c.before.before

-- ---- the answers

clear-requires : tie.Need-clear-requires
clear-requires c κs = (entry c).requires.3

intersect-indices-by-rank-bits-requires : tie.Need-intersect_indices_by_rank_bits-requires
intersect-indices-by-rank-bits-requires c κs =
    let k = cleared c in
    let s = entry k.before in
    let long = rw laid_length at (ap length k.clear.ensures) in
    (s.requires.0, s.requires.1, s.requires.2, (omega (arith, s.requires.3.0, long), s.requires.3.1))

same_length : tie.Need-shape_of-out
same_length c = search rules

returns : tie.Need-returns
returns c =
    let e = ended c in
    let k = cleared e.before in
    let s = entry k.before in
    let a = s.args in
    let rows = entries a.numbers a.rows.now in
    let self = listed a.len rows in
    let rank = drop a.from (bits_of_all 64 a.ranks.now) in
    e.intersect_indices_by_rank_bits.ensures ∙ ap (marked a.at (set_rows 0 (compose self rank))) k.clear.ensures
    ∙ marked_compose a.at a.len self rank a.out.now (tab_length 0 a.len (λ i. member i rows))

pub lay_entry_if_set_spec : {M : Type 1} → statement M
lay_entry_if_set_spec =
    tie.close
    (tie.spec
    clear-requires
    intersect-indices-by-rank-bits-requires
    same_length
    returns)
