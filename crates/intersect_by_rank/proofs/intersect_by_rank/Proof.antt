-- `intersect_by_rank` meets its contract: a composition with document 01's factors.
-- By what `document_factors` gives. Assumes nothing.
use borrow.Author.Rules.{rules}
use Rattle.intersect_by_rank.proofs.intersect_by_rank.Statement.{statement}
use Rattle.intersect_by_rank.proofs.intersect_by_rank.Tie as tie

document-factors-requires : tie.Need-document_factors-requires
document-factors-requires c κs = search rules

compose-with-requires : tie.Need-compose_with-requires
compose-with-requires c κs = search rules

same_length : tie.Need-shape_of-out
same_length c = search rules

returns : tie.Need-returns
returns c = rw (← c.before.before.before.before.document_factors.ensures) c.before.before.compose_with.ensures

pub intersect_by_rank_spec : {M : Type 1} → statement M
intersect_by_rank_spec =
    tie.close (tie.spec document-factors-requires compose-with-requires same_length returns)
