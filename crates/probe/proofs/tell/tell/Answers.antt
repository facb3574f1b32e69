-- `probe::tell::tell` meets its contract: the 16 cells are laid over the front of `ans`, and the density is stored first in `den`.
-- By what the copy ensures, and a store at the front.
use Rattle.std.proofs.Common.{ap₂, ◌∙◌, arith}
use Rattle.std.proofs.lemmas.List.{drop-set}
use Rattle.rows.proofs.SpliceLaws.{splice_eq}
use Rattle.cells.specs.Probe.{answer_cells}
use Rattle.probe.proofs.tell.tell.Goals as goal

pub returns : goal.returns
returns c = ap₂ answer_cells (c.copy_words.ensures ∙ splice_eq 0 c.args.ans.now _ (omega arith)) (drop-set c.args.den.now 0 c.args.told.density (omega arith))
