-- `marks::driven::mark_rank` meets its contract.
-- The row that is found is the rank's, and it is within, so that its bit has room. Assumes nothing.
use Prim.Native.Nat.{ℕ, ◌+◌}
use mathlib.Core.Path.{ap, ◌∙◌}
use mathlib.Core.Bool.{true}
use mathlib.Core.List.{[], ◌∷◌}
use native.Mathlib.Omega.{arith}
use borrow.Author.Rules.{rules}
use Rattle.rows.specs.Laid.{laid}
use Rattle.marks.proofs.DrivenLaws.{view_few, view_row}
use Rattle.marks.proofs.driven.mark_rank.Statement.{statement}
use Rattle.marks.proofs.driven.mark_rank.Tie as tie

seek-requires : tie.Need-seek-place-requires
seek-requires c κs = search rules

row-in-requires : tie.Need-row_in-row-requires
row-in-requires c κs = search rules

-- the row's bit has room. So has the rank's, by `view_few`: were it marked instead, only the promise would fail
mark-row-requires : tie.Need-mark_row-requires
mark-row-requires c κs =
    let k = c.before in
    let s = k.before.before.before.before in
    let a = s.args in
    let room = view_few a.start a.len a.words.now s.requires.0.2 in
    let row = view_row a.start a.len a.words.now s.requires.0.2 a.rank.0 s.requires.4 in
    (omega (arith, k.row_in-row.ensures), omega (arith, k.row_in-row.ensures))

same_length : tie.Need-shape_of-out
same_length c = search rules

returns : tie.Need-returns
returns c =
    let k = c.before.before.before.before in
    let a = k.before.before.before.before.args in
    let h = k.before.seek-place.ensures in
    (h.walked, h.reached, c.before.before.mark_row.ensures ∙ ap (λ (r : ℕ). laid (a.at + r) (true ∷ []) a.out.now) k.row_in-row.ensures)

pub mark_rank_spec : {M : Type 1} → statement M
mark_rank_spec =
    tie.close (tie.spec seek-requires row-in-requires mark-row-requires same_length returns)
