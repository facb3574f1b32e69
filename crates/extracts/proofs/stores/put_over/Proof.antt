-- `extracts::stores::put_over` meets its contract: what the first word has room for is put there, and the next word is what is left.
-- By a word stored as bits laid, one part behind the other. Assumes nothing.
use borrow.Author.Rules.{rules}
use Rattle.extracts.proofs.OverLaws.{stored_over}
use Rattle.extracts.proofs.stores.put_over.Statement.{statement}
use Rattle.extracts.proofs.stores.put_over.Tie as tie

-- ---- the places, each from the one after it

abbrev start : tie.After-slice_known-1 → tie.Start
start c = c.before

abbrev stored : tie.After-slice_known-2-1 → tie.After-put
stored c = c.before.before

abbrev asked : tie.After-put → tie.After-slice_known-1
asked c = c.before.before

-- ---- the answers

sub-put : tie.Need-overflow_sub-shift
sub-put c = search rules

put-requires : tie.Need-put-requires
put-requires c κs = search rules

add-next : tie.Need-overflow_add-next
add-next c = search rules

sub_out : tie.Need-overflow_sub-out
sub_out c = search rules

shr-out : tie.Need-overflow_shr-out-2
shr-out c = search rules

mul-out : tie.Need-offset_bounds-out-next
mul-out c = search rules

slice-write-out : tie.Need-bounds-out-next
slice-write-out c = search rules

same_length : tie.Need-shape_of-out
same_length c = search rules

returns : tie.Need-returns
returns c =
    let t = stored c in
    let a = (start (asked t)).args in
    stored_over a.out.now _ a.place a.bits (start (asked t)).ranges.bits.fits t.put.ensures

pub put_over_spec : {M : Type 1} → statement M
put_over_spec = tie.close (tie.spec sub-put put-requires add-next sub_out shr-out mul-out slice-write-out same_length returns)
