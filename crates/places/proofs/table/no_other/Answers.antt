-- `places::table::no_other` meets its contract: what is none of the numbers below 256 is past the list, which has 256 entries.
-- By the law of such a number. Assumes nothing.
use Rattle.std.proofs.Common.{◌≡◌, ◌≤◌, length, sym, refl, arith}
use lib.ListN.{get_or-eq_default}
use Rattle.places.specs.Places.{places}
use Rattle.places.proofs.KeyLaws.{none_below}
use Rattle.places.proofs.table.no_other.Goals as goal

pub returns : goal.returns
returns c =
    let n : length places ≡ 256 = refl in
    let past : length places ≤ c.args.byte = omega (arith, none_below 256 c.args.byte c.requires) in
    sym (get_or-eq_default places 0 {n = c.args.byte} past)
