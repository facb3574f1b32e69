-- `network::lanes::spread` meets its contract.
-- A turn undoes one stage: by the definition's step, at a shift of 2 ^ i.
use Rattle.std.proofs.Common.{◌≡◌, ℕ, suc, ◌-◌, ◌*◌, ◌%◌, ◌^◌, List, get_or, sym, ap, ◌∙◌, arith}
use lib.Bits.{bit_and, bit_or}
use Rattle.network.specs.Lanes.{undo_from}
use Rattle.network.proofs.NetworkLaws.{shift_is}
use Rattle.network.proofs.lanes.spread.Goals as goal

pub loop-i-preserved : goal.loop-i-preserved
unfolding undo_from
loop-i-preserved c =
    let at = c.loop-i in
    let j : ℕ = at.i - 1 in
    let l : List ℕ = c.args.landed in
    let e : at.i ≡ suc j = omega arith in
    ap (λ (s : ℕ). undo_from 64 l j (bit_or (bit_and at.result (2 ^ 64 - 1 - get_or l j 0)) ((bit_and at.result (get_or l j 0) * 2 ^ s) % 2 ^ 64))) (shift_is j (omega arith))
    ∙ ap (λ (n : ℕ). undo_from 64 l n at.result) (sym e) ∙ at.invariant

pub returns : goal.returns
unfolding undo_from
returns c =
    let at = c.loop-i in
    let e : at.i ≡ 0 = omega arith in
    ap (λ (n : ℕ). undo_from 64 c.args.landed n at.result) (sym e) ∙ at.invariant
