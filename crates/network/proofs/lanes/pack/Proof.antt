-- `network::lanes::pack` meets its contract. The invariant: the stages done so far. Assumes nothing.
use Rattle.std.proofs.Common.{◌≡◌, ℕ, ◌-◌, ◌^◌, ◌≤◌, List, get_or, sym, refl, ap, ◌∙◌, add-one, arith, lit<}
use Rattle.network.specs.Lanes.{move, move_to}
use Rattle.network.proofs.NetworkLaws.{shift_is, shift_small}
use Rattle.network.proofs.lanes.pack.Statement.{statement}
use Rattle.network.proofs.lanes.pack.Tie as tie

abbrev invariant-loop : tie.invariant-loop-i
invariant-loop bits landed result₀ i₀ result i = (i ≤ 3) × (result ≡ move_to 64 landed i bits)

abbrev decreases-loop : tie.decreases-loop-i
decreases-loop bits landed result₀ i₀ result i = 3 - i

loop-holds : tie.Need-loop-i-init invariant-loop decreases-loop
unfolding move_to
loop-holds c = (omega arith, refl)

mul-l : tie.Need-offset_bounds-landed-i invariant-loop decreases-loop
mul-l c = omega arith

array-read-l : tie.Need-bounds-landed-i invariant-loop decreases-loop
array-read-l c = omega arith

cast-shift : tie.Need-overflow_cast-shift invariant-loop decreases-loop
cast-shift c = omega arith

shl-shift : tie.Need-overflow_shl-shift invariant-loop decreases-loop
shl-shift c = omega arith

cast-result : tie.Need-overflow_cast-result invariant-loop decreases-loop
cast-result c = record { fits = shift_small c.before.loop-i.i (omega arith) 64 (lit< tt) }

shl-result : tie.Need-overflow_shl-result invariant-loop decreases-loop
shl-result c = shift_small c.before.loop-i.i (omega arith) 6 (lit< tt)

cast-result-2 : tie.Need-overflow_cast-result-in-loop-i invariant-loop decreases-loop
cast-result-2 c = record { fits = shift_small c.before.loop-i.i (omega arith) 64 (lit< tt) }

shr-result : tie.Need-overflow_shr-result invariant-loop decreases-loop
shr-result c = shift_small c.before.loop-i.i (omega arith) 6 (lit< tt)

add-i : tie.Need-overflow_step-i invariant-loop decreases-loop
add-i c = omega arith

loop-less : tie.Need-loop-i-smaller invariant-loop decreases-loop
loop-less c = omega arith

loop-again : tie.Need-loop-i-preserved invariant-loop decreases-loop
unfolding move_to
loop-again c =
    let at = c.before.loop-i in
    let i : ℕ = at.i in
    let l : List ℕ = c.before.before.args.landed in
    let b : ℕ = c.before.before.args.bits in (
      omega arith,
      ap (λ (k : ℕ). move 64 k (get_or l i 0) at.result) (shift_is i (omega arith)) ∙ ap (move 64 (2 ^ i) (get_or l i 0)) at.invariant.1
          ∙ ap (λ (n : ℕ). move_to 64 l n b) (sym (add-one i)),
    )

returns : tie.Need-returns invariant-loop decreases-loop
returns c =
    let at = c.before.loop-i in
    let e : at.i ≡ 3 = omega arith in
    at.invariant.1 ∙ ap (λ (n : ℕ). move_to 64 c.before.before.args.landed n c.before.before.args.bits) e

pub pack_spec : {M : Type 1} → statement M
pack_spec =
    tie.close
    (tie.spec
    invariant-loop
    decreases-loop
    loop-holds
    mul-l
    array-read-l
    cast-shift
    shl-shift
    cast-result
    shl-result
    cast-result-2
    shr-result
    add-i
    loop-less
    loop-again
    returns)
