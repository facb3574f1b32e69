-- `network::lanes::compress` meets its contract. The invariant: the stages so far, byte by byte. Assumes nothing.
use Rattle.std.proofs.Common.{◌≡◌, ℕ, ◌-◌, ◌*◌, ◌%◌, ◌^◌, ◌<◌, ◌≤◌, List, [], ◌∷◌, length, get_or, set, sym, refl, ap, ◌∙◌, subst, ap₂, ⊎_elim, le_of_suc-le-suc, eq-or-lt_of_le, add-one, arith, length-set, get_or-set_other, get_or-set_same}
use Rattle.network.specs.Lanes.{each, each2, zeros_at, packed_at, landed_at, zeros8, packed8, landed8}
use Rattle.network.proofs.NetworkLaws.{Length, zeros_next, packed_next, landed_next, zeros_start, packed_start, shift_is, shift_length}
use Rattle.network.proofs.lanes.compress.Statement.{statement}
use Rattle.network.proofs.lanes.compress.Tie as tie

of_three : (l : List ℕ) → length l ≡ 3 → (x y z : ℕ) → get_or l 0 0 ≡ x → get_or l 1 0 ≡ y → get_or l 2 0 ≡ z → l ≡ x ∷ y ∷ z ∷ []
of_three [] h x y z p q r = absurd (omega arith)
of_three (a ∷ []) h x y z p q r = absurd (omega arith)
of_three (a ∷ b ∷ []) h x y z p q r = absurd (omega arith)
of_three (a ∷ b ∷ d ∷ []) h x y z p q r = cc
of_three (a ∷ b ∷ d ∷ e ∷ l) h x y z p q r = absurd (omega arith)

abbrev invariant-loop : tie.invariant-loop-i
invariant-loop mask packed₀ zeros₀ landed₀ i₀ packed zeros landed i =
    (i ≤ 3) × (packed ≡ each (packed_at i) 8 mask) × (zeros ≡ each (zeros_at i) 8 mask) × (length landed ≡ 3)
    × ((k : ℕ) → k < i → get_or landed k 0 ≡ each (landed_at k) 8 mask)

abbrev decreases-loop : tie.decreases-loop-i
decreases-loop mask packed₀ zeros₀ landed₀ i₀ packed zeros landed i = 3 - i

loop-holds : tie.Need-loop-i-init invariant-loop decreases-loop
loop-holds c = (omega arith, packed_start c.args.mask c.ranges.mask.fits, zeros_start c.args.mask c.ranges.mask.fits, refl, λ k h. absurd (omega arith))

cast-one-stage : tie.Need-overflow_cast-i invariant-loop decreases-loop
cast-one-stage c = omega arith

shl-one-stage : tie.Need-overflow_shl-i invariant-loop decreases-loop
shl-one-stage c = omega arith

one-stage-requires : tie.Need-one_stage-s-requires invariant-loop decreases-loop
one-stage-requires c κs =
    let i : ℕ = c.before.loop-i.i in
    subst (λ (n : ℕ). Length n) (sym (shift_is i (omega arith))) (shift_length i (omega arith))

mul-landed : tie.Need-offset_bounds-landed-i invariant-loop decreases-loop
mul-landed c = omega arith

array-write-landed : tie.Need-bounds-landed-i invariant-loop decreases-loop
array-write-landed c = omega arith

add-i : tie.Need-overflow_step-i invariant-loop decreases-loop
add-i c = omega arith

loop-less : tie.Need-loop-i-smaller invariant-loop decreases-loop
loop-less c = omega arith

loop-again : tie.Need-loop-i-preserved invariant-loop decreases-loop
loop-again c =
    let at = c.before.before.loop-i in
    let i : ℕ = at.i in
    let m : ℕ = c.before.before.before.args.mask in
    let s : ℕ = (1 * 2 ^ i) % 2 ^ 32 in
    let e : s ≡ 2 ^ i = shift_is i (omega arith) in
    let l : c.one_stage-s.result.landed ≡ each (landed_at i) 8 m =
    c.one_stage-s.ensures.2 ∙ ap (λ (n : ℕ). each2 (landed8 n) 8 at.zeros at.packed) e ∙ ap₂ (λ (u v : ℕ). each2 (landed8 (2 ^ i)) 8 u v) at.invariant.2 at.invariant.1 ∙ landed_next i m in (
      omega arith,
      c.one_stage-s.ensures.1 ∙ ap (λ (n : ℕ). each2 (packed8 n) 8 at.zeros at.packed) e ∙ ap₂ (λ (u v : ℕ). each2 (packed8 (2 ^ i)) 8 u v) at.invariant.2 at.invariant.1
          ∙ packed_next i m ∙ ap (λ (n : ℕ). each (packed_at n) 8 m) (sym (add-one i)),
      c.one_stage-s.ensures.0 ∙ ap (λ (n : ℕ). each (zeros8 n) 8 at.zeros) e ∙ ap (each (zeros8 (2 ^ i)) 8) at.invariant.2 ∙ zeros_next i m ∙ ap (λ (n : ℕ). each (zeros_at n) 8 m) (sym (add-one i)),
      length-set at.landed i c.one_stage-s.result.landed ∙ at.invariant.3,
      λ k h. ⊎_elim
          (λ (q : k ≡ i).
          ap (λ (n : ℕ). get_or (set at.landed i c.one_stage-s.result.landed) n 0) q ∙ get_or-set_same at.landed i c.one_stage-s.result.landed 0 (omega arith) ∙ l
          ∙ ap (λ (n : ℕ). each (landed_at n) 8 m) (sym q))
          (λ (q : k < i). get_or-set_other at.landed i k c.one_stage-s.result.landed 0 (λ (b : k ≡ i). omega arith) ∙ at.invariant.4 k q) (eq-or-lt_of_le (le_of_suc-le-suc (omega arith))),
    )

returns : tie.Need-returns invariant-loop decreases-loop
returns c =
    let at = c.before.loop-i in
    let m : ℕ = c.before.before.args.mask in
    let three : at.i ≡ 3 = omega arith in (
      at.invariant.1 ∙ ap (λ (n : ℕ). each (packed_at n) 8 m) three,
      of_three at.landed at.invariant.3 (each (landed_at 0) 8 m) (each (landed_at 1) 8 m) (each (landed_at 2) 8 m) (at.invariant.4 0 (omega arith)) (at.invariant.4 1 (omega arith)) (at.invariant.4 2 (omega arith)),
    )

pub compress_spec : {M : Type 1} → statement M
compress_spec =
    tie.close
    (tie.spec
    invariant-loop
    decreases-loop
    loop-holds
    cast-one-stage
    shl-one-stage
    one-stage-requires
    mul-landed
    array-write-landed
    add-i
    loop-less
    loop-again
    returns)
