-- `word::inner::deposit_portable_loop` meets its contract. The invariant: what is deposited, with the deposit of what is left, is the whole. The measure is the mask.
-- Assumes nothing.
use Rattle.std.proofs.Common.{◌≡◌, ℕ, ◌-◌, ◌*◌, ◌/◌, ◌%◌, ◌^◌, ◌<◌, sym, ap, ◌∙◌, lt_of_le_of_lt, arith, rules}
use lib.Bits.{bit_and, bit_or, and_le_l, and_le_r, or_zero_r}
use Rattle.rows.specs.Pdep.{pdep}
use Rattle.network.specs.Lowest.{lowest_set}
use Rattle.network.proofs.DealtLaws.{dealt, pdep_dealt, turn, dealt_no_mask, dealt_no_source}
use Rattle.word.proofs.inner.deposit_portable_loop.Statement.{statement}
use Rattle.word.proofs.inner.deposit_portable_loop.Tie as tie

abbrev invariant-loop : tie.invariant-loop-m
invariant-loop source mask count s₀ m₀ result₀ s m result = (m < 2 ^ 64) × (bit_or result (dealt 64 s m) ≡ pdep 64 source mask)

abbrev decreases-loop : tie.decreases-loop-m
decreases-loop source mask count s₀ m₀ result₀ s m result = m

deposit-two-lowest-requires : tie.Need-deposit_two_lowest-requires invariant-loop decreases-loop
deposit-two-lowest-requires c κs = omega arith

returns : tie.Need-returns-then-count-le2 invariant-loop decreases-loop
returns c = c.deposit_two_lowest.ensures

loop-holds : tie.Need-loop-m-init invariant-loop decreases-loop
loop-holds c = (c.before.ranges.mask.fits, sym (pdep_dealt 64 c.before.args.source c.before.args.mask))

lowest-requires : tie.Need-lowest-requires invariant-loop decreases-loop
lowest-requires c κs = search rules

if-odd-requires : tie.Need-if_odd-result-requires invariant-loop decreases-loop
if-odd-requires c κs = search rules

sub-m : tie.Need-overflow_sub-m invariant-loop decreases-loop
sub-m c = omega arith

loop-less : tie.Need-loop-m-smaller invariant-loop decreases-loop
loop-less c = let m : ℕ = c.before.before.before.before.loop-m.m in omega (arith, and_le_r m (m - 1))

loop-again : tie.Need-loop-m-preserved invariant-loop decreases-loop
loop-again c =
    let at = c.before.before.before.before.loop-m in
    let m : ℕ = at.m in
    let s : ℕ = at.s in
    let new : c.if_odd-result.result ≡ lowest_set 64 m * (s % 2) = c.if_odd-result.ensures ∙ ap (λ (x : ℕ). x * (s % 2)) c.before.lowest.ensures in (
      lt_of_le_of_lt (and_le_l m (m - 1)) at.invariant.0,
      ap (λ (x : ℕ). bit_or (bit_or at.result x) (dealt 64 (s / 2) (bit_and m (m - 1)))) new ∙ turn 64 at.result s m at.invariant.0 (omega arith) ∙ at.invariant.1,
    )

returns-2 : tie.Need-returns-else-s-ne0 invariant-loop decreases-loop
returns-2 c =
    let at = c.before.before.loop-m in
    sym (or_zero_r at.result) ∙ ap (bit_or at.result) (sym (ap (λ (x : ℕ). dealt 64 x at.m) c.if-s-ne0.false ∙ dealt_no_source 64 at.m)) ∙ at.invariant.1

returns-3 : tie.Need-returns-after-loop-m invariant-loop decreases-loop
returns-3 c =
    let at = c.before.loop-m in
    sym (or_zero_r at.result) ∙ ap (bit_or at.result) (sym (ap (dealt 64 at.s) c.loop-m-test.false ∙ dealt_no_mask 64 at.s)) ∙ at.invariant.1

pub deposit_portable_loop_spec : {M : Type 1} → statement M
deposit_portable_loop_spec =
    tie.close
    (tie.spec
    invariant-loop
    decreases-loop
    deposit-two-lowest-requires
    returns
    loop-holds
    lowest-requires
    if-odd-requires
    sub-m
    loop-less
    loop-again
    returns-2
    returns-3)
