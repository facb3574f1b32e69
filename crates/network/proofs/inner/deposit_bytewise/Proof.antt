-- `network::inner::deposit_bytewise` meets its contract: each byte takes its source bits from the rank below it, and the network
-- spreads them. Assumes nothing.
use Rattle.std.proofs.Common.{◌≡◌, ℕ, ◌*◌, ◌/◌, ◌%◌, ◌^◌, ◌<◌, List, sym, ap, ◌∙◌, subst, ap₂, arith, rules}
use lib.Bits.{bit_and}
use Rattle.network.specs.Lanes.{gathered, undo_from}
use Rattle.network.proofs.GatherLaws.{before_small, lows}
use Rattle.network.proofs.Bytewise.{low_is, bytewise}
use Rattle.network.proofs.inner.deposit_bytewise.Statement.{statement}
use Rattle.network.proofs.inner.deposit_bytewise.Tie as tie

below-requires : tie.Need-below-requires
below-requires c κs = search rules

gather-requires : tie.Need-gather-low-requires
gather-requires c κs = λ j. subst (λ (n : ℕ). n / 2 ^ (8 * j) % 256 < 64) (sym c.below.ensures) (before_small 8 0 c.before.args.mask (omega arith) j)

compress-requires : tie.Need-compress-p-requires
compress-requires c κs = search rules

spread-requires : tie.Need-spread-requires
spread-requires c κs = search rules

returns : tie.Need-returns
returns c =
    let at = c.before.before.before in
    let start = at.before.before.before in
    let m : ℕ = start.args.mask in
    let s : ℕ = start.args.source in
    let g : at.before.gather-low.result ≡ lows 8 s m = at.before.gather-low.ensures ∙ ap (gathered 8 s) at.before.before.below.ensures ∙ low_is s m in
    let p = at.compress-p in
    ap (λ (n : ℕ). bit_and n m)
    (c.spread.ensures
    ∙ ap₂ (λ (l : List ℕ) (n : ℕ). undo_from 64 l 3 (bit_and at.before.gather-low.result n)) p.ensures.1 p.ensures.0)
    ∙ bytewise s m at.before.gather-low.result start.ranges.mask.fits g

pub deposit_bytewise_spec : {M : Type 1} → statement M
deposit_bytewise_spec =
    tie.close (tie.spec below-requires gather-requires compress-requires spread-requires returns)
