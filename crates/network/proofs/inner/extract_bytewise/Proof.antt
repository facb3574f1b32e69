-- `network::inner::extract_bytewise` meets its contract: the network packs each byte's bits, and each byte goes to the rank below it.
-- By the law of the stages done on each byte, and of the bytes joined. Assumes nothing.
use Rattle.std.proofs.Common.{ℕ, ◌*◌, ◌/◌, ◌%◌, ◌^◌, ◌<◌, List, sym, ap, ◌∙◌, subst, ap₂, arith, rules}
use lib.Bits.{bit_and}
use Rattle.network.specs.Lanes.{joined, move_to}
use Rattle.network.proofs.GatherLaws.{before_small}
use Rattle.network.proofs.BytewiseBack.{bytewise_back}
use Rattle.network.proofs.inner.extract_bytewise.Statement.{statement}
use Rattle.network.proofs.inner.extract_bytewise.Tie as tie

-- ---- the places
abbrev compressed : tie.After-pack → tie.After-compress-p
compressed c = c.before.before

abbrev start : tie.After-pack → tie.Start
start c = (compressed c).before

-- ---- the answers
compress-requires : tie.Need-compress-p-requires
compress-requires c κs = search rules

pack-requires : tie.Need-pack-requires
pack-requires c κs = search rules

below-requires : tie.Need-below-requires
below-requires c κs = search rules

join-requires : tie.Need-join-requires
join-requires c κs =
    λ j. subst (λ (n : ℕ). n / 2 ^ (8 * j) % 256 < 64) (sym c.below.ensures) (before_small 8 0 (start c.before).args.mask (omega arith) j)

returns : tie.Need-returns
returns c =
    let q = c.before.before in
    let s : ℕ = (start q).args.source in
    let m : ℕ = (start q).args.mask in
    let fits = (start q).ranges in
    c.join.ensures
    ∙ ap₂ (joined 64 8) (q.pack.ensures ∙ ap (λ (l : List ℕ). move_to 64 l 3 (bit_and s m)) (compressed q).compress-p.ensures.1) c.before.below.ensures
    ∙ bytewise_back s m fits.source.fits fits.mask.fits

pub extract_bytewise_spec : {M : Type 1} → statement M
extract_bytewise_spec = tie.close (tie.spec compress-requires pack-requires below-requires join-requires returns)
