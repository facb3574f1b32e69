-- `word::forms::deposit_two_lowest` meets its contract: two set digits are peeled off the mask, and no third is there. Assumes nothing.
use Rattle.std.proofs.Common.{◌≡◌, ℕ, ◌*◌, ◌/◌, ◌%◌, ◌^◌, ◌<◌, sym, ap, ◌∙◌, ap₂, rules}
use lib.Bits.{bit_or, bit_xor}
use Rattle.network.specs.Lowest.{lowest_set, without_lowest}
use Rattle.network.proofs.LowestLaws.{xor_low}
use Rattle.network.proofs.DealtLaws.{two_lowest, pdep_dealt}
use Rattle.word.proofs.forms.deposit_two_lowest.Statement.{statement}
use Rattle.word.proofs.forms.deposit_two_lowest.Tie as tie

lowest-requires : tie.Need-lowest-first-requires
lowest-requires c κs = search rules

lowest-requires-2 : tie.Need-lowest-second-requires
lowest-requires-2 c κs = search rules

if-odd-requires : tie.Need-if_odd-requires
if-odd-requires c κs = search rules

if-odd-requires-2 : tie.Need-if_odd-requires-2
if-odd-requires-2 c κs = search rules

returns : tie.Need-returns
returns c =
    let start = c.before.before.before.before in
    let s : ℕ = start.args.source in
    let m : ℕ = start.args.mask in
    let h : m < 2 ^ 64 = start.ranges.mask.fits in
    let first : c.before.before.before.lowest-first.result ≡ lowest_set 64 m = c.before.before.before.lowest-first.ensures in
    let second : c.before.before.lowest-second.result ≡ lowest_set 64 (without_lowest 64 m) =
    c.before.before.lowest-second.ensures ∙ ap (lowest_set 64) (ap (bit_xor m) first ∙ xor_low 64 m h) in
    ap₂ bit_or (c.before.if_odd.ensures ∙ ap (λ (x : ℕ). x * (s % 2)) first) (c.if_odd-2.ensures ∙ ap (λ (x : ℕ). x * (s / 2 % 2)) second)
    ∙ two_lowest 64 s m h start.requires ∙ sym (pdep_dealt 64 s m)

pub deposit_two_lowest_spec : {M : Type 1} → statement M
deposit_two_lowest_spec =
    tie.close
    (tie.spec lowest-requires lowest-requires-2 if-odd-requires if-odd-requires-2 returns)
