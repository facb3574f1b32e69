-- `word::forms::extract_two_lowest` meets its contract: the lowest set digit of the mask gives the lowest digit, and no third is there.
-- By the law of a mask of at most two set digits. Assumes nothing.
use Rattle.std.proofs.Common.{◌≡◌, ℕ, ◌*◌, ◌%◌, ◌^◌, ◌<◌, min, sym, ap, ◌∙◌, ap₂, arith, rules}
use lib.Bits.{bit_and, bit_or, bit_xor, or_shifted_r}
use Rattle.network.specs.Lowest.{lowest_set, without_lowest}
use Rattle.network.proofs.LowestLaws.{xor_low}
use Rattle.network.proofs.CollectedLaws.{two_collected, pext_collected}
use Rattle.word.proofs.forms.extract_two_lowest.Statement.{statement}
use Rattle.word.proofs.forms.extract_two_lowest.Tie as tie

lowest-requires : tie.Need-lowest-first-requires
lowest-requires c κs = search rules

any-requires : tie.Need-any-requires
any-requires c κs = search rules

any-requires-2 : tie.Need-any-requires-2
any-requires-2 c κs = search rules

returns : tie.Need-returns
returns c =
    let start = c.before.before.before in
    let s : ℕ = start.args.source in
    let m : ℕ = start.args.mask in
    let h : m < 2 ^ 64 = start.ranges.mask.fits in
    let first : c.before.before.lowest-first.result ≡ lowest_set 64 m = c.before.before.lowest-first.ensures in
    let second : bit_xor m c.before.before.lowest-first.result ≡ without_lowest 64 m = ap (bit_xor m) first ∙ xor_low 64 m h in
    let a : c.before.any.result ≡ min (bit_and s (lowest_set 64 m)) 1 = c.before.any.ensures ∙ ap (λ (n : ℕ). min (bit_and s n) 1) first in
    let b : c.any-2.result ≡ min (bit_and s (without_lowest 64 m)) 1 = c.any-2.ensures ∙ ap (λ (n : ℕ). min (bit_and s n) 1) second in
    let up : (c.any-2.result * 2) % 2 ^ 64 ≡ min (bit_and s (without_lowest 64 m)) 1 * 2 = omega arith in
    ap₂ bit_or a up ∙ or_shifted_r (min (bit_and s (without_lowest 64 m)) 1) 1 (min (bit_and s (lowest_set 64 m)) 1) (omega arith)
    ∙ two_collected 64 s m h start.requires ∙ sym (pext_collected 64 s m)

pub extract_two_lowest_spec : {M : Type 1} → statement M
extract_two_lowest_spec = tie.close (tie.spec lowest-requires any-requires any-requires-2 returns)
