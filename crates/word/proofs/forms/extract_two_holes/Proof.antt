-- `word::forms::extract_two_holes` meets its contract: the holes are the mask's complement, so there are at most two.
-- By the law of at most two holes closed. Assumes nothing.
use Rattle.std.proofs.Common.{◌≡◌, ℕ, ◌+◌, ◌-◌, ◌^◌, sym, ap, ◌∙◌, ap₂, arith, rules}
use Rattle.network.specs.Lowest.{closed}
use Rattle.network.proofs.CollectedLaws.{pext_collected}
use Rattle.word.proofs.HoleLaws.{ones_comp}
use Rattle.word.proofs.CloseLaws.{two_closed}
use Rattle.word.proofs.forms.extract_two_holes.Statement.{statement}
use Rattle.word.proofs.forms.extract_two_holes.Tie as tie

close-hole-requires : tie.Need-close_hole-once-requires
close-hole-requires c κs = search rules

close-hole-requires-2 : tie.Need-close_hole-twice-requires
close-hole-requires-2 c κs = search rules

returns : tie.Need-returns
returns c =
    let once = c.before.close_hole-once in
    let start = c.before.before in
    let m : ℕ = start.args.mask in
    let s : ℕ = start.args.source in
    let h : ℕ = 2 ^ 64 - 1 - m in
    let e : m + h + 1 ≡ 2 ^ 64 = omega (arith, start.ranges.mask.fits) in
    ap (λ r. r.source) c.close_hole-twice.ensures
    ∙ ap₂ (closed 64) (ap (λ r. r.holes) once.ensures) (ap (λ r. r.source) once.ensures)
    ∙ two_closed 64 s m h e (omega (arith, ones_comp 64 m h e, start.requires)) start.ranges.source.fits ∙ sym (pext_collected 64 s m)

pub extract_two_holes_spec : {M : Type 1} → statement M
extract_two_holes_spec = tie.close (tie.spec close-hole-requires close-hole-requires-2 returns)
