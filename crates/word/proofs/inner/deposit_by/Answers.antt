-- `word::inner::deposit_by` meets its contract: a claimed count that is not the mask's is refused, and else a way deposits.
-- By the two lines of what deposit answers. Assumes nothing.
use Rattle.std.proofs.Common.{arith, sym, ap, ◌∙◌, Ok, Err}
use Rattle.rows.proofs.WordLaws.{count_bits}
use Rattle.rows.proofs.Theorems.{deposit_refused, deposit_answers}
use Rattle.word.proofs.inner.deposit_by.Goals as goal

pub returns-then-claimed-mask : goal.returns-then-claimed-mask
returns-then-claimed-mask c =
    let a = c.args in
    ap Err c.refusal.ensures
    ∙ sym (deposit_refused a.source a.mask a.claimed (λ h. omega (arith, count_bits 64 a.mask c.ranges.mask.fits)))

pub returns-in-Network : goal.returns-in-Network
returns-in-Network c =
    let a = c.args in
    ap Ok c.deposit_portable.ensures ∙ sym (deposit_answers a.source a.mask a.claimed (omega (arith, count_bits 64 a.mask c.ranges.mask.fits)))

pub returns-in-Loop : goal.returns-in-Loop
returns-in-Loop c =
    let a = c.args in
    ap Ok c.deposit_portable_loop.ensures ∙ sym (deposit_answers a.source a.mask a.claimed (omega (arith, count_bits 64 a.mask c.ranges.mask.fits)))
