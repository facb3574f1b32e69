-- The network choice and the loop form deposit alike: whatever their contracts allow. Both contracts cite the published PDEP.
-- Assumes nothing.
use mathlib.Core.Path.{◌≡◌, sym, ◌∙◌}
use contract.Lifetimes.{Lfts}
use borrow.Fn.Kinds.{Dens, res_t, ended_of}
use denote.Triple.Clauses.{Lasts, at_exit}
use Rattle.word.proofs.inner.deposit_portable.Kinds as network-kinds
use Rattle.word.proofs.inner.deposit_portable.Reads as network
use Rattle.word.proofs.inner.deposit_portable_loop.Kinds as loop-kinds
use Rattle.word.proofs.inner.deposit_portable_loop.Reads as loop

-- whatever the contract of the network choice allows and whatever that of the loop form allows, at the same source, mask and
-- count, are the same word
pub two_ways_agree : (κs : Lfts 0) (a : Dens κs network-kinds.ps) (x y : (res_t network-kinds.r κs).Denot)
    (v : Lasts (ended_of 0 network-kinds.ps network-kinds.r) κs a) (w : Lasts (ended_of 0 loop-kinds.ps loop-kinds.r) κs a)
    → network.Post κs a x (at_exit (ended_of 0 network-kinds.ps network-kinds.r) κs a v)
    → loop.Post κs a y (at_exit (ended_of 0 loop-kinds.ps loop-kinds.r) κs a w)
    → x ≡ y
two_ways_agree κs a x y v w hx hy = hx ∙ sym hy
