-- `mask::inner::runs::write_whole` meets its contract: a run is its first row and the row past its last, stored one after the other.
-- By the one run of rows that are all set. Assumes nothing.
use Prim.Native.Nat.{◌<◌, ◌≤◌}
use mathlib.Core.Path.{sym, ap, ◌∙◌}
use native.Mathlib.Omega.{arith}
use lib.ListN.{length, length-set}
use Rattle.rows.specs.Rows.{splice}
use Rattle.rows.proofs.SpliceLaws.{splice_nil}
use Rattle.turns.proofs.ListTurnLaws.{two_written}
use Rattle.mask.proofs.RunOutLaws.{whole_run, whole_none}
use borrow.Author.Rules.{rules}
use Rattle.mask.proofs.inner.runs.write_whole.Statement.{statement}
use Rattle.mask.proofs.inner.runs.write_whole.Tie as tie

-- ---- where there are rows: room for two numbers

module _ (c : tie.Else-n-eq0) where
  some : 0 < c.before.args.n
  some = omega (arith, c.if-n-eq0.false)

  room : 2 ≤ length c.before.args.out.now
  room = omega (arith, ap length (whole_run c.before.args.n some), c.before.requires.1)

-- ---- the answers

returns : tie.Need-returns-then-n-eq0
returns c =
    let s = c.before in
    sym (ap (splice 0 s.args.out.now) (whole_none s.args.n c.if-n-eq0.true) ∙ splice_nil 0 s.args.out.now)

slice-write-out : tie.Need-bounds-out-0
slice-write-out c = omega (arith, room c)

cast-out : tie.Need-overflow_cast-out
cast-out c = search rules

slice-write-out-2 : tie.Need-bounds-out-1
slice-write-out-2 c = omega (arith, room c, length-set c.before.args.out.now 0 0)

same_length : tie.Need-shape_of-out
same_length c = search rules

returns-2 : tie.Need-returns
returns-2 c =
    let s = c.before in
    let out = s.args.out.now in
    sym (ap (splice 0 out) (whole_run s.args.n (some c)) ∙ two_written 0 0 s.args.n out (omega (arith, room c)))

pub write_whole_spec : {M : Type 1} → statement M
write_whole_spec = tie.close (tie.spec returns slice-write-out cast-out slice-write-out-2 same_length returns-2)
