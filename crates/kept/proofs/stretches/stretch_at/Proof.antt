-- `kept::stretches::stretch_at` meets its contract: past the last run, before the next, or in it.
-- By the laws of ranks that are alike. Assumes nothing.
use Prim.Native.Nat.{ℕ, ◌+◌, ◌<◌}
use mathlib.Core.Path.{refl}
use mathlib.Core.List.{List}
use native.Mathlib.Omega.{arith}
use lib.ListN.{length}
use Rattle.rows.proofs.RunTurnLaws.{NextRun}
use Rattle.kept.proofs.AlikeLaws.{stretch_end, stretch_run, stretch_before, stretch_in}
use borrow.Author.Rules.{rules}
use Rattle.kept.proofs.stretches.stretch_at.Statement.{statement}
use Rattle.kept.proofs.stretches.stretch_at.Tie as tie

-- ---- the places, each from the one after it

abbrev left : tie.After-struct_known-1 → tie.Else-next-ranks
left c = c.before.before

abbrev start : tie.Else-rank-first → tie.Start
start c = (left c.before).before

abbrev past : tie.After-struct_known-3-1 → tie.Else-rank-first
past c = c.before.before.before.before

-- ---- a run is left

module _ (c : tie.Else-next-ranks) where
  abbrev s : tie.Start
  s = c.before

  abbrev runs : List ℕ
  runs = s.args.ranks.now

  some : s.args.next < length runs
  some = c.if-next-ranks.false

  run : NextRun 0 1048576 s.args.next runs
  run = stretch_run runs s.args.next s.args.rank.0 s.requires some

-- ---- the answers

returns : tie.Need-returns-then-next-ranks
returns c =
    let a = c.before.args in
    stretch_end a.ranks.now a.next a.rank.0 c.before.requires 1048576 c.if-next-ranks.true

mul-first : tie.Need-offset_bounds-ranks-next
mul-first c = search rules

shared-slice-read-first : tie.Need-bounds-ranks-next
shared-slice-read-first c = search rules

cast-first : tie.Need-overflow_cast-first
cast-first c = omega (arith, c.shared_slice_known-1.given c.before.before.args.next)

sub-most : tie.Need-overflow_sub-most
sub-most c = search rules

returns-2 : tie.Need-returns-then-rank-first
returns-2 c =
    let l = left c.before.before in
    let a = (s l).args in
    stretch_before (runs l) a.next a.rank.0 (s l).requires (some l)

add-past : tie.Need-overflow_add-past
add-past c = omega (arith, (run (left c.before)).pair)

mul-past : tie.Need-offset_bounds-ranks-next-2
mul-past c = omega (arith, (run (left c.before)).pair)

shared-slice-read-past : tie.Need-bounds-ranks-next-2
shared-slice-read-past c = (run (left c.before.before)).pair

cast-past : tie.Need-overflow_cast-past
cast-past c = omega (arith, c.shared_slice_known-2-1.given ((start c.before).args.next + 1))

returns-3 : tie.Need-returns-then-past-rank
returns-3 c = refl

returns-4 : tie.Need-returns
returns-4 c =
    let e = past c in
    let l = left e.before in
    let a = (s l).args in
    stretch_in (runs l) a.next a.rank.0 (s l).requires (some l) e.if-rank-first.false

pub stretch_at_spec : {M : Type 1} → statement M
stretch_at_spec =
    tie.close
    (tie.spec
    returns
    mul-first
    shared-slice-read-first
    cast-first
    sub-most
    returns-2
    add-past
    mul-past
    shared-slice-read-past
    cast-past
    returns-3
    returns-4)
