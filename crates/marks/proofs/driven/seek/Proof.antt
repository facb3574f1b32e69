-- `marks::driven::seek` meets its contract.
-- The invariant: the place tells the rank of the first row not passed, and the rank sought is not below it. Assumes nothing.
use Prim.Native.Nat.{◌+◌, ◌-◌, ◌≤◌, ◌<◌}
use mathlib.Core.Path.{◌≡◌}
use native.Mathlib.Omega.{arith}
use borrow.Author.Rules.{rules}
use lib.Count.{ones}
use Rattle.rows.specs.Rows.{count}
use Rattle.rows.specs.Words.{view}
use Rattle.books.specs.Chunks.{chunk_at}
use Rattle.marks.specs.Driven.{Walked}
use Rattle.marks.proofs.DrivenLaws.{chunk_count, chunk_few, rank_next, view_few, view_behind}
use Rattle.marks.proofs.driven.seek.Statement.{statement}
use Rattle.marks.proofs.driven.seek.Tie as tie

abbrev invariant-loop : tie.invariant-loop-place
invariant-loop words start len rank place₀ place = Walked (view start len words) place × (place.passed.0 ≤ rank.0)

abbrev decreases-loop : tie.decreases-loop-place
decreases-loop words start len rank place₀ place = len - place.done.0

loop-holds : tie.Need-loop-place-init invariant-loop decreases-loop
loop-holds c = search rules

-- the first row not passed is within
within : (c : tie.At-loop-place invariant-loop decreases-loop) → c.loop-place.place.done.0 < c.before.before.args.len
within c =
    let s = c.before.before in
    view_behind s.args.start s.args.len s.args.words.now s.requires.0.2 c.loop-place.place.done.0 s.args.rank.0 (omega (arith, c.loop-place.invariant.0)) s.requires.3

self-chunk-requires : tie.Need-self_chunk-requires invariant-loop decreases-loop
self-chunk-requires c κs = (c.requires.0.2, within c.before)

-- what its chunk has, and what that comes to: the next chunk's rank, which fits
module _ (c : tie.After-self_chunk invariant-loop decreases-loop) where
  abbrev start : tie.Start invariant-loop decreases-loop
  start = c.before.before.before.before

  counted : ones c.self_chunk.result ≡ count (chunk_at (view start.args.start start.args.len start.args.words.now) c.before.before.loop-place.place.done.0)
  counted = chunk_count (view start.args.start start.args.len start.args.words.now) c.before.before.loop-place.place.done.0 c.self_chunk.result c.self_chunk.ensures

  small : c.before.before.loop-place.place.passed.0 + ones c.self_chunk.result < 1048640
  small =
      let a = start.args in
      omega (arith, counted, chunk_few (view a.start a.len a.words.now) c.before.before.loop-place.place.done.0, view_few a.start a.len a.words.now start.requires.0.2)

cast-count : tie.Need-overflow_cast-count invariant-loop decreases-loop
cast-count c = omega (arith, small c)

add-if1 : tie.Need-overflow_add-place invariant-loop decreases-loop
add-if1 c = omega (arith, small c.before)

returns : tie.Need-returns-then-rank-place invariant-loop decreases-loop
returns c =
    let k = c.before.before.before in
    record { walked = k.before.before.loop-place.invariant.0; reached = k.before.before.loop-place.invariant.1; held = omega (arith, counted k) }

add-t8 : tie.Need-overflow_add-place-in-loop-place invariant-loop decreases-loop
add-t8 c = omega (arith, within c.before.before.before.before.before.before)

add-t12 : tie.Need-overflow_add-place-in-loop-place-2 invariant-loop decreases-loop
add-t12 c = omega (arith, small c.before.before.before.before.before)

loop-less : tie.Need-loop-place-smaller invariant-loop decreases-loop
loop-less c = omega (arith, within c.before.before.before.before.before.before.before)

loop-again : tie.Need-loop-place-preserved invariant-loop decreases-loop
loop-again c =
    let k = c.before.before.before.before.before in
    let a = (start k).args in
    let l = k.before.before.loop-place in
    (omega (arith, l.invariant.0, counted k, rank_next (view a.start a.len a.words.now) l.place.done.0), omega arith)

pub seek_spec : {M : Type 1} → statement M
seek_spec =
    tie.close
    (tie.spec
    invariant-loop
    decreases-loop
    loop-holds
    self-chunk-requires
    cast-count
    add-if1
    returns
    add-t8
    add-t12
    loop-less
    loop-again)
