-- `marks::driven::mark_chunk` meets its contract.
-- The invariant: the ranks that the rest of the chunk sets are left. Assumes nothing.
use Prim.Native.Nat.{ℕ, ◌+◌, ◌-◌, ◌≤◌, ◌<◌, ◌^◌}
use mathlib.Core.Path.{◌≡◌, refl, sym, ap, ◌∙◌}
use mathlib.Core.Bool.{Bool, true}
use mathlib.Core.List.{List, [], ◌∷◌, map}
use native.Mathlib.Omega.{arith}
use borrow.Author.Rules.{rules}
use lib.ListN.{length}
use lib.Bits.{bit_and, and_le_l}
use lib.Count.{count_trailing_zeros, trailing_le}
use Rattle.rows.specs.Rows.{count}
use Rattle.rows.specs.Word.{bits_of}
use Rattle.rows.specs.Words.{view}
use Rattle.rows.specs.Lists.{set_rows, select}
use Rattle.rows.specs.Laid.{marked}
use Rattle.rows.proofs.LaidLaws.{laid_length}
use Rattle.rows.proofs.ClearLaws.{rows_low, count_low}
use Rattle.rows.proofs.PartLaws.{rows_zero}
use Rattle.marks.proofs.DrivenLaws.{view_few, Left, left_turn}
use Rattle.marks.proofs.driven.mark_chunk.Statement.{statement}
use Rattle.marks.proofs.driven.mark_chunk.Tie as tie

abbrev invariant-loop : tie.invariant-loop-rest
invariant-loop words start len chunk base at out₀ place₀ rest₀ out place rest =
    (rest < 2 ^ 64) × (length out ≡ length out₀) × (place.passed.0 ≤ base.0 + 64)
    × Left (view start len words) at place (set_rows base.0 (bits_of 64 rest)) out
    (marked at (map (select (view start len words)) (set_rows base.0 (bits_of 64 chunk))) out₀)

abbrev decreases-loop : tie.decreases-loop-rest
decreases-loop words start len chunk base at out₀ place₀ rest₀ out place rest = count (bits_of 64 rest)

-- ---- the places, each from the one after it

abbrev entry : tie.After-slice_known-1 invariant-loop decreases-loop → tie.Start invariant-loop decreases-loop
entry c = c.before.before

abbrev head : tie.In-loop-rest invariant-loop decreases-loop → tie.At-loop-rest invariant-loop decreases-loop
head c = c.before

abbrev start : tie.In-loop-rest invariant-loop decreases-loop → tie.Start invariant-loop decreases-loop
start c = entry (head c).before

abbrev turn : tie.After-struct_known-1 invariant-loop decreases-loop → tie.In-loop-rest invariant-loop decreases-loop
turn c = c.before

abbrev named : tie.After-mark_rank-place invariant-loop decreases-loop → tie.After-struct_known-1 invariant-loop decreases-loop
named c = c.before.before

abbrev back : tie.After-slice_known-in-loop-rest-1 invariant-loop decreases-loop → tie.After-mark_rank-place invariant-loop decreases-loop
back c = c.before.before

abbrev last : tie.After-loop-rest invariant-loop decreases-loop → tie.At-loop-rest invariant-loop decreases-loop
last c = c.before

-- ---- a turn: the lowest rank of the rest is the first that is left

module _ (c : tie.In-loop-rest invariant-loop decreases-loop) where
  abbrev self : List Bool
  self = view (start c).args.start (start c).args.len (start c).args.words.now

  abbrev base : ℕ
  base = (start c).args.base.0

  abbrev rest : ℕ
  rest = (head c).loop-rest.rest

  abbrev lowest : ℕ
  lowest = base + count_trailing_zeros 64 rest

  abbrev others : List ℕ
  others = set_rows base (bits_of 64 (bit_and rest (rest - 1)))

  -- the output once all ranks of the chunk are marked
  abbrev goal : List ℕ
  goal = marked (start c).args.at (map (select self) (set_rows base (bits_of 64 (start c).args.chunk))) (start c).args.out.now

  left : Left self (start c).args.at (head c).loop-rest.place (lowest ∷ others) (head c).loop-rest.out goal
  left = rw (rows_low base 64 rest (omega arith) (head c).loop-rest.invariant.0) at (head c).loop-rest.invariant.3

-- ---- the answers

loop-holds : tie.Need-loop-rest-init invariant-loop decreases-loop
loop-holds c =
    let s = entry c in
    (s.ranges.chunk.fits, refl, omega arith, record { walked = s.requires.2; ahead = s.requires.4; marks = refl })

cast-bit : tie.Need-overflow_cast-bit invariant-loop decreases-loop
cast-bit c = omega (arith, trailing_le 64 (rest c))

add-rest : tie.Need-overflow_add-rank invariant-loop decreases-loop
add-rest c =
    let s = start (turn c) in
    omega (arith, (left (turn c)).ahead.1, view_few s.args.start s.args.len s.args.words.now s.requires.0.2)

mark-rank-requires : tie.Need-mark_rank-place-requires invariant-loop decreases-loop
mark-rank-requires c κs =
    let t = turn c.before in
    let s = start t in
    let ahead = (left t).ahead in
    (s.requires.0, (omega (arith, (head t).loop-rest.invariant.1, s.requires.1.0), s.requires.1.1), (left t).walked, ahead.0, ahead.1)

sub-rest : tie.Need-overflow_sub-rest invariant-loop decreases-loop
sub-rest c = search rules

loop-less : tie.Need-loop-rest-smaller invariant-loop decreases-loop
loop-less c =
    let t = turn (named (back c)) in
    omega (arith, count_low 64 (rest t) (omega arith) (head t).loop-rest.invariant.0)

loop-again : tie.Need-loop-rest-preserved invariant-loop decreases-loop
loop-again c =
    let m = (back c).mark_rank-place in
    let t = turn (named (back c)) in
    let a = (start t).args in
    let l = (head t).loop-rest in (
      omega (arith, and_le_l (rest t) (rest t - 1), l.invariant.0),
      ap length m.ensures.2 ∙ laid_length 64 (a.at + select (self t) (lowest t)) (true ∷ []) l.out ∙ l.invariant.1,
      omega (arith, m.ensures.1, trailing_le 64 (rest t)),
      left_turn (self t) a.at l.place m.result (lowest t) (others t) l.out _ (goal t) (left t) m.ensures.0 m.ensures.1 m.ensures.2,
    )

same_length : tie.Need-shape_of-out invariant-loop decreases-loop
same_length c = search rules

returns : tie.Need-returns invariant-loop decreases-loop
returns c =
    let l = (last c).loop-rest in
    let a = (entry (last c).before).args in
    let b = a.base.0 in
    let f : ℕ → ℕ = select (view a.start a.len a.words.now) in
    let none : set_rows b (bits_of 64 l.rest) ≡ [] = ap (λ (x : ℕ). set_rows b (bits_of 64 x)) c.loop-rest-test.false ∙ rows_zero b 64 in
    (l.invariant.3.walked, l.invariant.2, sym (ap (λ (rs : List ℕ). marked a.at (map f rs) l.out) none) ∙ l.invariant.3.marks)

pub mark_chunk_spec : {M : Type 1} → statement M
mark_chunk_spec =
    tie.close
    (tie.spec
    invariant-loop
    decreases-loop
    loop-holds
    cast-bit
    add-rest
    mark-rank-requires
    sub-rest
    loop-less
    loop-again
    same_length
    returns)
