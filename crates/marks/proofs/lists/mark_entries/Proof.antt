-- `marks::lists::mark_entries` meets its contract.
-- The invariant: the ranks that the rest of the chunk sets are left, and with their entries marked too all are. Assumes nothing.
use Prim.Native.Nat.{ℕ, ◌+◌, ◌-◌, ◌<◌, ◌^◌}
use mathlib.Core.Path.{◌≡◌, refl, sym, ap, ◌∙◌}
use mathlib.Core.Bool.{true}
use mathlib.Core.List.{List, [], ◌∷◌, map}
use native.Mathlib.Omega.{arith}
use lib.ListN.{length, get_or}
use lib.Bits.{bit_and, and_le_l}
use lib.Count.{count_trailing_zeros, trailing_le}
use Rattle.rows.specs.Rows.{count}
use Rattle.rows.specs.Word.{bits_of}
use Rattle.rows.specs.Words.{Below}
use Rattle.rows.specs.Lists.{set_rows}
use Rattle.rows.specs.Laid.{laid, marked}
use Rattle.rows.proofs.LaidLaws.{laid_length}
use Rattle.rows.proofs.MarkLaws.{below_at}
use Rattle.rows.proofs.ClearLaws.{rows_low, count_low}
use Rattle.rows.proofs.PartLaws.{rows_zero}
use borrow.Author.Rules.{rules}
use Rattle.marks.specs.Entries.{entries}
use Rattle.marks.proofs.EntryLaws.{entries_few}
use Rattle.marks.proofs.lists.mark_entries.Statement.{statement}
use Rattle.marks.proofs.lists.mark_entries.Tie as tie

abbrev invariant-loop : tie.invariant-loop-rest
invariant-loop rows numbers len chunk base at out₀ rest₀ out rest =
    (rest < 2 ^ 64) × (length out ≡ length out₀) × Below (length (entries numbers rows)) (set_rows base.0 (bits_of 64 rest))
    × (marked at (map (λ k. get_or (entries numbers rows) k 0) (set_rows base.0 (bits_of 64 rest))) out
    ≡ marked at (map (λ k. get_or (entries numbers rows) k 0) (set_rows base.0 (bits_of 64 chunk))) out₀)

abbrev decreases-loop : tie.decreases-loop-rest
decreases-loop rows numbers len chunk base at out₀ rest₀ out rest = count (bits_of 64 rest)

-- ---- the places, each from the one after it

abbrev lent : tie.After-slice_known-1 invariant-loop decreases-loop → tie.After-shared_slice_known-1 invariant-loop decreases-loop
lent c = c.before

abbrev entry : tie.After-slice_known-1 invariant-loop decreases-loop → tie.Start invariant-loop decreases-loop
entry c = (lent c).before

abbrev head : tie.In-loop-rest invariant-loop decreases-loop → tie.At-loop-rest invariant-loop decreases-loop
head c = c.before

abbrev start : tie.In-loop-rest invariant-loop decreases-loop → tie.Start invariant-loop decreases-loop
start c = entry (head c).before

abbrev turn : tie.After-struct_known-1 invariant-loop decreases-loop → tie.In-loop-rest invariant-loop decreases-loop
turn c = c.before

abbrev found : tie.After-mark_row invariant-loop decreases-loop → tie.After-entry_at-row invariant-loop decreases-loop
found c = c.before.before

abbrev back : tie.After-slice_known-in-loop-rest-1 invariant-loop decreases-loop → tie.After-mark_row invariant-loop decreases-loop
back c = c.before.before

abbrev last : tie.After-loop-rest invariant-loop decreases-loop → tie.At-loop-rest invariant-loop decreases-loop
last c = c.before

-- ---- a turn: the lowest rank of the rest has an entry, and so have the others

module _ (c : tie.In-loop-rest invariant-loop decreases-loop) where
  abbrev rows : List ℕ
  rows = entries (start c).args.numbers (start c).args.rows.now

  abbrev base : ℕ
  base = (start c).args.base.0

  abbrev rest : ℕ
  rest = (head c).loop-rest.rest

  abbrev lowest : ℕ
  lowest = base + count_trailing_zeros 64 rest

  abbrev others : List ℕ
  others = set_rows base (bits_of 64 (bit_and rest (rest - 1)))

  split : set_rows base (bits_of 64 rest) ≡ lowest ∷ others
  split = rows_low base 64 rest (omega arith) (head c).loop-rest.invariant.0

  below : (lowest < length rows) × Below (length rows) others
  below = rw split at (head c).loop-rest.invariant.2

  row : get_or rows lowest 0 < (start c).args.len
  row = below_at (start c).args.len rows lowest (start c).requires.0 below.0

-- ---- the answers

loop-holds : tie.Need-loop-rest-init invariant-loop decreases-loop
loop-holds c = ((entry c).ranges.chunk.fits, refl, (entry c).requires.2, refl)

cast-bit : tie.Need-overflow_cast-bit invariant-loop decreases-loop
cast-bit c = omega (arith, trailing_le 64 (rest c))

add-rest : tie.Need-overflow_add-rank invariant-loop decreases-loop
add-rest c =
    let t = turn c in
    let few = entries_few (start t).args.numbers (start t).args.rows.now in
    omega (arith, (below t).0, few, (lent (head t).before).shared_slice_known-1.given 0)

entry-at-requires : tie.Need-entry_at-row-requires invariant-loop decreases-loop
entry-at-requires c κs = (below (turn c)).0

mark-row-requires : tie.Need-mark_row-requires invariant-loop decreases-loop
mark-row-requires c κs =
    let e = c.before in
    let k = turn e.before in
    let room = (start k).requires.1 in
    (omega (arith, row k, e.entry_at-row.ensures, room.0, (head k).loop-rest.invariant.1), omega (arith, row k, e.entry_at-row.ensures, room.1))

sub-rest : tie.Need-overflow_sub-rest invariant-loop decreases-loop
sub-rest c = search rules

loop-less : tie.Need-loop-rest-smaller invariant-loop decreases-loop
loop-less c =
    let k = turn (found (back c)).before in
    omega (arith, count_low 64 (rest k) (omega arith) (head k).loop-rest.invariant.0)

loop-again : tie.Need-loop-rest-preserved invariant-loop decreases-loop
loop-again c =
    let m = back c in
    let e = found m in
    let k = turn e.before in
    let a = (start k).args in
    let l = (head k).loop-rest in
    let f : ℕ → ℕ = λ j. get_or (rows k) j 0 in
    let out = m.mark_row.ensures ∙ ap (λ (x : ℕ). laid (a.at + x) (true ∷ []) l.out) e.entry_at-row.ensures in (
      omega (arith, and_le_l (rest k) (rest k - 1), l.invariant.0),
      ap length out ∙ laid_length 64 (a.at + f (lowest k)) (true ∷ []) l.out ∙ l.invariant.1,
      (below k).1,
      ap (marked a.at (map f (others k))) out ∙ sym (ap (λ (rs : List ℕ). marked a.at (map f rs) l.out) (split k)) ∙ l.invariant.3,
    )

same_length : tie.Need-shape_of-out invariant-loop decreases-loop
same_length c = search rules

returns : tie.Need-returns invariant-loop decreases-loop
returns c =
    let l = (last c).loop-rest in
    let a = (entry (last c).before).args in
    let b = a.base.0 in
    let f : ℕ → ℕ = λ k. get_or (entries a.numbers a.rows.now) k 0 in
    let none : set_rows b (bits_of 64 l.rest) ≡ [] = ap (λ (x : ℕ). set_rows b (bits_of 64 x)) c.loop-rest-test.false ∙ rows_zero b 64 in
    sym (ap (λ (rs : List ℕ). marked a.at (map f rs) l.out) none) ∙ l.invariant.3

pub mark_entries_spec : {M : Type 1} → statement M
mark_entries_spec =
    tie.close
    (tie.spec
    invariant-loop
    decreases-loop
    loop-holds
    cast-bit
    add-rest
    entry-at-requires
    mark-row-requires
    sub-rest
    loop-less
    loop-again
    same_length
    returns)
