-- `outside::words::first_in_words` meets its contract.
-- The first of the whole words, and else the first of the chunk behind them. Assumes nothing.
use Prim.Native.Nat.{ℕ, ◌+◌, ◌*◌, ◌-◌, ◌/◌, ◌^◌, ◌≤◌}
use native.Mathlib.Omega.{arith}
use mathlib.Core.Path.{ap₂}
use mathlib.Core.Bool.{Bool}
use lib.Bits.{bit_and}
use lib.Count.{trailing_le}
use borrow.Author.Rules.{rules}
use Rattle.rows.specs.Rows.{outside}
use Rattle.rows.specs.Words.{view}
use Rattle.outside.specs.First.{has, Clear, First}
use Rattle.outside.proofs.FirstLaws.{first_none, first_wider}
use Rattle.outside.proofs.WordLaws.{Shown, shown_as, none_behind, first_behind_shown, outside_shown}
use Rattle.outside.proofs.words.first_in_words.Statement.{statement}
use Rattle.outside.proofs.words.first_in_words.Tie as tie

-- ---- the places, each from the one after it
abbrev start : tie.After-first_in_whole-found → tie.Start
start c = c.before.before.before

abbrev left : tie.After-chunk-2 → tie.Else-row-len
left c = c.before.before

abbrev whole : tie.After-chunk-2 → tie.After-first_in_whole-found
whole c = (left c).before.before

-- ---- behind the whole words
module _ (c : tie.After-first_in_whole-found) where
  abbrev len : ℕ
  len = (start c).args.len

  abbrev row : ℕ
  row = len / 64 * 64

  abbrev f : ℕ → Bool
  f = has (outside (view (start c).args.sstart len (start c).args.swords.now) (view (start c).args.kstart len (start c).args.kwords.now))

  first : First f 0 row c.first_in_whole-found.result
  first = c.first_in_whole-found.ensures

  -- none of theirs
  behind : row ≤ c.first_in_whole-found.result → Clear f 0 row
  behind h i k l = first.clear i k (omega arith)

-- ---- the chunk
module _ (c : tie.After-chunk-2) where
  abbrev w : tie.After-first_in_whole-found
  w = whole c

  abbrev n : ℕ
  n = len w - row w

  abbrev word : ℕ
  word = bit_and c.before.chunk.result (2 ^ 64 - 1 - c.chunk-2.result)

  few : n ≤ 64
  few = omega arith

  ends : row w + n ≤ len w
  ends = omega arith

  shown : Shown (f w) (row w) n word
  shown =
      shown_as (f w) (row w) n _ word (ap₂ (λ (x y : ℕ). bit_and x (2 ^ 64 - 1 - y)) c.before.chunk.ensures c.chunk-2.ensures)
      (outside_shown (start w).args.sstart (start w).args.kstart (len w) (row w) n (start w).args.swords.now (start w).args.kwords.now few ends)

  clear : Clear (f w) 0 (row w)
  clear = behind w (omega arith)

-- ---- the answers
mul-row : tie.Need-overflow_mul-row
mul-row c = search rules

first-in-whole-requires : tie.Need-first_in_whole-found-requires
first-in-whole-requires c κs = search rules

returns : tie.Need-returns-then-found-row
returns c = first_wider (f c.before) 0 (row c.before) (len c.before) _ c.if-found-row.true (omega arith) (first c.before)

returns-2 : tie.Need-returns-then-row-len
returns-2 c =
    let w = c.before.before in
    first_none (f w) 0 (len w) (omega arith) (λ i h l. behind w c.before.if-found-row.false i h (omega arith))

sub-n : tie.Need-overflow_sub-n
sub-n c = search rules

chunk-requires : tie.Need-chunk-requires
chunk-requires c κs = search rules

chunk-requires-2 : tie.Need-chunk-requires-2
chunk-requires-2 c κs = search rules

returns-3 : tie.Need-returns-then-bits-eq0
returns-3 c =
    let t = c.before in
    let w = whole t in
    first_none (f w) 0 (len w) (omega arith)
    (λ i h l. none_behind (f w) (row w) (n t) (word t) (few t) (shown t) 0 (len w) (omega arith) (ends t) (clear t) c.if-bits-eq0.true i h (omega arith))

cast-result : tie.Need-overflow_cast-result
cast-result c = omega (arith, trailing_le 64 (word c.before))

add-result : tie.Need-overflow_add-result
add-result c = omega (arith, trailing_le 64 (word c.before), (start (whole c.before)).requires)

returns-4 : tie.Need-returns
returns-4 c =
    let t = c.before in
    let w = whole t in
    first_behind_shown (f w) (row w) (n t) (word t) (few t) (shown t) 0 (len w) (omega arith) (ends t) (clear t) (omega arith)

pub first_in_words_spec : {M : Type 1} → statement M
first_in_words_spec =
    tie.close
    (tie.spec
    mul-row
    first-in-whole-requires
    returns
    returns-2
    sub-n
    chunk-requires
    chunk-requires-2
    returns-3
    cast-result
    add-result
    returns-4)
