-- `marks::driven::row_in` meets its contract.
-- The row is the chunk's first, and the place of the rank that is left in the chunk's word. Assumes nothing.
use Prim.Native.Nat.{ℕ, ◌+◌, ◌-◌, ◌<◌}
use mathlib.Core.Path.{sym, ap, ◌∙◌}
use mathlib.Core.Bool.{Bool}
use mathlib.Core.List.{List}
use native.Mathlib.Omega.{arith}
use borrow.Author.Rules.{rules}
use Rattle.rows.specs.Rows.{count}
use Rattle.rows.specs.Word.{bits_of}
use Rattle.rows.specs.Words.{view}
use Rattle.rows.specs.Lists.{select}
use Rattle.rows.proofs.WordsLaws.{view_length}
use Rattle.books.specs.Chunks.{chunk_at}
use Rattle.marks.proofs.DrivenLaws.{chunk_count, chunk_few, place_in, left_in, row_of}
use Rattle.marks.proofs.driven.row_in.Statement.{statement}
use Rattle.marks.proofs.driven.row_in.Tie as tie

-- ---- the places, each from the one after it

abbrev start : tie.After-struct_known-2-1 → tie.Start
start c = c.before.before.before

abbrev read : tie.After-bit_in-bit → tie.After-self_chunk
read c = c.before

abbrev asked : tie.After-bit_in-bit → tie.Start
asked c = start (read c).before.before

-- ---- what is known of the place

module _ (s : tie.Start) where
  abbrev v : List Bool
  v = view s.args.start s.args.len s.args.words.now

  abbrev left : ℕ
  left = s.args.rank.0 - s.args.place.passed.0

  -- the chunk's first row is within
  within : s.args.place.done.0 < s.args.len
  within =
      let a = s.args in
      omega (arith, place_in v a.place a.rank s.requires.1, view_length a.start a.len a.words.now s.requires.0.2)

  held : left < count (chunk_at v s.args.place.done.0)
  held = left_in v s.args.place s.args.rank s.requires.1

-- ---- the answers

sub-left : tie.Need-overflow_sub-left
sub-left c = search rules

cast-left : tie.Need-overflow_cast-left
cast-left c =
    let s = start c in
    omega (arith, held s, chunk_few (v s) s.args.place.done.0)

self-chunk-requires : tie.Need-self_chunk-requires
self-chunk-requires c κs = ((start c.before).requires.0.2, within (start c.before))

bit-in-requires : tie.Need-bit_in-bit-requires
bit-in-requires c κs =
    let s = start c.before.before in
    omega (arith, held s, chunk_count (v s) s.args.place.done.0 c.self_chunk.result c.self_chunk.ensures)

cast-t8 : tie.Need-overflow_cast-result
cast-t8 c = search rules

add-t9 : tie.Need-overflow_add-result
add-t9 c =
    let s = asked c.before in
    omega (arith, within s, s.requires.0.0, c.before.bit_in-bit.type_inv)

returns : tie.Need-returns
returns c =
    let k = c.before in
    let s = asked k in
    let a = s.args in
    ap (λ (x : ℕ). a.place.done.0 + x) (k.bit_in-bit.ensures ∙ ap (λ (x : ℕ). select (bits_of 64 x) (left s)) (read k).self_chunk.ensures)
    ∙ sym (row_of (v s) a.place a.rank s.requires.1)

pub row_in_spec : {M : Type 1} → statement M
row_in_spec =
    tie.close
    (tie.spec
    sub-left
    cast-left
    self-chunk-requires
    bit-in-requires
    cast-t8
    add-t9
    returns)
