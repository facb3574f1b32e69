-- `outside::inner::seek` meets its contract: a chunk is the word of what is sought in it, and its lowest bit the first row sought.
-- By the laws of a word that shows rows. Assumes nothing.
use Rattle.std.proofs.Common.{ℕ, ◌+◌, ◌-◌, ◌^◌, ◌≤◌, ◌<◌, ◌≡◌, Bool, List, ap₂, bit_and, bit_xor, arith}
use lib.Count.{count_trailing_zeros}
use Rattle.rows.specs.Words.{view}
use Rattle.outside.specs.declared.inner.Sought.{Sought}
use Rattle.outside.specs.First.{has, sought, flipped, Clear, First}
use Rattle.outside.proofs.FirstLaws.{first_none}
use Rattle.outside.proofs.WordLaws.{read, Shown, shown_as, none_behind, first_behind_shown, sought_shown}
use Rattle.outside.proofs.inner.seek.Goals as goal

-- what is sought of a row
abbrev test : Sought → ℕ → ℕ → List ℕ → ℕ → Bool
test which start len ws i = sought which (has (view start len ws) i)

-- a chunk of n rows from row `at` on, by the word r read there, the word t that turns it and the word o of n ones
record Turn (which : Sought) (start len row : ℕ) (ws : List ℕ) (at n r t o : ℕ) : Type 0 where
  on : row ≤ at
  short : at + n ≤ len
  few : n ≤ 64
  reads : r ≡ read start at 64 ws
  turns : t ≡ flipped which
  cuts : o ≡ 2 ^ n - 1
  clear : Clear (test which start len ws) row at

module _ {which : Sought} {start len row : ℕ} {ws : List ℕ} {at n r t o : ℕ} (h : Turn which start len row ws at n r t o) where
  abbrev f : ℕ → Bool
  f = test which start len ws

  abbrev word : ℕ
  word = bit_and (bit_xor r t) o

  shown : Shown f at n word
  shown =
      shown_as f at n _ word (ap₂ bit_and (ap₂ bit_xor h.reads h.turns) h.cuts)
      (sought_shown which start len at n ws h.few h.short)

  found : 0 < word → First f row len (at + count_trailing_zeros 64 word)
  found = first_behind_shown f at n word h.few shown row len h.on h.short h.clear

  none : word ≡ 0 → Clear f row (at + n)
  none = none_behind f at n word h.few shown row len h.on h.short h.clear

pub returns-then-bits-ne0 : goal.returns-then-bits-ne0
returns-then-bits-ne0 c =
    let h : Turn c.args.which c.args.start c.args.len c.args.row c.args.words.now c.loop-at.at c.chunk_len-n.result c.read.result c.flip-turned.result c.ones.result =
    record {
      on = omega arith;
      short = omega (arith, c.chunk_len-n.ensures);
      few = omega (arith, c.chunk_len-n.ensures);
      reads = c.read.ensures;
      turns = c.flip-turned.ensures;
      cuts = c.ones.ensures;
      clear = c.loop-at.invariant.clear;
    } in
    found h (omega arith)

pub loop-at-preserved : goal.loop-at-preserved
loop-at-preserved c =
    let h : Turn c.args.which c.args.start c.args.len c.args.row c.args.words.now c.loop-at.at c.chunk_len-n.result c.read.result c.flip-turned.result c.ones.result =
    record {
      on = omega arith;
      short = omega (arith, c.chunk_len-n.ensures);
      few = omega (arith, c.chunk_len-n.ensures);
      reads = c.read.ensures;
      turns = c.flip-turned.ensures;
      cuts = c.ones.ensures;
      clear = c.loop-at.invariant.clear;
    } in
    record { within = omega arith; clear = λ i l k. none h c.if-bits-ne0.false i l (omega (arith, c.chunk_len-n.ensures)) }

pub returns-else-bits-ne0 : goal.returns-else-bits-ne0
returns-else-bits-ne0 c =
    let h : Turn c.args.which c.args.start c.args.len c.args.row c.args.words.now c.loop-at.at c.chunk_len-n.result c.read.result c.flip-turned.result c.ones.result =
    record {
      on = omega arith;
      short = omega (arith, c.chunk_len-n.ensures);
      few = omega (arith, c.chunk_len-n.ensures);
      reads = c.read.ensures;
      turns = c.flip-turned.ensures;
      cuts = c.ones.ensures;
      clear = c.loop-at.invariant.clear;
    } in
    first_none _ c.args.row c.args.len c.requires.1 (λ i l k. none h c.if-bits-ne0.false i l (omega (arith, c.chunk_len-n.ensures)))
