-- `mask::inner::lay::lay_chunks` meets its contract: a turn lays a chunk after those before it.
-- By the laws of rows that are laid. Assumes nothing.
use Rattle.std.proofs.Common.{ℕ, ◌+◌, ◌-◌, ◌^◌, ◌≡◌, ◌≤◌, ◌<◌, Bool, List, [], min, length, take, drop, sym, ap, ap₂, ◌∙◌, length-take-le, arith}
use lib.Seq.{take_all}
use Rattle.rows.specs.Word.{bits_of, word_of}
use Rattle.rows.specs.Laid.{laid}
use Rattle.rows.proofs.LaidLaws.{below_all, laid_nil, laid_append}
use Rattle.rows.proofs.ChunkLaws.{chunk_bits, chunk_next}
use Rattle.rules.specs.Operand.{lent, rows_of}
use Rattle.operand.proofs.FlatLaws.{flat_length}
use Rattle.mask.proofs.inner.lay.lay_chunks.Goals as goal

-- a chunk of n rows from `row` on, with what is laid before it
record Turn (rows : List Bool) (at : ℕ) (out₀ out : List ℕ) (row n word : ℕ) : Type 0 where
  sized : n ≡ min 64 (length rows - row)
  before : row < length rows
  laid_before : out ≡ laid at (take row rows) out₀
  reads : word ≡ word_of (take n (drop row rows))

next_laid : {rows : List Bool} {at : ℕ} {out₀ out : List ℕ} {row n word : ℕ} → Turn rows at out₀ out row n word
    → laid (at + row) (bits_of n word) out ≡ laid at (take (row + n) rows) out₀
next_laid {rows} {at} {out₀} {out} {row} {n} {word} h =
    let room : row + n ≤ length rows = omega (arith, h.sized, h.before) in
    let done = take row rows in
    let place = ap (λ (x : ℕ). at + x) (sym (length-take-le row rows (omega (arith, h.before)))) in
    ap₂ (laid (at + row)) (ap (bits_of n) h.reads ∙ chunk_bits row n rows room) h.laid_before
    ∙ laid_append 64 at (at + row) done (take n (drop row rows)) out₀ place
    ∙ ap (λ (s : List Bool). laid at s out₀) (sym (chunk_next row n rows))

pub loop-row-init : goal.loop-row-init
loop-row-init c =
    let out = c.args.out.now in
    record { within = omega arith; laid = sym (laid_nil 64 c.args.at out (below_all (2 ^ 64) out (λ i. (c.type_inv.out i).fits))) }

pub loop-row-preserved : goal.loop-row-preserved
loop-row-preserved c =
    let o = lent c.args.form c.args.words.now [] in
    let long = flat_length o c.requires.0 in
    let h : Turn (rows_of o) c.args.at c.args.out.now c.loop-row.out c.loop-row.row c.chunk_len-n.result c.chunk_of.result =
    record {
      sized = omega (arith, long, c.length_of-len.ensures, c.chunk_len-n.ensures);
      before = omega (arith, long, c.length_of-len.ensures);
      laid_before = c.loop-row.invariant.laid;
      reads = c.chunk_of.ensures;
    } in
    let whole : c.chunk_len-n.result ≡ 64 = omega (arith, c.chunk_len-n.ensures) in
    record {
      within = omega arith;
      laid = c.put.ensures ∙ next_laid h ∙ ap (λ (n : ℕ). laid c.args.at (take (c.loop-row.row + n) (rows_of o)) c.args.out.now) whole;
    }

pub returns-2 : goal.returns-2
returns-2 c =
    let o = lent c.args.form c.args.words.now [] in
    let long = flat_length o c.requires.0 in
    let h : Turn (rows_of o) c.args.at c.args.out.now c.loop-row.out c.loop-row.row c.chunk_len-n.result c.chunk_of.result =
    record {
      sized = omega (arith, long, c.length_of-len.ensures, c.chunk_len-n.ensures);
      before = omega (arith, long, c.length_of-len.ensures);
      laid_before = c.loop-row.invariant.laid;
      reads = c.chunk_of.ensures;
    } in
    let all = take_all (c.loop-row.row + c.chunk_len-n.result) (rows_of o) (omega (arith, h.sized)) in
    c.put.ensures ∙ next_laid h ∙ ap (λ (s : List Bool). laid c.args.at s c.args.out.now) all
