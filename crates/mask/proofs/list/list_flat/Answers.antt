-- `mask::list::list_flat` meets its contract: a turn writes the set rows of a chunk after those before it.
-- By what one chunk more does. Assumes nothing.
use Rattle.std.proofs.Common.{ℕ, ◌+◌, ◌-◌, ◌*◌, ◌%◌, ◌≡◌, ◌≤◌, Bool, List, [], length, take, drop, refl, sym, ap, ap₂, ◌∙◌, arith}
use lib.Seq.{take_all}
use Rattle.rows.specs.Rows.{count, splice}
use Rattle.rows.specs.Word.{bits_of, word_of}
use Rattle.rows.specs.Lists.{set_rows}
use Rattle.rows.proofs.SpliceLaws.{splice_nil}
use Rattle.rows.proofs.PartLaws.{count_part}
use Rattle.rules.specs.Operand.{lent, rows_of}
use Rattle.operand.proofs.FlatLaws.{flat_length, flat_limit}
use Rattle.mask.proofs.ListOutLaws.{list_count, list_turn}
use Rattle.mask.proofs.list.list_flat.Goals as goal

-- a chunk of n rows from `row` on, with what is written before it
record Turn (rows : List Bool) (out₀ out : List ℕ) (k row n word : ℕ) : Type 0 where
  short : n ≤ 64
  room : row + n ≤ length rows
  number : k ≡ count (take row rows)
  written : out ≡ splice 0 out₀ (set_rows 0 (take row rows))
  reads : word ≡ word_of (take n (drop row rows))

module _ {rows : List Bool} {out₀ out : List ℕ} {k row n word : ℕ} (h : Turn rows out₀ out k row n word) where
  next_number : k + count (bits_of 64 word) ≡ count (take (row + n) rows)
  next_number =
      ap₂ (λ (i w : ℕ). i + count (bits_of 64 w)) h.number h.reads ∙ sym (list_count 64 row n rows h.short h.room)

  next_written : splice k out (set_rows row (bits_of 64 word)) ≡ splice 0 out₀ (set_rows 0 (take (row + n) rows))
  next_written =
      ap (λ (w : ℕ). splice k out (set_rows row (bits_of 64 w))) h.reads
      ∙ ap₂ (λ (i : ℕ) (o : List ℕ). splice i o (set_rows row (bits_of 64 (word_of (take n (drop row rows)))))) h.number h.written
      ∙ list_turn 64 row n rows h.short h.room out₀

pub loop-i-init : goal.loop-i-init
loop-i-init c = record { number = refl; written = sym (splice_nil 0 c.args.out.now) }

pub list_chunk-k-requires : goal.list_chunk-k-requires
list_chunk-k-requires c =
    let o = lent c.args.form c.args.words.now [] in
    let long = flat_length o c.requires.0 in
    let h : Turn (rows_of o) c.args.out.now c.loop-i.out c.loop-i.k (c.loop-i.i * 64) 64 c.chunk_of.result =
    record {
      short = omega arith;
      room = omega (arith, long, c.length_of-len.ensures, c.loop-i-test.true);
      number = c.loop-i.invariant.number;
      written = c.loop-i.invariant.written;
      reads = c.chunk_of.ensures;
    } in (
      omega (arith, c.length_of-len.ensures, flat_limit o c.requires.0),
      omega (arith, next_number h, count_part (c.loop-i.i * 64 + 64) (rows_of o), c.requires.1, c.loop-i.auto.out),
    )

pub loop-i-preserved : goal.loop-i-preserved
loop-i-preserved c =
    let o = lent c.args.form c.args.words.now [] in
    let long = flat_length o c.requires.0 in
    let h : Turn (rows_of o) c.args.out.now c.loop-i.out c.loop-i.k (c.loop-i.i * 64) 64 c.chunk_of.result =
    record {
      short = omega arith;
      room = omega (arith, long, c.length_of-len.ensures, c.loop-i-test.true);
      number = c.loop-i.invariant.number;
      written = c.loop-i.invariant.written;
      reads = c.chunk_of.ensures;
    } in
    let next : c.loop-i.i * 64 + 64 ≡ (c.loop-i.i + 1) * 64 = omega arith in
    let part = λ (n : ℕ). take n (rows_of o) in
    record {
      number = c.list_chunk-k.ensures.0 ∙ next_number h ∙ ap (λ (n : ℕ). count (part n)) next;
      written = c.list_chunk-k.ensures.1 ∙ next_written h ∙ ap (λ (n : ℕ). splice 0 c.args.out.now (set_rows 0 (part n))) next;
    }

pub list_chunk-requires : goal.list_chunk-requires
list_chunk-requires c =
    let o = lent c.args.form c.args.words.now [] in
    let len = c.length_of-len.result in
    let long = flat_length o c.requires.0 in
    let row : c.loop-i.i * 64 ≡ len - len % 64 = omega arith in
    let h : Turn (rows_of o) c.args.out.now c.loop-i.out c.loop-i.k (len - len % 64) (len % 64) c.chunk_of-2.result =
    record {
      short = omega arith;
      room = omega (arith, long, c.length_of-len.ensures);
      number = c.loop-i.invariant.number ∙ ap (λ (n : ℕ). count (take n (rows_of o))) row;
      written = c.loop-i.invariant.written ∙ ap (λ (n : ℕ). splice 0 c.args.out.now (set_rows 0 (take n (rows_of o)))) row;
      reads = c.chunk_of-2.ensures;
    } in (
      omega (arith, c.length_of-len.ensures, flat_limit o c.requires.0),
      omega (arith, next_number h, count_part (len - len % 64 + len % 64) (rows_of o), c.requires.1, c.loop-i.auto.out),
    )

pub returns : goal.returns
returns c =
    let o = lent c.args.form c.args.words.now [] in
    let len = c.length_of-len.result in
    let long = flat_length o c.requires.0 in
    let row : c.loop-i.i * 64 ≡ len - len % 64 = omega arith in
    let h : Turn (rows_of o) c.args.out.now c.loop-i.out c.loop-i.k (len - len % 64) (len % 64) c.chunk_of-2.result =
    record {
      short = omega arith;
      room = omega (arith, long, c.length_of-len.ensures);
      number = c.loop-i.invariant.number ∙ ap (λ (n : ℕ). count (take n (rows_of o))) row;
      written = c.loop-i.invariant.written ∙ ap (λ (n : ℕ). splice 0 c.args.out.now (set_rows 0 (take n (rows_of o)))) row;
      reads = c.chunk_of-2.ensures;
    } in
    let all = take_all (len - len % 64 + len % 64) (rows_of o) (omega (arith, long, c.length_of-len.ensures)) in
    c.list_chunk.ensures.1 ∙ next_written h ∙ ap (λ (s : List Bool). splice 0 c.args.out.now (set_rows 0 s)) all
