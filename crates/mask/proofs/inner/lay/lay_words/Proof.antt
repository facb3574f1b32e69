-- `mask::inner::lay::lay_words` meets its contract: the whole words copied, and the low bits of the next one after them.
-- By the law of the words before a word and its first bits. Assumes nothing.
use Prim.Native.Nat.{ℕ, ◌+◌, ◌-◌, ◌*◌, ◌/◌, ◌%◌, ◌^◌}
use mathlib.Core.Path.{◌≡◌, sym, ap, ap₂, ◌∙◌}
use mathlib.Core.Bool.{Bool}
use mathlib.Core.List.{List, ◌++◌}
use native.Mathlib.Omega.{arith}
use lib.ListN.{length, take, get_or}
use lib.Seq.{length-take-le}
use borrow.Author.Rules.{rules}
use Rattle.rows.specs.Word.{bits_of}
use Rattle.rows.specs.Words.{bits_of_all}
use Rattle.rows.specs.Laid.{laid}
use Rattle.rows.proofs.WordsLaws.{bits_of_all_length}
use Rattle.rows.proofs.FitLaws.{take_words}
use Rattle.rows.proofs.LaidLaws.{below_all, laid_append, laid_words}
use Rattle.mask.proofs.inner.lay.lay_words.Statement.{statement}
use Rattle.mask.proofs.inner.lay.lay_words.Tie as tie

-- ---- the places, each from the one after it: nothing is left after the whole words, or a part of a word

abbrev entry : tie.After-slice_known-1 → tie.Start
entry c = c.before.before

abbrev lent : tie.After-copy_words → tie.After-slice_known-1
lent c = c.before.before

abbrev whole : tie.After-slice_known-2-1 → tie.After-copy_words
whole c = c.before.before

abbrev parted : tie.After-put → tie.Else-rest-eq0
parted c = c.before.before.before

abbrev put : tie.After-slice_known-3-1 → tie.After-put
put c = c.before.before

-- ---- where the whole words are copied: their bits are laid

module _ (c : tie.After-copy_words) where
  abbrev start : tie.Start
  start = entry (lent c)

  abbrev words : List ℕ
  words = start.args.words.now

  abbrev out : List ℕ
  out = start.args.out.now

  abbrev first : ℕ
  first = start.args.at / 64

  abbrev n : ℕ
  n = start.args.len / 64

  -- their bits
  abbrev done : List Bool
  done = take (n * 64) (bits_of_all 64 words)

  place : first * 64 ≡ start.args.at
  place = omega (arith, start.requires.0)

  copied : c.copy_words.new.out ≡ laid (first * 64) done out
  copied =
      c.copy_words.ensures
      ∙ laid_words 64 first n out words
      (below_all (2 ^ 64) out (λ i. ((lent c).slice_known-1.given i).fits))
      (below_all (2 ^ 64) words (λ i. ((lent c).before.shared_slice_known-1.given i).fits))

-- where a part is left: the bits of the word after them
module _ (c : tie.Else-rest-eq0) where
  abbrev w : tie.After-copy_words
  w = whole c.before

  abbrev len : ℕ
  len = (start w).args.len

  abbrev rest : List Bool
  rest = bits_of (len % 64) (get_or (words w) (n w) 0)

  abbrev next : ℕ
  next = (start w).args.at + (len - len % 64)

  follows : next ≡ first w * 64 + length (done w)
  follows =
      let bits = bits_of_all 64 (words w) in
      omega (arith, place w, length-take-le (n w * 64) bits (omega (arith, (start w).requires.1, bits_of_all_length 64 (words w))))

  both : done w ++ rest ≡ take len (bits_of_all 64 (words w))
  both =
      let all : n w * 64 + len % 64 ≡ len = omega arith in
      sym (take_words 64 (n w) (len % 64) (words w) (omega arith) (omega (arith, c.if-rest-eq0.false, (start w).requires.1)))
      ∙ ap (λ (i : ℕ). take i (bits_of_all 64 (words w))) all

-- ---- the answers

copy-words-requires : tie.Need-copy_words-requires
copy-words-requires c κs = (omega arith, omega (arith, (entry c.before).requires.2))

same_length : tie.Need-shape_of-out-then-rest-eq0
same_length c = search rules

returns : tie.Need-returns-then-rest-eq0
returns c =
    let w = whole c.before in
    let a = (start w).args in
    let all : n w * 64 ≡ a.len = omega arith in
    copied w ∙ ap₂ (λ (x y : ℕ). laid x (take y (bits_of_all 64 (words w))) (out w)) (place w) all

sub-put : tie.Need-overflow_sub-len
sub-put c = search rules

add-put : tie.Need-overflow_add-at
add-put c = search rules

mul-put : tie.Need-offset_bounds-words-whole
mul-put c = search rules

shared-slice-read-put : tie.Need-bounds-words-whole
shared-slice-read-put c = search rules

put-requires : tie.Need-put-requires
put-requires c κs = search rules

same-length-2 : tie.Need-shape_of-out
same-length-2 c = search rules

returns-2 : tie.Need-returns
returns-2 c =
    let p = put c in
    let e = parted p in
    p.put.ensures
    ∙ ap (laid (next e) (rest e)) (copied (w e))
    ∙ laid_append 64 (first (w e) * 64) (next e) (done (w e)) (rest e) (out (w e)) (follows e)
    ∙ ap₂ (λ (x : ℕ) (z : List Bool). laid x z (out (w e))) (place (w e)) (both e)

pub lay_words_spec : {M : Type 1} → statement M
lay_words_spec =
    tie.close
    (tie.spec
    copy-words-requires
    same_length
    returns
    sub-put
    add-put
    mul-put
    shared-slice-read-put
    put-requires
    same-length-2
    returns-2)
