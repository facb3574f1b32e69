-- `by_route::words::lay_mask_driven` meets its contract.
-- Self is in words, and the rank mask a list or in words; each has its driver. Assumes nothing.
use Prim.Native.Nat.{ℕ, ◌+◌, ◌*◌, ◌≤◌}
use mathlib.Core.Path.{◌≡◌, ap, ap₂, sym, ◌∙◌, subst}
use mathlib.Core.Bool.{Bool, true}
use mathlib.Core.List.{List}
use native.Mathlib.Omega.{arith}
use lib.ListN.{length}
use Rattle.rows.specs.Rows.{count, compose}
use Rattle.rows.specs.Words.{view}
use Rattle.rows.specs.Lists.{listed, Ascending}
use Rattle.rows.specs.Laid.{laid}
use Rattle.rows.specs.Asks.{InView, Room}
use Rattle.rules.specs.Operand.{Operand, lent, length_of}
use Rattle.rules.specs.Compose.{Paired, result}
use Rattle.operand.specs.Flat.{has_row_numbers, start_of}
use Rattle.by_route.specs.Fits.{InWords}
use Rattle.by_route.proofs.FitsLaws.{in_words, words_count, words_ascends, words_listed, words_words, rank_in_words}
use borrow.Author.Rules.{rules}
use Rattle.by_route.proofs.words.lay_mask_driven.Statement.{statement}
use Rattle.by_route.proofs.words.lay_mask_driven.Tie as tie

-- ---- the places, each from the one after it: length, start and kind are asked; then the rank mask is a list, or in words

abbrev words-lent : tie.After-slice_known-1 → tie.After-shared_slice_known-2-1
words-lent c = c.before.before.before

abbrev entry : tie.After-slice_known-1 → tie.Start
entry c = (words-lent c).before.before

abbrev start : tie.After-has_row_numbers → tie.Start
start c = entry c.before.before.before

abbrev by_list : tie.After-lay_driven_by_list → tie.Then-has_row_numbers
by_list c = c.before.before

abbrev list-laid : tie.After-slice_known-then-has_row_numbers-1 → tie.After-lay_driven_by_list
list-laid c = c.before.before

abbrev by_words : tie.After-length_of → tie.Else-has_row_numbers
by_words c = c.before.before

abbrev words_laid : tie.After-slice_known-2-1 → tie.After-lay_driven_by_words
words_laid c = c.before.before

-- ---- the operands; self is in words, and its rows are shown from `first` on

module _ (c : tie.After-has_row_numbers) where
  abbrev self : Operand
  self = lent (start c).args.s (start c).args.swords.now (start c).args.srows.now

  abbrev rank : Operand
  rank = lent (start c).args.r (start c).args.rwords.now (start c).args.rrows.now

  abbrev both : Paired self rank
  both = (start c).requires.0

  abbrev worded : InWords self
  worded = (start c).requires.1.0

  abbrev len : ℕ
  len = c.before.before.length_of-len.result

  abbrev first : ℕ
  first = c.before.start_of-start.result

  abbrev shown : ℕ → ℕ → List Bool
  shown k n = view k n self.words

  long : len ≡ length_of self.form
  long = c.before.before.length_of-len.ensures

  self_from : first ≡ start_of self.form
  self_from = c.before.start_of-start.ensures

  same_count : count (shown (start_of self.form) (length_of self.form)) ≡ count (shown first len)
  same_count = ap₂ (λ (k n : ℕ). count (shown k n)) (sym self_from) (sym long)

  in_view_lem : InView first len self.words
  in_view_lem =
      let v = (in_words self worded both.self).in_view in
      (omega (arith, long, v.0), omega (arith, self_from, v.1), omega (arith, long, self_from, v.2))

  room : Room (start c).args.at len (start c).args.out.now
  room = (omega (arith, long, (start c).requires.2.0), omega (arith, long, (start c).requires.2.1))

  -- the rows laid there are these
  laid_as : (rows : List Bool) {o : List ℕ} → o ≡ laid (start c).args.at rows (start c).args.out.now → rows ≡ result self rank
      → o ≡ laid (start c).args.at (result self rank) (start c).args.out.now
  laid_as rows p e = p ∙ ap (λ (z : List Bool). laid (start c).args.at z (start c).args.out.now) e

-- ---- the rank mask a list

module _ (c : tie.Then-has_row_numbers) where
  abbrev listing : tie.After-has_row_numbers
  listing = c.before

  listed_rank : has_row_numbers (rank listing).form ≡ true
  listed_rank = sym listing.has_row_numbers.ensures ∙ c.if-has_row_numbers.true

  ascends : Ascending 0 (count (shown listing (first listing) (len listing))) (rank listing).numbers
  ascends =
      subst (λ (k : ℕ). Ascending 0 k (rank listing).numbers) (same_count listing)
      (words_ascends (self listing) (rank listing) (both listing) (worded listing) listed_rank)

  abbrev rows_listed : ℕ → ℕ → List Bool
  rows_listed k n = compose (shown listing k n) (listed (count (shown listing k n)) (rank listing).numbers)

  composed_list : rows_listed (first listing) (len listing) ≡ result (self listing) (rank listing)
  composed_list =
      ap₂ rows_listed (self_from listing) (long listing)
      ∙ words_listed (self listing) (rank listing) (both listing) (worded listing) listed_rank

-- ---- the rank mask in words, whose start and length are asked too

module _ (c : tie.After-length_of) where
  abbrev reading : tie.After-has_row_numbers
  reading = (by_words c).before

  abbrev ranks : ℕ
  ranks = c.length_of.result

  abbrev from : ℕ
  from = c.before.start_of.result

  worded_rank : InWords (rank reading)
  worded_rank =
      rank_in_words (rank reading) (start reading).requires.1.1 (start reading).requires.3
      (sym reading.has_row_numbers.ensures ∙ (by_words c).if-has_row_numbers.false)

  counted : ranks ≡ count (shown reading (first reading) (len reading))
  counted = c.length_of.ensures ∙ words_count (self reading) (rank reading) (both reading) (worded reading) ∙ same_count reading

  rank_in_view : (from ≤ 63) × (from + ranks ≤ length (rank reading).words * 64)
  rank_in_view =
      let v = (in_words (rank reading) worded_rank (both reading).rank).in_view in
      (omega (arith, c.before.start_of.ensures, v.1), omega (arith, c.before.start_of.ensures, c.length_of.ensures, v.2))

  abbrev rows_read : List Bool
  rows_read = compose (shown reading (first reading) (len reading)) (view from ranks (rank reading).words)

  composed_words : rows_read ≡ result (self reading) (rank reading)
  composed_words =
      ap₂ (λ (k n : ℕ). compose (shown reading k n) (view from ranks (rank reading).words)) (self_from reading) (long reading)
      ∙ ap₂ (λ (k n : ℕ). compose (shown reading (start_of (self reading).form) (length_of (self reading).form)) (view k n (rank reading).words))
      c.before.start_of.ensures
      c.length_of.ensures
      ∙ words_words (self reading) (rank reading) (both reading) (worded reading) worded_rank

-- ---- the answers

length-of-requires : tie.Need-length_of-len-requires
length-of-requires c κs = search rules

start-of-requires : tie.Need-start_of-start-requires
start-of-requires c κs = search rules

has-row-numbers-requires : tie.Need-has_row_numbers-requires
has-row-numbers-requires c κs = search rules

lay-driven-by-list-requires : tie.Need-lay_driven_by_list-requires
lay-driven-by-list-requires c κs =
    let t = c.before in
    (in_view_lem (listing t), ascends t, room (listing t))

same_length : tie.Need-shape_of-out-then-has_row_numbers
same_length c = search rules

returns : tie.Need-returns-then-has_row_numbers
returns c =
    let t = by_list (list-laid c) in
    let q = listing t in
    laid_as q (rows_listed t (first q) (len q)) (list-laid c).lay_driven_by_list.ensures (composed_list t)

start-of-requires-2 : tie.Need-start_of-requires
start-of-requires-2 c κs = search rules

length-of-requires-2 : tie.Need-length_of-requires
length-of-requires-2 c κs = search rules

lay-driven-by-words-requires : tie.Need-lay_driven_by_words-requires
lay-driven-by-words-requires c κs =
    let a = c.before in
    (in_view_lem (reading a), counted a, (rank_in_view a).0, (rank_in_view a).1, room (reading a))

same-length-2 : tie.Need-shape_of-out
same-length-2 c = search rules

returns-2 : tie.Need-returns
returns-2 c =
    let l = words_laid c in
    let a = l.before.before in
    laid_as (reading a) (rows_read a) l.lay_driven_by_words.ensures (composed_words a)

pub lay_mask_driven_spec : {M : Type 1} → statement M
lay_mask_driven_spec =
    tie.close
    (tie.spec
    length-of-requires
    start-of-requires
    has-row-numbers-requires
    lay-driven-by-list-requires
    same_length
    returns
    start-of-requires-2
    length-of-requires-2
    lay-driven-by-words-requires
    same-length-2
    returns-2)
