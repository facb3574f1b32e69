-- `by_route::inner::compose_at` meets its contract.
-- What the line of the route says is what its kernel asks for, and gives the composition. Assumes nothing.
use Prim.Native.Nat.{ℕ, ◌+◌, ◌*◌, ◌≤◌}
use mathlib.Core.Path.{◌≡◌, sym, ap, ap₂, ◌∙◌, subst}
use mathlib.Core.Bool.{Bool, true, false}
use mathlib.Core.List.{List, []}
use native.Mathlib.Omega.{arith}
use lib.ListN.{length, drop, replicate}
use Rattle.rows.specs.Rows.{count, compose}
use Rattle.rows.specs.Words.{bits_of_all, view}
use Rattle.rows.specs.Lists.{listed, Ascending}
use Rattle.rows.specs.Laid.{laid}
use Rattle.rows.specs.Asks.{InView, Room}
use Rattle.rules.specs.declared.Route.{Route}
use Rattle.rules.specs.declared.Route.TheVariants.{NoRows, EntryIfSet}
use Rattle.rules.specs.Operand.{Operand, lent, rows_of, length_of, count_of}
use Rattle.rules.specs.Compose.{Paired, result}
use Rattle.operand.specs.Flat.{has_row_numbers, start_of}
use Rattle.operand.proofs.NumberLaws.{list_numbers}
use Rattle.by_route.specs.Fits.{Fits, AsList, InWords, keeps_runs}
use Rattle.by_route.proofs.FitsLaws.{in_words, by_full_self, full_length, by_full_rank, by_empty}
use Rattle.by_route.proofs.FitsLaws.{words_ascends, words_listed, words_read}
use Rattle.by_route.proofs.FitsLaws.{alone_accepted, alone_ranks, alone_listed, alone_read}
use Rattle.by_route.proofs.inner.compose_at.Statement.{statement}
use Rattle.by_route.proofs.inner.compose_at.Tie as tie
use borrow.Author.Rules.{rules}

-- ---- the places, each from the one after it: where the match stands, and each of its arms

abbrev words-lent : tie.After-slice_known-1 → tie.After-shared_slice_known-2-1
words-lent c = c.before.before.before

abbrev entry : tie.After-slice_known-1 → tie.Start
entry c = (words-lent c).before.before

abbrev start : tie.After-start_of-from → tie.Start
start c = entry c.before.before.before

abbrev full-self : tie.In-RankMask → tie.After-start_of-from
full-self c = c.before

abbrev full-self-laid : tie.After-slice_known-in-RankMask-1 → tie.After-lay_rows
full-self-laid c = c.before.before

abbrev full-rank : tie.In-SelfMask → tie.After-start_of-from
full-rank c = c.before

abbrev full-rank-laid : tie.After-slice_known-in-SelfMask-1 → tie.After-lay_rows-in-SelfMask
full-rank-laid c = c.before.before

abbrev no_rows : tie.In-NoRows → tie.After-start_of-from
no_rows c = c.before

abbrev no-rows-laid : tie.After-slice_known-in-NoRows-1 → tie.After-clear
no-rows-laid c = c.before.before

abbrev at-rank : tie.In-EntryAtRank → tie.After-start_of-from
at-rank c = c.before

abbrev at-rank-laid : tie.After-slice_known-in-EntryAtRank-1 → tie.After-lay_at_ranks
at-rank-laid c = c.before.before

abbrev if-set : tie.In-EntryIfSet → tie.After-start_of-from
if-set c = c.before

abbrev if-set-laid : tie.After-slice_known-in-EntryIfSet-1 → tie.After-lay_if_set
if-set-laid c = c.before.before

abbrev driven : tie.In-MaskDriven → tie.After-start_of-from
driven c = c.before

abbrev driven-laid : tie.After-slice_known-in-MaskDriven-1 → tie.After-lay_mask_driven
driven-laid c = c.before.before

abbrev gathered : tie.In-Gathered → tie.After-start_of-from
gathered c = c.before

abbrev gathering : tie.After-intersect_bit_buffer_by_rank_indices-arg-1 → tie.In-Gathered
gathering c = c.before

abbrev gathered-laid : tie.After-slice_known-in-Gathered-1 → tie.After-intersect_bit_buffer_by_rank_indices
gathered-laid c = c.before.before

abbrev read : tie.In-Read → tie.After-start_of-from
read c = c.before

abbrev reading : tie.After-intersect_bit_buffers-arg-1 → tie.In-Read
reading c = c.before

abbrev read-laid : tie.After-slice_known-in-Read-1 → tie.After-intersect_bit_buffers
read-laid c = c.before.before

-- ---- the operands, and what is asked of them before the match

module _ (c : tie.Start) where
  abbrev self : Operand
  self = lent c.args.s c.args.swords.now c.args.srows.now

  abbrev rank : Operand
  rank = lent c.args.r c.args.rwords.now c.args.rrows.now

  -- the line of the route that the match tells
  line : {route : Route} → c.args.route ≡ route → Fits route self rank
  line e = subst (λ (q : Route). Fits q self rank) e c.requires.1

  bare : {route : Route} → c.args.route ≡ route → keeps_runs route c.args.r ≡ false
  bare e = subst (λ (q : Route). keeps_runs q c.args.r ≡ false) e c.requires.3

  -- the rows laid there are these
  laid_as : (rows : List Bool) {o : List ℕ} → o ≡ laid c.args.at rows c.args.out.now → rows ≡ result self rank
      → o ≡ laid c.args.at (result self rank) c.args.out.now
  laid_as rows p e = p ∙ ap (λ (z : List Bool). laid c.args.at z c.args.out.now) e

module _ (c : tie.After-start_of-from) where
  abbrev len : ℕ
  len = c.before.before.length_of-len.result

  abbrev first : ℕ
  first = c.before.start_of-start.result

  abbrev from : ℕ
  from = c.start_of-from.result

  long : len ≡ length_of (start c).args.s
  long = c.before.before.length_of-len.ensures

  self_from : first ≡ start_of (start c).args.s
  self_from = c.before.start_of-start.ensures

  rank_from : from ≡ start_of (start c).args.r
  rank_from = c.start_of-from.ensures

  abbrev s : Operand
  s = self (start c)

  abbrev r : Operand
  r = rank (start c)

  abbrev both : Paired s r
  both = (start c).requires.0

  room : Room (start c).args.at len (start c).args.out.now
  room = (omega (arith, long, (start c).requires.2.0), omega (arith, long, (start c).requires.2.1))

-- ---- what the kernels ask, and that what they lay is the composition

cleared : (c : tie.After-start_of-from) → Fits NoRows (s c) (r c) → replicate (len c) false ≡ result (s c) (r c)
cleared c f = ap (λ (k : ℕ). replicate k false) (long c) ∙ by_empty (s c) (r c) (both c) f

-- self a list, or runs
module _ (c : tie.After-start_of-from) where
  -- self without its words
  abbrev alone : Operand
  alone = lent (s c).form [] (s c).numbers

  abbrev rows_at_rank : List Bool
  rows_at_rank = compose (rows_of alone) (listed (count_of alone) (r c).numbers)

  abbrev rows_if_set : List Bool
  rows_if_set = compose (rows_of alone) (drop (from c) (bits_of_all 64 (r c).words))

  module _ (l : AsList (s c)) where
    reach : InWords (r c) → (from c ≤ 63) × (from c + count_of alone ≤ length (r c).words * 64)
    reach v =
        let m = (in_words (r c) v (both c).rank).in_view in
        (omega (arith, rank_from c, m.1), omega (arith, (both c).ranks, rank_from c, m.2))

    by_bit : InWords (r c) → rows_if_set ≡ result (s c) (r c)
    by_bit v =
        ap (λ (n : ℕ). compose (rows_of alone) (drop n (bits_of_all 64 (r c).words))) (rank_from c)
        ∙ alone_read (s c) (r c) (both c) l v

-- self in words
module _ (c : tie.After-start_of-from) where
  abbrev shown : ℕ → ℕ → List Bool
  shown k n = view k n (s c).words

  abbrev ranks : ℕ
  ranks = count (shown (first c) (len c))

  abbrev rows_gathered : List Bool
  rows_gathered = compose (shown (first c) (len c)) (listed ranks (r c).numbers)

  abbrev rows_read : List Bool
  rows_read = compose (shown (first c) (len c)) (drop (from c) (bits_of_all 64 (r c).words))

  module _ (w : InWords (s c)) where
    in_view_lem : InView (first c) (len c) (s c).words
    in_view_lem =
        let v = (in_words (s c) w (both c).self).in_view in
        (omega (arith, long c, v.0), omega (arith, self_from c, v.1), omega (arith, long c, self_from c, v.2))

    ranks_ascend : has_row_numbers (r c).form ≡ true → Ascending 0 ranks (r c).numbers
    ranks_ascend e =
        let same = ap₂ (λ (k n : ℕ). count (shown k n)) (sym (self_from c)) (sym (long c)) in
        subst (λ (k : ℕ). Ascending 0 k (r c).numbers) same (words_ascends (s c) (r c) (both c) w e)

    by_list : has_row_numbers (r c).form ≡ true → rows_gathered ≡ result (s c) (r c)
    by_list e =
        ap₂ (λ (k n : ℕ). compose (shown k n) (listed (count (shown k n)) (r c).numbers)) (self_from c) (long c)
        ∙ words_listed (s c) (r c) (both c) w e

    by_words : InWords (r c) → rows_read ≡ result (s c) (r c)
    by_words v =
        let bits = bits_of_all 64 (r c).words in
        let all = shown (start_of (s c).form) (length_of (s c).form) in
        ap₂ (λ (k n : ℕ). compose (shown k n) (drop (from c) bits)) (self_from c) (long c)
        ∙ ap (λ (n : ℕ). compose all (drop n bits)) (rank_from c)
        ∙ words_read (s c) (r c) (both c) w v

-- ---- the line that each arm is told; a rank mask that counts as a list is one, since no runs are to be kept

fits_at_rank : (c : tie.In-EntryAtRank) → AsList (s (at-rank c)) × (has_row_numbers (r (at-rank c)).form ≡ true)
fits_at_rank c =
    let q = at-rank c in
    let f = line (start q) c.in-EntryAtRank.is in
    (f.0, list_numbers (r q).form f.1 (bare (start q) c.in-EntryAtRank.is))

fits_if_set : (c : tie.In-EntryIfSet) → Fits EntryIfSet (s (if-set c)) (r (if-set c))
fits_if_set c = line (start (if-set c)) c.in-EntryIfSet.is

fits_gathered : (c : tie.In-Gathered) → InWords (s (gathered c)) × (has_row_numbers (r (gathered c)).form ≡ true)
fits_gathered c =
    let q = gathered c in
    let f = line (start q) c.in-Gathered.is in
    (f.0, list_numbers (r q).form f.1 (bare (start q) c.in-Gathered.is))

fits_read : (c : tie.In-Read) → InWords (s (read c)) × InWords (r (read c))
fits_read c = line (start (read c)) c.in-Read.is

-- ---- the answers

length-of-requires : tie.Need-length_of-len-requires
length-of-requires c κs = search rules

start-of-requires : tie.Need-start_of-start-requires
start-of-requires c κs = search rules

start-of-requires-2 : tie.Need-start_of-from-requires
start-of-requires-2 c κs = search rules

enum_told : tie.Need-enum_told-1
enum_told c = search rules

lay-rows-requires : tie.Need-lay_rows-requires
lay-rows-requires c κs =
    let q = full-self c.before in
    let e = full_length (s q) (r q) (both q) (line (start q) c.before.in-RankMask.is) in
    ((both q).rank, (omega (arith, e, (start q).requires.2.0), omega (arith, e, (start q).requires.2.1)))

enum-told-2 : tie.Need-enum_told-in-SelfMask
enum-told-2 c = search rules

lay-rows-requires-2 : tie.Need-lay_rows-requires-in-SelfMask
lay-rows-requires-2 c κs =
    let q = full-rank c.before in
    ((both q).self, (start q).requires.2)

enum-told-3 : tie.Need-enum_told-in-NoRows
enum-told-3 c = search rules

clear-requires : tie.Need-clear-requires
clear-requires c κs = room (no_rows c.before)

enum-told-4 : tie.Need-enum_told-in-EntryAtRank
enum-told-4 c = search rules

length-of-requires-2 : tie.Need-length_of-requires
length-of-requires-2 c κs = search rules

lay-at-ranks-requires : tie.Need-lay_at_ranks-requires
lay-at-ranks-requires c κs =
    let held = c.before in
    let q = at-rank held.before in
    let f = fits_at_rank held.before in (
      alone_accepted (s q) (r q) (both q) f.0,
      f.0,
      omega (arith, held.length_of.ensures, (both q).ranks),
      alone_ranks (s q) (r q) (both q) f.0 f.1,
      (start q).requires.2,
    )

enum-told-5 : tie.Need-enum_told-in-EntryIfSet
enum-told-5 c = search rules

length-of-requires-3 : tie.Need-length_of-requires-in-EntryIfSet
length-of-requires-3 c κs = search rules

lay-if-set-requires : tie.Need-lay_if_set-requires
lay-if-set-requires c κs =
    let held = c.before in
    let q = if-set held.before in
    let f = fits_if_set held.before in
    let count : held.length_of-in-EntryIfSet.result ≡ count_of (alone q) = omega (arith, held.length_of-in-EntryIfSet.ensures, (both q).ranks) in
    (alone_accepted (s q) (r q) (both q) f.0, f.0, count, (reach q f.0 f.1).0, (reach q f.0 f.1).1, (start q).requires.2)

enum-told-6 : tie.Need-enum_told-in-MaskDriven
enum-told-6 c = search rules

lay-mask-driven-requires : tie.Need-lay_mask_driven-requires
lay-mask-driven-requires c κs =
    let q = driven c.before in
    (both q, line (start q) c.before.in-MaskDriven.is, (start q).requires.2, bare (start q) c.before.in-MaskDriven.is)

enum-known-route : tie.Need-enum_known-route
enum-known-route c = search rules

intersect_bit_buffer_by_rank_indices_requires :
    tie.Need-intersect_bit_buffer_by_rank_indices-requires
intersect_bit_buffer_by_rank_indices_requires c κs =
    let q = gathered (gathering c) in
    let f = fits_gathered (gathering c) in
    (in_view_lem q f.0, room q, ranks_ascend q f.0 f.1)

enum-known-route-2 : tie.Need-enum_known-route-in-Read-1
enum-known-route-2 c = search rules

intersect-bit-buffers-requires : tie.Need-intersect_bit_buffers-requires
intersect-bit-buffers-requires c κs =
    let q = read (reading c) in
    let f = fits_read (reading c) in
    let m = (in_words (r q) f.1 (both q).rank).in_view in
    (in_view_lem q f.0, omega (arith, rank_from q, m.1), room q)

same_length : tie.Need-shape_of-out-in-RankMask
same_length c = search rules

returns : tie.Need-returns-in-RankMask
returns c =
    let gave = full-self-laid c in
    let told = gave.before.before in
    let q = full-self told in
    laid_as (start q) (rows_of (r q)) gave.lay_rows.ensures (by_full_self (s q) (r q) (both q) (line (start q) told.in-RankMask.is))

same-length-2 : tie.Need-shape_of-out-in-SelfMask
same-length-2 c = search rules

returns-2 : tie.Need-returns-in-SelfMask
returns-2 c =
    let gave = full-rank-laid c in
    let told = gave.before.before in
    let q = full-rank told in
    laid_as (start q) (rows_of (s q)) gave.lay_rows-in-SelfMask.ensures (by_full_rank (s q) (r q) (both q) (line (start q) told.in-SelfMask.is))

same-length-3 : tie.Need-shape_of-out-in-NoRows
same-length-3 c = search rules

returns-3 : tie.Need-returns-in-NoRows
returns-3 c =
    let gave = no-rows-laid c in
    let told = gave.before.before in
    let q = no_rows told in
    laid_as (start q) (replicate (len q) false) gave.clear.ensures (cleared q (line (start q) told.in-NoRows.is))

same-length-4 : tie.Need-shape_of-out-in-EntryAtRank
same-length-4 c = search rules

returns-4 : tie.Need-returns-in-EntryAtRank
returns-4 c =
    let gave = at-rank-laid c in
    let told = gave.before.before.before in
    let q = at-rank told in
    laid_as (start q) (rows_at_rank q) gave.lay_at_ranks.ensures (alone_listed (s q) (r q) (both q) (fits_at_rank told).0 (fits_at_rank told).1)

same-length-5 : tie.Need-shape_of-out-in-EntryIfSet
same-length-5 c = search rules

returns-5 : tie.Need-returns-in-EntryIfSet
returns-5 c =
    let gave = if-set-laid c in
    let told = gave.before.before.before in
    let q = if-set told in
    laid_as (start q) (rows_if_set q) gave.lay_if_set.ensures (by_bit q (fits_if_set told).0 (fits_if_set told).1)

same-length-6 : tie.Need-shape_of-out-in-MaskDriven
same-length-6 c = search rules

returns-6 : tie.Need-returns-in-MaskDriven
returns-6 c = (driven-laid c).lay_mask_driven.ensures

same-length-7 : tie.Need-shape_of-out-in-Gathered
same-length-7 c = search rules

returns-7 : tie.Need-returns-in-Gathered
returns-7 c =
    let gave = gathered-laid c in
    let told = gathering gave.before in
    let q = gathered told in
    let f = fits_gathered told in
    laid_as (start q) (rows_gathered q) gave.intersect_bit_buffer_by_rank_indices.ensures (by_list q f.0 f.1)

same-length-8 : tie.Need-shape_of-out-in-Read
same-length-8 c = search rules

returns-8 : tie.Need-returns-in-Read
returns-8 c =
    let gave = read-laid c in
    let told = reading gave.before in
    let q = read told in
    let f = fits_read told in
    laid_as (start q) (rows_read q) gave.intersect_bit_buffers.ensures (by_words q f.0 f.1)

pub compose_at_spec : {M : Type 1} → statement M
compose_at_spec =
    tie.close
    (tie.spec
    length-of-requires
    start-of-requires
    start-of-requires-2
    enum_told
    lay-rows-requires
    enum-told-2
    lay-rows-requires-2
    enum-told-3
    clear-requires
    enum-told-4
    length-of-requires-2
    lay-at-ranks-requires
    enum-told-5
    length-of-requires-3
    lay-if-set-requires
    enum-told-6
    lay-mask-driven-requires
    enum-known-route
    intersect_bit_buffer_by_rank_indices_requires
    enum-known-route-2
    intersect-bit-buffers-requires
    same_length
    returns
    same-length-2
    returns-2
    same-length-3
    returns-3
    same-length-4
    returns-4
    same-length-5
    returns-5
    same-length-6
    returns-6
    same-length-7
    returns-7
    same-length-8
    returns-8)
