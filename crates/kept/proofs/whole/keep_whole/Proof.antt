-- `kept::whole::keep_whole` meets its contract.
-- The invariant: the words before `i` are stored, `rank` is their count in self, a walk over the runs has come to it, and `held` ranks before it are kept.
-- Assumes nothing.
use Prim.Native.Nat.{ℕ, ◌+◌, ◌-◌, ◌*◌, ◌≤◌, ◌^◌}
use mathlib.Core.Path.{◌≡◌, refl, sym, ap, ap₂, subst, ◌∙◌}
use mathlib.Core.Bool.{Bool}
use mathlib.Core.List.{List}
use native.Mathlib.Omega.{arith}
use lib.ListN.{length, drop, replicate}
use lib.Count.{ones}
use Rattle.rows.specs.Rows.{count, compose}
use Rattle.rows.specs.Word.{bits_of, word_of}
use Rattle.rows.specs.Words.{fit, bits_of_all, view}
use Rattle.rows.specs.Runs.{held, in_runs}
use Rattle.rows.specs.Laid.{laid}
use Rattle.rows.proofs.WordLaws.{ones_word}
use Rattle.rows.proofs.WordsLaws.{fit_length}
use Rattle.rows.proofs.LaidLaws.{below_all}
use Rattle.books.specs.Windows.{window, Reached}
use Rattle.deposits.proofs.DepositLaws.{gathered_same, rank_within, chunk_few}
use Rattle.deposits.proofs.WholeLaws.{whole_rank, count_rest, Stored, stored_none, stored_word, stored_part}
use Rattle.kept.specs.Alike.{all_or_none}
use Rattle.kept.proofs.AlikeLaws.{reached_on, part_alike, alike_held, held_on, held_few}
use borrow.Author.Rules.{rules}
use Rattle.kept.proofs.whole.keep_whole.Statement.{statement}
use Rattle.kept.proofs.whole.keep_whole.Tie as tie

abbrev invariant-loop : tie.invariant-loop-start
invariant-loop words start n ranks to out₀ i₀ rank₀ next₀ held₀ out i rank next held =
    (i ≤ n)
    × Stored start to words out₀ (in_runs (count (view start (n * 64) words)) ranks) i rank.0 out
    × Reached ranks next rank.0
    × (held ≡ count (in_runs rank.0 ranks))

abbrev decreases-loop : tie.decreases-loop-start
decreases-loop words start n ranks to out₀ i₀ rank₀ next₀ held₀ out i rank next held = n - i

-- ---- the places, each from the one after it

abbrev entry : tie.After-slice_known-1 invariant-loop decreases-loop → tie.Start invariant-loop decreases-loop
entry c = c.before.before.before

abbrev start : tie.At-loop-start invariant-loop decreases-loop → tie.Start invariant-loop decreases-loop
start c = entry c.before

abbrev head : tie.After-store_alike-passed invariant-loop decreases-loop → tie.At-loop-start invariant-loop decreases-loop
head c = c.before.before.before

abbrev stretch : tie.After-store_alike-passed invariant-loop decreases-loop → tie.After-stretch_at-alike invariant-loop decreases-loop
stretch c = c.before.before

abbrev alike : tie.After-all_or_none-held invariant-loop decreases-loop → tie.After-store_alike-passed invariant-loop decreases-loop
alike c = c.before.before.before

abbrev told : tie.After-struct_known-in-loop-start-2-1 invariant-loop decreases-loop → tie.After-all_or_none-held invariant-loop decreases-loop
told c = c.before.before.before

abbrev mixed : tie.After-whole_word invariant-loop decreases-loop → tie.Else-stored-n invariant-loop decreases-loop
mixed c = c.before

abbrev read : tie.After-keep_bits-kept invariant-loop decreases-loop → tie.After-whole_word invariant-loop decreases-loop
read c = c.before

abbrev kept : tie.After-struct_known-in-loop-start-4-1 invariant-loop decreases-loop → tie.After-keep_bits-kept invariant-loop decreases-loop
kept c = c.before.before

-- ---- the words of a stretch

module _ (c : tie.After-store_alike-passed invariant-loop decreases-loop) where
  abbrev s : tie.Start invariant-loop decreases-loop
  s = start (head c)

  abbrev ws : List ℕ
  ws = s.args.words.now

  abbrev runs : List ℕ
  runs = s.args.ranks.now

  abbrev total : ℕ
  total = count (view s.args.start (s.args.n * 64) ws)

  abbrev r : List Bool
  r = in_runs total runs

  abbrev i : ℕ
  i = (head c).loop-start.i

  abbrev rank : ℕ
  rank = (head c).loop-start.rank.0

  abbrev most : ℕ
  most = (stretch c).stretch_at-alike.result.most

  abbrev v : Bool
  v = (stretch c).stretch_at-alike.result.set

  abbrev some : ℕ
  some = c.store_alike-passed.result.words

  abbrev set : ℕ
  set = c.store_alike-passed.result.set

  abbrev part : List Bool
  part = view (s.args.start + i * 64) (some * 64) ws

  within : i + some ≤ s.args.n
  within = c.store_alike-passed.ensures.0

  set_is : set ≡ count part
  set_is = c.store_alike-passed.ensures.1

  -- their ranks are below the count
  ranked : rank + set ≤ total
  ranked =
      omega (
        arith,
        set_is,
        (head c).loop-start.invariant.1.counted,
        count_rest s.args.start (i * 64) (some * 64) ws,
        rank_within s.args.start (i * 64 + some * 64) (s.args.n * 64) ws (omega (arith, within)),
      )

  stored_on : (then : List ℕ) → then ≡ laid ((s.args.to + i) * 64) (compose part (replicate most v)) (head c).loop-start.out
      → Stored s.args.start s.args.to ws s.args.out.now r (i + some) (rank + set) then
  stored_on then e =
      let a = s.args in
      let same = part_alike part runs rank most total v (stretch c).stretch_at-alike.ensures (omega (arith, set_is, c.store_alike-passed.ensures.2)) (omega (arith, set_is, ranked)) in
      subst (λ (x : ℕ). Stored a.start a.to ws a.out.now r (i + some) (rank + x) then) (sym set_is)
      (stored_part a.start a.to ws a.out.now r i some rank (replicate most v) (head c).loop-start.out then (head c).loop-start.invariant.1
      (omega (arith, s.requires.0.2, within)) same e)

  few : rank + set ≤ 1048576
  few = omega (arith, s.requires.0.0, within, (stored_on _ refl).few)

  on_reached : Reached runs (head c).loop-start.next (rank + set)
  on_reached = reached_on runs (head c).loop-start.next rank (rank + set) (omega arith) (head c).loop-start.invariant.2

  -- and so many of them are kept
  on_held : (head c).loop-start.held + all_or_none v set ≡ count (in_runs (rank + set) runs)
  on_held =
      ap₂ (λ (x y : ℕ). x + y) (head c).loop-start.invariant.3 (alike_held runs rank most v (stretch c).stretch_at-alike.ensures set c.store_alike-passed.ensures.2)
      ∙ sym (held_on rank set runs)

-- with those before
module _ (c : tie.After-all_or_none-held invariant-loop decreases-loop) where
  told_held : (head (alike c)).loop-start.held + c.all_or_none-held.result ≡ count (in_runs (rank (alike c) + set (alike c)) (runs (alike c)))
  told_held = ap (λ (x : ℕ). (head (alike c)).loop-start.held + x) c.all_or_none-held.ensures ∙ on_held (alike c)

-- ---- the word behind them

module _ (c : tie.After-whole_word invariant-loop decreases-loop) where
  abbrev told_here : tie.After-all_or_none-held invariant-loop decreases-loop
  told_here = told (mixed c).before

  abbrev here : tie.After-store_alike-passed invariant-loop decreases-loop
  here = alike told_here

  -- which it is, and its first rank
  abbrev at : ℕ
  at = i here + some here

  abbrev first : ℕ
  first = rank here + set here

  abbrev rows : List Bool
  rows = drop ((s here).args.start + at * 64) (bits_of_all 64 (ws here))

  abbrev word : List Bool
  word = fit 64 rows

  abbrev ones_set : ℕ
  ones_set = ones c.whole_word.result

  reach : (s here).args.start + at * 64 + 64 ≤ length (ws here) * 64
  reach = omega (arith, (s here).requires.0.2, (mixed c).if-stored-n.false)

  as_many : ones_set ≡ count word
  as_many = ap ones c.whole_word.ensures ∙ ones_word word

  word_few : ones_set ≤ 64
  word_few = omega (arith, ap ones c.whole_word.ensures, chunk_few 64 rows)

  passed_is : first ≡ count (view (s here).args.start (at * 64) (ws here))
  passed_is = (stored_on here _ refl).counted

  word_ranked : first + count word ≤ total here
  word_ranked =
      let a = (s here).args in
      let past = whole_rank a.start at a.to (ws here) a.out.now (r here) reach in
      omega (arith, passed_is, past, ones_word word, rank_within a.start ((at + 1) * 64) (a.n * 64) (ws here) (omega (arith, (mixed c).if-stored-n.false)))

  same : compose word (bits_of 64 (word_of (window first ones_set (runs here))))
      ≡ compose word (drop (count (view (s here).args.start (at * 64) (ws here))) (r here))
  same =
      ap (λ (y : ℕ). compose word (bits_of 64 (word_of (window first y (runs here))))) as_many
      ∙ gathered_same word first (total here) (λ k. held k (runs here)) (omega (arith, fit_length 64 rows)) word_ranked
      ∙ ap (λ (x : ℕ). compose word (drop x (r here))) passed_is

-- ---- the answers

loop-holds : tie.Need-loop-start-init invariant-loop decreases-loop
loop-holds c =
    let a = (entry c).args in
    let out = a.out.now in (
      omega arith,
      stored_none a.start a.to a.words.now out _ (below_all (2 ^ 64) out (λ k. (c.slice_known-1.given k).fits)),
      (entry c).requires.2,
      refl,
    )

stretch-at-requires : tie.Need-stretch_at-alike-requires invariant-loop decreases-loop
stretch-at-requires c κs = c.loop-start.invariant.2

store-alike-requires : tie.Need-store_alike-passed-requires invariant-loop decreases-loop
store-alike-requires c κs =
    let h = c.before.before in
    ((start h).requires.0, h.loop-start.invariant.0, omega (arith, (start h).requires.1, h.loop-start.invariant.1.long))

all-or-none-requires : tie.Need-all_or_none-held-requires invariant-loop decreases-loop
all-or-none-requires c κs = search rules

add-held : tie.Need-overflow_add-held invariant-loop decreases-loop
add-held c = omega (arith, told_held c, held_few (rank (alike c) + set (alike c)) (runs (alike c)), few (alike c))

add-here : tie.Need-overflow_add-here invariant-loop decreases-loop
add-here c = omega (arith, few (alike c.before.before))

add-stored : tie.Need-overflow_add-stored invariant-loop decreases-loop
add-stored c = omega (arith, within (alike (told c)), (s (alike (told c))).requires.0.0)

same_length : tie.Need-shape_of-out-then-stored-n invariant-loop decreases-loop
same_length c = search rules

returns : tie.Need-returns-then-stored-n invariant-loop decreases-loop
returns c =
    let t = told c.before in
    let p = alike t in
    let a = (s p).args in
    let on = stored_on p _ p.store_alike-passed.ensures.3 in
    let all : i p + some p ≡ a.n = omega (arith, within p, c.if-stored-n.true) in (
      on.counted ∙ ap (λ (k : ℕ). count (view a.start (k * 64) (ws p))) all,
      on_reached p,
      told_held t,
      on.composed ∙ ap (λ (k : ℕ). laid (a.to * 64) (compose (view a.start (k * 64) (ws p)) (r p)) a.out.now) all,
    )

whole-word-requires : tie.Need-whole_word-requires invariant-loop decreases-loop
whole-word-requires c κs =
    let p = alike (told c.before) in
    ((s p).requires.0.1, omega (arith, (s p).requires.0.2, c.if-stored-n.false))

keep-bits-requires : tie.Need-keep_bits-kept-requires invariant-loop decreases-loop
keep-bits-requires c κs = (omega (arith, few (here c)), on_reached (here c))

add_at : tie.Need-overflow_add-at invariant-loop decreases-loop
add_at c =
    let w = read c in
    omega (arith, (s (here w)).well_formed, (s (here w)).requires.1, (mixed w).if-stored-n.false)

mul-out : tie.Need-offset_bounds-out-at invariant-loop decreases-loop
mul-out c =
    let w = read c in
    omega (arith, (s (here w)).well_formed, (s (here w)).requires.1, (mixed w).if-stored-n.false)

slice-write-out : tie.Need-bounds-out-at invariant-loop decreases-loop
slice-write-out c =
    let w = read c in
    let on = stored_on (here w) _ (here w).store_alike-passed.ensures.3 in
    omega (arith, (s (here w)).requires.1, (mixed w).if-stored-n.false, on.long)

add-held-2 : tie.Need-overflow_add-held-in-loop-start invariant-loop decreases-loop
add-held-2 c =
    let k = c.before in
    let w = read k in
    omega (
      arith,
      told_held (told_here w),
      k.keep_bits-kept.ensures.2,
      held_on (first w) (ones_set w) (runs (here w)),
      held_few (first w + ones_set w) (runs (here w)),
      few (here w),
      word_few w,
    )

add-past : tie.Need-overflow_add-past invariant-loop decreases-loop
add-past c =
    let k = kept c in
    omega (arith, few (here (read k)), k.keep_bits-kept.ensures.0, word_few (read k))

add-i : tie.Need-overflow_add-i invariant-loop decreases-loop
add-i c =
    let w = read (kept c) in
    omega (arith, (s (here w)).requires.0.0, (mixed w).if-stored-n.false)

loop-less : tie.Need-loop-start-smaller invariant-loop decreases-loop
loop-less c =
    let w = read (kept c) in
    omega (arith, within (here w), (mixed w).if-stored-n.false)

loop-again : tie.Need-loop-start-preserved invariant-loop decreases-loop
loop-again c =
    let k = kept c in
    let w = read k in
    let p = here w in
    let a = (s p).args in
    let past : first w + ones_set w ≡ first w + k.keep_bits-kept.result.set = ap (λ (x : ℕ). first w + x) (sym k.keep_bits-kept.ensures.0) in (
      omega (arith, (mixed w).if-stored-n.false),
      rw past at (stored_word a.start (at w) a.to (ws p) a.out.now (r p) (reach w)
          (first w) w.whole_word.result (word_of (window (first w) (ones_set w) (runs p))) k.keep_bits-kept.result.bits _
          (stored_on p _ p.store_alike-passed.ensures.3) w.whole_word.ensures (same w) k.keep_bits-kept.ensures.1),
      rw past at k.keep_bits-kept.ensures.3,
      ap₂ (λ (x y : ℕ). x + y) (told_held (told_here w)) k.keep_bits-kept.ensures.2 ∙ sym (held_on (first w) (ones_set w) (runs p))
          ∙ ap (λ (x : ℕ). count (in_runs x (runs p))) past,
    )

pub keep_whole_spec : {M : Type 1} → statement M
keep_whole_spec =
    tie.close
    (tie.spec
    invariant-loop
    decreases-loop
    loop-holds
    stretch-at-requires
    store-alike-requires
    all-or-none-requires
    add-held
    add-here
    add-stored
    same_length
    returns
    whole-word-requires
    keep-bits-requires
    add_at
    mul-out
    slice-write-out
    add-held-2
    add-past
    add-i
    loop-less
    loop-again)
