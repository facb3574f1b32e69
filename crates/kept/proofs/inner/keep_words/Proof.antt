-- `kept::inner::keep_words` meets its contract.
-- Where the output begins on a word: the rows that are left are laid after the whole words. Assumes nothing.
use Prim.Native.Nat.{ℕ, ◌+◌, ◌-◌, ◌*◌, ◌/◌, ◌≤◌}
use native.Mathlib.Nat.{zero-add}
use mathlib.Core.Path.{◌≡◌, refl, sym, ap, ap₂, ◌∙◌}
use mathlib.Core.Bool.{Bool}
use mathlib.Core.List.{List}
use native.Mathlib.Omega.{arith}
use lib.ListN.{length, drop}
use Rattle.rows.specs.Rows.{count, compose}
use Rattle.rows.specs.Words.{bits_of_all, view}
use Rattle.rows.specs.Runs.{held, in_runs}
use Rattle.rows.specs.Laid.{laid}
use Rattle.rows.proofs.RowLaws.{count_take_le, compose_count}
use Rattle.rows.proofs.ListLaws.{tab_length}
use Rattle.rows.proofs.LaidLaws.{laid_length}
use Rattle.rows.proofs.RunLaws.{apart_wider}
use Rattle.books.specs.Windows.{Reached}
use Rattle.deposits.proofs.WholeLaws.{whole_and_rest, count_rest, ranks_more}
use borrow.Author.Rules.{rules}
use Rattle.kept.proofs.inner.keep_words.Statement.{statement}
use Rattle.kept.proofs.inner.keep_words.Tie as tie

-- ---- the places, each from the one after it: the chunks alone, or the whole words and the chunks after them

abbrev entry : tie.After-slice_known-1 → tie.Start
entry c = c.before.before.before

abbrev astride : tie.After-keep_chunks-arg-1 → tie.Start
astride c = entry c.before.before

abbrev chunks : tie.After-slice_known-then-at-ne0-1 → tie.After-keep_chunks
chunks c = c.before.before

abbrev aligned : tie.After-keep_whole-arg-1 → tie.Start
aligned c = entry c.before.before

abbrev words : tie.After-slice_known-2-1 → tie.After-keep_whole-reached
words c = c.before.before

abbrev asked : tie.After-keep_chunks-2 → tie.After-slice_known-2-1
asked c = c.before.before

abbrev ended : tie.After-slice_known-3-1 → tie.After-keep_chunks-2
ended c = c.before.before

-- ---- self, and the ranks that it has

module _ (c : tie.Start) where
  abbrev ws : List ℕ
  ws = c.args.words.now

  abbrev runs : List ℕ
  runs = c.args.ranks.now

  abbrev self : List Bool
  self = view c.args.start c.args.len ws

  abbrev total : ℕ
  total = count self

  reached_none : Reached runs 0 0
  reached_none =
      let few : total ≤ 1048576 = omega (arith, c.requires.0.0, count_take_le c.args.len (drop c.args.start (bits_of_all 64 ws))) in
      record { ahead = apart_wider 0 0 total 1048576 runs (omega arith) few c.requires.2; behind = λ i h. refl }

  -- as many of them are kept as rows are laid
  all_held : count (in_runs total runs) ≡ count (compose self (in_runs total runs))
  all_held = sym (compose_count self (in_runs total runs) (tab_length 0 total (λ i. held i runs)))

-- ---- the whole words: how many rows they are, what they leave, and what is known once they are laid

module _ (c : tie.After-keep_whole-reached) where
  abbrev start : tie.Start
  start = aligned c.before

  abbrev done : ℕ
  done = start.args.len / 64 * 64

  abbrev rest : ℕ
  rest = start.args.len - done

  abbrev passed : ℕ
  passed = count (view start.args.start done (ws start))

  -- the set rows of what is left
  abbrev more : ℕ
  more = count (view (start.args.start + done) rest (ws start))

  abbrev reached : ℕ
  reached = c.keep_whole-reached.result.rank.0

  few : reached ≤ done
  few = omega (arith, c.keep_whole-reached.ensures.0, count_take_le done (drop start.args.start (bits_of_all 64 (ws start))))

  all : done + rest ≡ start.args.len
  all = omega arith

  sum : reached + more ≡ total start
  sum =
      ap (λ (k : ℕ). k + more) c.keep_whole-reached.ensures.0 ∙ count_rest start.args.start done rest (ws start)
      ∙ ap (λ (k : ℕ). count (view start.args.start k (ws start))) all

  -- the ranks past the whole words do not matter to them
  whole : laid (start.args.at / 64 * 64) (compose (view start.args.start done (ws start)) (in_runs passed (runs start))) start.args.out.now
      ≡ laid start.args.at (compose (view start.args.start done (ws start)) (in_runs (total start) (runs start))) start.args.out.now
  whole =
      let place : start.args.at / 64 * 64 ≡ start.args.at = omega arith in
      let same = ranks_more (view start.args.start done (ws start)) passed (total start) (λ i. held i (runs start)) (omega arith)
      (omega (arith, sum, c.keep_whole-reached.ensures.0)) in
      ap₂ (λ (k : ℕ) (l : List Bool). laid k l start.args.out.now) place same

-- ---- the answers

keep-chunks-requires : tie.Need-keep_chunks-requires
keep-chunks-requires c κs =
    let s = astride c in
    let p = s.requires in
    (p.0.0, p.0.2, p.1, omega arith, reached_none s, refl)

same_length : tie.Need-shape_of-out-then-at-ne0
same_length c = search rules

returns : tie.Need-returns-then-at-ne0
returns c =
    let s = astride (chunks c).before in
    let a = s.args in
    let e = (chunks c).keep_chunks.ensures in
    let all : 0 + total s ≡ total s = zero-add (total s) in (
      e.0 ∙ ap (λ (k : ℕ). count (in_runs k (runs s))) all ∙ all_held s,
      e.1 ∙ ap (λ (k : ℕ). laid a.at (compose (self s) (in_runs k (runs s))) a.out.now) all,
    )

keep-whole-requires : tie.Need-keep_whole-reached-requires
keep-whole-requires c κs =
    let s = aligned c in
    (omega (arith, s.requires.0), omega (arith, s.requires.1), reached_none s)

mul-done : tie.Need-overflow_mul-done
mul-done c = omega arith

add-keep-chunks : tie.Need-overflow_add-start
add-keep-chunks c = omega (arith, (start (words c)).requires.0, (start (words c)).requires.1)

sub-keep-chunks : tie.Need-overflow_sub-len
sub-keep-chunks c = omega arith

add-keep-chunks-2 : tie.Need-overflow_add-at
add-keep-chunks-2 c = omega (arith, (start (words c)).requires.0, (start (words c)).requires.1)

keep-chunks-requires-2 : tie.Need-keep_chunks-requires-2
keep-chunks-requires-2 c κs =
    let k = words c.before in
    let p = (start k).requires in
    let e = k.keep_whole-reached.ensures in
    let long = rw laid_length at (ap length e.3) in
    (omega (arith, p.0), omega (arith, p.0), (omega (arith, p.1, long), omega (arith, p.1)), omega (arith, p.0, few k), e.1, e.2)

same-length-2 : tie.Need-shape_of-out
same-length-2 c = search rules

returns-2 : tie.Need-returns
returns-2 c =
    let e = ended c in
    let k = words (asked e) in
    let s = start k in
    let a = s.args in
    let r = in_runs (total s) (runs s) in (
      e.keep_chunks-2.ensures.0 ∙ ap (λ (x : ℕ). count (in_runs x (runs s))) (sum k) ∙ all_held s,
      e.keep_chunks-2.ensures.1
          ∙ ap₂ (λ (l : List Bool) (o : List ℕ). laid (a.at + done k) (compose (view (a.start + done k) (rest k) (ws s)) l) o)
          (ap₂ (λ (x y : ℕ). drop x (in_runs y (runs s))) k.keep_whole-reached.ensures.0 (sum k))
          (k.keep_whole-reached.ensures.3 ∙ whole k)
          ∙ whole_and_rest a.start a.at (done k) (rest k) (ws s) a.out.now r (omega (arith, s.requires.0.2))
          ∙ ap (λ (i : ℕ). laid a.at (compose (view a.start i (ws s)) r) a.out.now) (all k),
    )

pub keep_words_spec : {M : Type 1} → statement M
keep_words_spec =
    tie.close
    (tie.spec
    keep-chunks-requires
    same_length
    returns
    keep-whole-requires
    mul-done
    add-keep-chunks
    sub-keep-chunks
    add-keep-chunks-2
    keep-chunks-requires-2
    same-length-2
    returns-2)
