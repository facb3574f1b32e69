-- Ranks that are alike: what a walk over runs knows of them, what they keep of the words of self that have them, and how many they are. By the rows of
-- runs before, in and behind a run, and by the law that only as many ranks matter to rows as these have set.
-- Assumes nothing.
use Prim.Native.Nat.{ℕ, zero, suc, ◌+◌, ◌-◌, ◌*◌, ◌^◌, ◌≤◌, ◌<◌}
use native.Mathlib.Nat.{zero-add, add-zero}
use mathlib.Core.Path.{◌≡◌, refl, sym, ap, ap₂, ◌∙◌, subst}
use mathlib.Core.Bool.{Bool, true, false, ◌&&◌, ◌||◌}
use mathlib.Core.List.{List}
use native.Mathlib.Omega.{arith}
use borrow.Author.Tests.{lt-leb}
use lib.Dec.{ltb}
use lib.Count.{ones}
use lib.ListN.{length, take, drop, get_or, set, replicate, length-replicate, drop_of_length-le}
use Rattle.rows.specs.Rows.{count, compose}
use Rattle.rows.specs.Word.{bits_of, word_of}
use Rattle.rows.specs.Words.{fit, bits_of_all, view}
use Rattle.rows.specs.Lists.{tab}
use Rattle.rows.specs.Runs.{held, in_runs}
use Rattle.rows.specs.Pdep.{pdep}
use Rattle.rows.proofs.RowLaws.{count_append, count_le_length, compose_by_full, compose_by_empty}
use Rattle.rows.proofs.WordLaws.{bits_of_length, word_of_bits_of, bits_of_word_of, ones_word, word_of_lt}
use Rattle.rows.proofs.WordsLaws.{fit_length}
use Rattle.rows.proofs.ChunkLaws.{same_part, word_false}
use Rattle.rows.proofs.FitLaws.{compose_cut}
use Rattle.rows.proofs.ListLaws.{tab_length}
use Rattle.rows.proofs.PdepLaws.{pdep_is}
use Rattle.rows.proofs.RunLaws.{held_below, held_first, tab_add, tab_all}
use Rattle.rows.proofs.RunTurnLaws.{NextRun, next_run}
use Rattle.books.specs.Windows.{window, Reached}
use Rattle.books.proofs.GatherLaws.{tab_part}
use Rattle.deposits.proofs.WholeLaws.{Stored, stored_word}
use Rattle.kept.specs.Alike.{all_or_none}

-- ---- which they are, from a rank on that a walk has come to

-- it has come to every later rank too, if it looks at no run before them
pub reached_on : (runs : List ℕ) (next b c : ℕ) → b ≤ c → Reached runs next b → Reached runs next c
reached_on runs next b c h r = record { ahead = r.ahead; behind = λ i k. r.behind i (omega arith) }

module _ (runs : List ℕ) (next rank : ℕ) (at : Reached runs next rank) where
  -- no run is left
  pub stretch_end : (n : ℕ) → length runs ≤ next → window rank n runs ≡ replicate n false
  stretch_end n h = tab_all rank n (λ i. held i runs) false (λ i lo hi. at.behind i lo ∙ ap (held i) (drop_of_length-le runs {i = next} h))

  module _ (h : next < length runs) where
    pub stretch_run : NextRun 0 1048576 next runs
    stretch_run = next_run 0 1048576 next runs h at.ahead

    abbrev first : ℕ
    first = get_or runs next 0

    abbrev past : ℕ
    past = get_or runs (next + 1) 0

    -- before the next run
    pub stretch_before : window rank (get_or runs next 0 - rank) runs ≡ replicate (get_or runs next 0 - rank) false
    stretch_before =
        tab_all rank (first - rank) (λ i. held i runs) false (λ i lo hi.
        (let none = held_below i past 1048576 (drop (next + 2) runs) (omega (arith, stretch_run.some)) stretch_run.left in
        at.behind i lo ∙ ap (held i) stretch_run.is
        ∙ ap₂ (λ (a b : Bool). (a && ltb i past) || b) (lt-leb first i (omega arith)) none))

    -- in it
    pub stretch_in : get_or runs next 0 ≤ rank → window rank (get_or runs (next + 1) 0 - rank) runs ≡ replicate (get_or runs (next + 1) 0 - rank) true
    stretch_in k =
        tab_all rank (past - rank) (λ i. held i runs) true (λ i lo hi.
        at.behind i lo ∙ ap (held i) stretch_run.is ∙ held_first i first past (drop (next + 2) runs) (omega arith) (omega arith))

-- ---- how many they are

same_count : (n : ℕ) (v : Bool) → count (replicate n v) ≡ all_or_none v n
same_count zero true = refl
same_count zero false = refl
same_count (suc n) true = ap suc (same_count n true)
same_count (suc n) false = same_count n false

module _ (runs : List ℕ) (rank most : ℕ) (v : Bool) (alike : window rank most runs ≡ replicate most v) where
  fewer : (n : ℕ) → n ≤ most → window rank n runs ≡ replicate n v
  fewer n h =
      sym (tab_part rank most 0 n (λ i. held i runs) (omega arith) ∙ ap (λ (k : ℕ). tab k n (λ i. held i runs)) (add-zero rank))
      ∙ ap (take n) alike ∙ same_part v 0 n most (omega arith)

  pub alike_held : (n : ℕ) → n ≤ most → all_or_none v n ≡ count (window rank n runs)
  alike_held n h = sym (ap count (fewer n h) ∙ same_count n v)

-- those before a rank, and those from it on
pub held_on : (rank n : ℕ) (runs : List ℕ) → count (in_runs (rank + n) runs) ≡ count (in_runs rank runs) + count (window rank n runs)
held_on rank n runs =
    ap count (tab_add 0 rank n (λ i. held i runs)) ∙ count_append (in_runs rank runs) (tab (0 + rank) n (λ i. held i runs))
    ∙ ap (λ (k : ℕ). count (in_runs rank runs) + count (window k n runs)) (zero-add rank)

-- no more than there are
pub held_few : (rank : ℕ) (runs : List ℕ) → count (in_runs rank runs) ≤ rank
held_few rank runs = omega (arith, count_le_length (in_runs rank runs), tab_length 0 rank (λ i. held i runs))

-- ---- what they keep

compose_alike : (t : List Bool) (v : Bool) (c most : ℕ) → c + count t ≤ most → compose t (drop c (replicate most v)) ≡ compose t (replicate (count t) v)
compose_alike t v c most h =
    sym (compose_cut (count t) t (drop c (replicate most v)) (omega arith)) ∙ ap (compose t) (same_part v c (count t) most h)

-- a word of them
bits_alike : (v : Bool) → bits_of 64 (word_of (replicate 64 v)) ≡ replicate 64 v
bits_alike v = ap (λ (n : ℕ). bits_of n (word_of (replicate 64 v))) (sym (length-replicate 64 v)) ∙ bits_of_word_of (replicate 64 v)

pub alike_same : (t : List Bool) (v : Bool) (c most : ℕ) → length t ≤ 64 → c + count t ≤ most
    → compose t (bits_of 64 (word_of (replicate 64 v))) ≡ compose t (drop c (replicate most v))
alike_same t v c most short h =
    ap (compose t) (bits_alike v) ∙ compose_alike t v 0 64 (omega (arith, count_le_length t)) ∙ sym (compose_alike t v c most h)

pub alike_word : (w : ℕ) (v : Bool) → w < 2 ^ 64 → all_or_none v w ≡ pdep 64 (word_of (replicate 64 v)) w
alike_word w true h =
    let bits = bits_of 64 w in
    let long = length-replicate (count bits) true in
    sym (pdep_is 64 (word_of (replicate 64 true)) w
    ∙ ap word_of (ap (compose bits) (bits_alike true) ∙ compose_alike bits true 0 64 (omega (arith, count_le_length bits, bits_of_length 64 w))
    ∙ compose_by_full bits (replicate (count bits) true) (same_count (count bits) true ∙ sym long) long)
    ∙ word_of_bits_of 64 w h)
alike_word w false h =
    let bits = bits_of 64 w in
    sym (pdep_is 64 (word_of (replicate 64 false)) w
    ∙ ap word_of (ap (compose bits) (bits_alike false) ∙ compose_by_empty bits (replicate 64 false) (same_count 64 false))
    ∙ word_false (length bits))

-- rows whose ranks they are
pub part_alike : (t : List Bool) (runs : List ℕ) (rank most total : ℕ) (v : Bool) → window rank most runs ≡ replicate most v
    → count t ≤ most → rank + count t ≤ total → compose t (replicate most v) ≡ compose t (drop rank (in_runs total runs))
part_alike t runs rank most total v alike few room =
    compose_alike t v 0 most (omega arith) ∙ ap (compose t) (sym (fewer runs rank most v alike (count t) few))
    ∙ ap (compose t) (sym (tab_part 0 total rank (count t) (λ i. held i runs) room ∙ ap (λ (k : ℕ). tab k (count t) (λ i. held i runs)) (zero-add rank)))
    ∙ compose_cut (count t) t (drop rank (in_runs total runs)) (omega arith)

-- a word of a stretch more, stored as it is or as 0
pub stored_alike : (start first k to : ℕ) (ws out₀ out : List ℕ) (most had word put : ℕ) (v : Bool) → start + (first + k) * 64 + 64 ≤ length ws * 64
    → Stored (start + first * 64) (to + first) ws out₀ (replicate most v) k had out
    → word ≡ word_of (fit 64 (drop (start + (first + k) * 64) (bits_of_all 64 ws))) → had + ones word ≤ most → put ≡ all_or_none v word
    → Stored (start + first * 64) (to + first) ws out₀ (replicate most v) (k + 1) (had + ones word) (set out (to + first + k) put)
stored_alike start first k to ws out₀ out most had word put v reach s is few e =
    let from = start + first * 64 in
    let r = replicate most v in
    let rows = drop (from + k * 64) (bits_of_all 64 ws) in
    let t = fit 64 rows in
    let place : start + (first + k) * 64 ≡ from + k * 64 = omega arith in
    let own : word ≡ word_of t = is ∙ ap (λ (x : ℕ). word_of (fit 64 (drop x (bits_of_all 64 ws)))) place in
    let small : word < 2 ^ 64 =
    subst (λ (x : ℕ). x < 2 ^ 64) (sym own) (subst (λ (n : ℕ). word_of t < 2 ^ n) (fit_length 64 rows) (word_of_lt t)) in
    let room : count (view from (k * 64) ws) + count t ≤ most = omega (arith, ap ones own, ones_word t, s.counted) in
    let short : length t ≤ 64 = omega (arith, fit_length 64 rows) in
    stored_word from k (to + first) ws out₀ r (omega arith) had word (word_of (replicate 64 v)) put out s own
    (alike_same t v (count (view from (k * 64) ws)) most short room) (e ∙ alike_word word v small)

-- the same for what is left of a stretch, which goes down by the word's rows
pub stored_left : (start first k to : ℕ) (ws out₀ out : List ℕ) (most left word put : ℕ) (v : Bool) → start + (first + k) * 64 + 64 ≤ length ws * 64
    → Stored (start + first * 64) (to + first) ws out₀ (replicate most v) k (most - left) out → left ≤ most
    → word ≡ word_of (fit 64 (drop (start + (first + k) * 64) (bits_of_all 64 ws))) → ones word ≤ left → put ≡ all_or_none v word
    → Stored (start + first * 64) (to + first) ws out₀ (replicate most v) (k + 1) (most - (left - ones word)) (set out (to + first + k) put)
stored_left start first k to ws out₀ out most left word put v reach s within is few e =
    subst (λ (x : ℕ). Stored (start + first * 64) (to + first) ws out₀ (replicate most v) (k + 1) x (set out (to + first + k) put)) (omega (arith, within, few))
    (stored_alike start first k to ws out₀ out most (most - left) word put v reach s is (omega (arith, within, few)) e)
