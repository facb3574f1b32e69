-- A window over the rows that runs say, gathered as a word: what one run has in it, and what a loop keeps that gathers run by run, with a law for no
-- run, a law for one run more, and laws for the two ends. By three parts of the window: before a run, in it, and past it.
-- Assumes nothing.
use Prim.Native.Nat.{ℕ, ◌+◌, ◌-◌, ◌*◌, ◌%◌, ◌^◌, ◌≤◌, ◌<◌}
use native.Mathlib.Nat.{mod-eq_of_lt, lt_of_lt_of_le, add-zero}
use native.Mathlib.Decide.{dec_lt}
use mathlib.Core.Path.{◌≡◌, refl, sym, ap, ap₂, subst, ◌∙◌}
use mathlib.Core.Bool.{Bool, true, false, ◌&&◌, ◌||◌, and-false, or-false}
use mathlib.Core.List.{List, [], ◌++◌}
use native.Mathlib.Omega.{arith}
use borrow.Author.Tests.{lt-ltb, le-ltb, le-leb, lt-leb}
use lib.Dec.{leb, ltb}
use lib.Bits.{bit_or}
use lib.ListN.{length, drop, get_or, replicate, length-replicate, drop_of_length-le}
use lib.Pow.{pow_mono}
use Rattle.rows.specs.Word.{word_of}
use Rattle.rows.specs.Lists.{tab}
use Rattle.rows.specs.Runs.{held, Apart}
use Rattle.rows.proofs.WordLaws.{word_of_append, word_of_lt}
use Rattle.rows.proofs.ChunkLaws.{word_true, word_false}
use Rattle.rows.proofs.ListLaws.{tab_length}
use Rattle.rows.proofs.RunLaws.{held_below, held_past, tab_add, tab_all, apart_wider}
use Rattle.rows.proofs.RunTurnLaws.{NextRun, next_run}
use Rattle.books.specs.Windows.{window, into, Reached, two_unless, ended_before}
use Rattle.books.proofs.GatherLaws.{tab_same, word_none, word_or}

-- ---- what one run has in the window

abbrev pub in_run : ℕ → ℕ → ℕ → Bool
in_run first past i = leb first i && ltb i past

module _ (first past base n : ℕ) where
  abbrev begin : ℕ
  begin = into base n first

  abbrev end : ℕ
  end = into base n past

  -- nothing
  pub run_none : end ≤ begin → 0 ≡ word_of (tab base n (in_run first past))
  run_none h = sym (word_none base n (in_run first past) (λ i lo hi. out i lo hi (dec_lt i first)))
    where
      out : (i : ℕ) → base ≤ i → i < base + n → Dec (i < first) → in_run first past i ≡ false
      out i lo hi (yes k) = ap (λ (b : Bool). b && ltb i past) (lt-leb first i k)
      out i lo hi (no k) = ap (λ (b : Bool). leb first i && b) (le-ltb i past (omega arith)) ∙ and-false (leb first i)

  -- or ones, so many, from where it begins
  parts : begin < end → tab base n (in_run first past) ≡ replicate begin false ++ (replicate (end - begin) true ++ replicate (n - end) false)
  parts h =
      let all : n ≡ begin + ((end - begin) + (n - end)) = omega arith in
      ap (λ (k : ℕ). tab base k (in_run first past)) all ∙ tab_add base begin ((end - begin) + (n - end)) (in_run first past)
      ∙ ap₂ (λ (l m : List Bool). l ++ m)
      (tab_all base begin (in_run first past) false (λ i lo hi. ap (λ (b : Bool). b && ltb i past) (lt-leb first i (omega arith))))
      (tab_add (base + begin) (end - begin) (n - end) (in_run first past)
      ∙ ap₂ (λ (l m : List Bool). l ++ m)
      (tab_all (base + begin) (end - begin) (in_run first past) true (λ i lo hi.
      ap₂ (λ (a b : Bool). a && b) (le-leb first i (omega arith)) (lt-ltb i past (omega arith))))
      (tab_all (base + begin + (end - begin)) (n - end) (in_run first past) false (λ i lo hi.
      ap (λ (b : Bool). leb first i && b) (le-ltb i past (omega arith)) ∙ and-false (leb first i))))

  pub run_some : begin < end → n ≤ 64 → ((2 ^ (end - begin) - 1) * 2 ^ begin) % 2 ^ 64 ≡ word_of (tab base n (in_run first past))
  run_some h few =
      let k : ℕ = end - begin in
      let full : word_of (replicate k true) ≡ 2 ^ k - 1 = omega (arith, word_true k) in
      let is : word_of (tab base n (in_run first past)) ≡ (2 ^ k - 1) * 2 ^ begin =
      ap word_of (parts h) ∙ word_of_append (replicate begin false) _
      ∙ ap₂ (λ (x y : ℕ). x + y)
      (ap₂ (λ (x y : ℕ). x * 2 ^ y)
      (word_of_append (replicate k true) (replicate (n - end) false)
      ∙ ap₂ (λ (x y : ℕ). x * 2 ^ length (replicate k true) + y) (word_false (n - end)) full)
      (length-replicate begin false))
      (word_false begin)
      ∙ omega arith in
      let small : word_of (tab base n (in_run first past)) < 2 ^ 64 =
      lt_of_lt_of_le (word_of_lt (tab base n (in_run first past))) (subst (λ (m : ℕ). 2 ^ m ≤ 2 ^ 64) (sym (tab_length base n (in_run first past))) (pow_mono {i = n} {j = 64} few)) in
      ap (λ (x : ℕ). x % 2 ^ 64) (sym is) ∙ mod-eq_of_lt small

-- none is set below the runs
pub window_below : (b n c e : ℕ) (ns : List ℕ) → b + n ≤ c → Apart c e ns → (i : ℕ) → i < b + n → held i ns ≡ false
window_below b n c e ns h a i k = held_below i c e ns (omega arith) a

-- ---- what a loop keeps that gathers a window's rows, n from base on

or_assoc : (a b c : Bool) → ((a || b) || c) ≡ (a || (b || c))
or_assoc true b c = refl
or_assoc false b c = refl

module _ (runs : List ℕ) (base n : ℕ) where
  pub record Gathering (i bits : ℕ) : Type 0 where
    pub gathered : ℕ → Bool
    pub is : bits ≡ word_of (tab base n gathered)
    pub left : (r : ℕ) → base ≤ r → (gathered r || held r (drop i runs)) ≡ held r runs
    pub from : ℕ
    pub ahead : Apart from 1048576 (drop i runs)
    pub behind : (r : ℕ) → base + n ≤ r → held r runs ≡ held r (drop i runs)

  pub gathering_none : (i : ℕ) → Reached runs i base → Gathering i 0
  gathering_none i r = record {
    gathered = λ k. false;
    is = sym (word_none base n (λ k. false) (λ k lo hi. refl));
    left = λ k h. sym (r.behind k h);
    from = 0;
    ahead = r.ahead;
    behind = λ k h. r.behind k (omega arith);
  }

  module _ (i bits : ℕ) (g : Gathering i bits) where
    reached : Reached runs i (base + n)
    reached = record { ahead = apart_wider 0 g.from 1048576 1048576 (drop i runs) (omega arith) (omega arith) g.ahead; behind = g.behind }

    -- where no run that is left holds a row of the window
    ended : (f : ℕ → Bool) (ns : List ℕ) → ((r : ℕ) → base ≤ r → (f r || held r ns) ≡ held r runs) → ((r : ℕ) → r < base + n → held r ns ≡ false)
        → word_of (tab base n f) ≡ word_of (window base n runs)
    ended f ns all none =
        ap word_of (tab_same base n f (λ r. held r runs) (λ r lo hi. sym (or-false (f r)) ∙ ap (λ (b : Bool). f r || b) (sym (none r hi)) ∙ all r lo))

    module _ (h : i < length runs) where
      pub gathering_next : NextRun g.from 1048576 i runs
      gathering_next = next_run g.from 1048576 i runs h g.ahead

      abbrev first : ℕ
      first = get_or runs i 0

      abbrev past : ℕ
      past = get_or runs (i + 1) 0

      abbrev with_run : ℕ → Bool
      with_run r = g.gathered r || in_run first past r

      joined : (part : ℕ) → part ≡ word_of (tab base n (in_run first past)) → bit_or bits part ≡ word_of (tab base n with_run)
      joined part e = ap₂ bit_or g.is e ∙ sym (word_or base n g.gathered (in_run first past))

      left_over : (r : ℕ) → base ≤ r → (with_run r || held r (drop (i + 2) runs)) ≡ held r runs
      left_over r k = or_assoc (g.gathered r) (in_run first past r) _ ∙ ap (λ (ns : List ℕ). g.gathered r || held r ns) (sym gathering_next.is) ∙ g.left r k

      -- the window goes on behind the run
      pub gathering_run : (part : ℕ) → part ≡ word_of (tab base n (in_run first past)) → past ≤ base + n → Gathering (i + 2) (bit_or bits part)
      gathering_run part e k = record {
        gathered = with_run;
        is = joined part e;
        left = left_over;
        from = past;
        ahead = gathering_next.left;
        behind = λ r l. g.behind r l ∙ ap (held r) gathering_next.is ∙ held_past r first past (drop (i + 2) runs) (omega arith);
      }

      -- it ends in the run, or before it
      pub gathering_stop : (part : ℕ) → part ≡ word_of (tab base n (in_run first past)) → base + n ≤ past
          → (bit_or bits part ≡ word_of (window base n runs)) × Reached runs i (base + n)
      gathering_stop part e k =
          (joined part e ∙ ended with_run (drop (i + 2) runs) left_over (window_below base n past 1048576 (drop (i + 2) runs) k gathering_next.left), reached)

    -- no run is left
    pub gathering_end : length runs ≤ i → (bits ≡ word_of (window base n runs)) × Reached runs i (base + n)
    gathering_end h =
        let none : drop i runs ≡ [] = drop_of_length-le runs {i = i} h in
        (g.is ∙ ended g.gathered (drop i runs) g.left (λ r k. ap (held r) none), reached)

-- ---- which run a walk comes to: the runs that are left, by the next of them

module _ (e b m i : ℕ) (runs : List ℕ) where
  pub ended_none : length runs ≤ i → i + ended_before e (drop i runs) ≡ i
  ended_none h = ap (λ (l : List ℕ). i + ended_before e l) (drop_of_length-le runs {i = i} h) ∙ add-zero i

  module _ (r : NextRun b m i runs) where
    by_next : ended_before e (drop i runs) ≡ two_unless (leb e (get_or runs (i + 1) 0)) (ended_before e (drop (i + 2) runs))
    by_next = ap (ended_before e) r.is

    pub ended_here : e ≤ get_or runs (i + 1) 0 → i + ended_before e (drop i runs) ≡ i
    ended_here h =
        ap (λ (x : ℕ). i + x) (by_next ∙ ap (λ (t : Bool). two_unless t (ended_before e (drop (i + 2) runs))) (le-leb e (get_or runs (i + 1) 0) h)) ∙ add-zero i

    pub ended_on : get_or runs (i + 1) 0 < e → i + ended_before e (drop i runs) ≡ i + 2 + ended_before e (drop (i + 2) runs)
    ended_on h =
        ap (λ (x : ℕ). i + x) (by_next ∙ ap (λ (t : Bool). two_unless t (ended_before e (drop (i + 2) runs))) (lt-leb e (get_or runs (i + 1) 0) h))
        ∙ omega arith
