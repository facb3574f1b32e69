-- A rank list on self in runs: the ranks that one run takes, the rows that it has at them, and what a loop over the runs keeps. By the laws of the
-- next run, and of select on the rows before it and on its own.
-- Assumes nothing.
use Prim.Native.Nat.{ℕ, zero, suc, ◌+◌, ◌-◌, ◌*◌, ◌/◌, ◌^◌, ◌≤◌, ◌<◌}
use native.Mathlib.Nat.{le_of_suc-le-suc}
use native.Mathlib.Numerals.{add-one}
use native.Mathlib.Decide.{dec_lt}
use mathlib.Core.Path.{◌≡◌, refl, sym, ap, ap₂, ◌∙◌, subst}
use mathlib.Core.Bool.{Bool, true, false}
use mathlib.Core.List.{List, [], ◌∷◌, ◌++◌, map, map-append, append_assoc}
use native.Mathlib.Omega.{arith}
use lib.ListN.{length, drop, get_or, replicate, length-append, length-replicate, drop_of_length-le}
use lib.Seq.{drop-cons}
use Rattle.rows.specs.Rows.{count, compose}
use Rattle.rows.specs.Words.{Below}
use Rattle.rows.specs.Lists.{member, listed, Ascending, set_rows, select}
use Rattle.rows.specs.Runs.{held, in_runs, run_lengths, Apart}
use Rattle.rows.specs.Laid.{laid, marked}
use Rattle.rows.proofs.RowLaws.{count_append, count_le_length, compose_count}
use Rattle.rows.proofs.SelectLaws.{select_unset, select_set, select_in, select_skip}
use Rattle.rows.proofs.ListLaws.{tab_length, listed_count}
use Rattle.rows.proofs.MarkLaws.{marked_append, marked_length, ascending_below, below_at}
use Rattle.rows.proofs.RunLaws.{run_rows, in_runs_lem, rows_sum, runs_count, runs_few}
use Rattle.rows.proofs.RunTurnLaws.{rows_none}
use Rattle.rows.proofs.PairLaws.{NextPair, rows_pair, pairs_passed}
use Rattle.marks.proofs.DrivenLaws.{ascending_in, rows_at}
use Rattle.under.specs.Taken.{Taken}

-- ---- the ranks that a run takes

below_snoc : (e r : ℕ) (rs : List ℕ) → Below e rs → r < e → Below e (rs ++ (r ∷ []))
below_snoc e r [] b h = (h, tt)
below_snoc e r (x ∷ rs) b h = (b.0, below_snoc e r rs b.1 h)

module _ (ranks : List ℕ) (row : ℕ → ℕ) (at next end from : ℕ) (out₀ : List ℕ) where
  pub taken_none : next ≤ length ranks → Ascending from (2 ^ 32) (drop next ranks) → Taken ranks row at next next end from out₀ out₀
  taken_none h a = record { taken = []; parts = refl; within = h; below = tt; ahead = a; marks = refl }

  module _ (past : ℕ) (out : List ℕ) (t : Taken ranks row at next past end from out₀ out) where
    pub taken_length : length out ≡ length out₀
    taken_length = ap length t.marks ∙ marked_length at (map row t.taken) out₀

    module _ (h : past < length ranks) where
      abbrev rank : ℕ
      rank = get_or ranks past 0

      is : drop past ranks ≡ get_or ranks past 0 ∷ drop (past + 1) ranks
      is = drop-cons ranks past 0 h ∙ ap (λ (j : ℕ). get_or ranks past 0 ∷ drop j ranks) (sym (add-one past))

      -- the next that is left
      pub taken_ahead : Ascending from (2 ^ 32) (get_or ranks past 0 ∷ drop (past + 1) ranks)
      taken_ahead = subst (Ascending from (2 ^ 32)) is t.ahead

      -- one more
      pub taken_next : (then : List ℕ) → get_or ranks past 0 < end → then ≡ laid (at + row (get_or ranks past 0)) (true ∷ []) out
          → Taken ranks row at next (past + 1) end from out₀ then
      taken_next then l e =
          let a = taken_ahead in
          record {
            taken = t.taken ++ (rank ∷ []);
            parts = t.parts ∙ ap (λ (rs : List ℕ). t.taken ++ rs) is ∙ sym (append_assoc t.taken (rank ∷ []) (drop (past + 1) ranks));
            within = omega arith;
            below = below_snoc end rank t.taken t.below l;
            ahead = ascending_in from (suc rank) (2 ^ 32) (2 ^ 32) (drop (past + 1) ranks) (omega (arith, a.0)) (omega arith) a.2;
            marks =
                e ∙ ap (laid (at + row rank) (true ∷ [])) t.marks
                ∙ sym (ap (λ (rs : List ℕ). marked at rs out₀) (map-append row t.taken (rank ∷ []))
                ∙ marked_append at (map row t.taken) (row rank ∷ []) out₀);
          }

    -- the others are left to the runs behind it
    left : Ascending end (2 ^ 32) (drop past ranks) → Taken ranks row at next past end end out₀ out
    left a = record { taken = t.taken; parts = t.parts; within = t.within; below = t.below; ahead = a; marks = t.marks }

    pub taken_past : past < length ranks → end ≤ get_or ranks past 0 → Taken ranks row at next past end end out₀ out
    taken_past h l =
        let a = taken_ahead h in
        left (subst (Ascending end (2 ^ 32)) (sym (is h)) (l, a.1, a.2))

    pub taken_all : length ranks ≤ past → Taken ranks row at next past end end out₀ out
    taken_all h = left (subst (Ascending end (2 ^ 32)) (sym (drop_of_length-le ranks {i = past} h)) tt)

-- their rows by another function that has the same ones
same_rows : (f g : ℕ → ℕ) (b e top : ℕ) (ps rs : List ℕ) → ((k : ℕ) → b ≤ k → k < e → f k ≡ g k) → Below e ps → Ascending b top (ps ++ rs)
    → map f ps ≡ map g ps
same_rows f g b e top [] rs s l a = refl
same_rows f g b e top (p ∷ ps) rs s l a =
    ap₂ (λ (x : ℕ) (l : List ℕ). x ∷ l) (s p a.0 l.0)
    (same_rows f g b e top ps rs s l.1 (ascending_in b (suc p) top top (ps ++ rs) (omega (arith, a.0)) (omega arith) a.2))

-- ---- a run: unset rows and then set ones

select_run : (m n k : ℕ) → k < n → select (replicate m false ++ replicate n true) k ≡ m + k
select_run zero zero k h = absurd (omega arith)
select_run zero (suc n) zero h = refl
select_run zero (suc n) (suc k) h = select_set (replicate n true) k ∙ ap suc (select_run zero n k (le_of_suc-le-suc h)) ∙ omega arith
select_run (suc m) n k h = select_unset (replicate m false ++ replicate n true) k ∙ ap suc (select_run m n k h) ∙ omega arith

count_run : (m n : ℕ) → count (replicate m false ++ replicate n true) ≡ n
count_run zero zero = refl
count_run zero (suc n) = ap suc (count_run zero n)
count_run (suc m) n = count_run m n

length_run : (m n : ℕ) → length (replicate m false ++ replicate n true) ≡ m + n
length_run m n =
    length-append (replicate m false) (replicate n true) ∙ ap₂ (λ (x y : ℕ). x + y) (length-replicate m false) (length-replicate n true)

-- ---- a walk over the runs

module _ (runs : List ℕ) (len : ℕ) where
  abbrev self : List Bool
  self = in_runs len runs

  -- the runs from pair k on are left, and so many ranks are passed
  pub record Walk (k passed : ℕ) : Type 0 where
    pub row : ℕ
    pub front : List Bool
    pub parts : in_runs len runs ≡ front ++ run_rows row len (drop (k * 2) runs)
    pub long : length front ≡ row
    pub counted : count front ≡ passed
    pub ahead : Apart row len (drop (k * 2) runs)

  pub walk_none : Apart 0 len runs → Walk 0 0
  walk_none a = record { row = 0; front = []; parts = in_runs_lem len runs a; long = refl; counted = refl; ahead = a }

  module _ (k passed : ℕ) (w : Walk k passed) where
    abbrev rest : List Bool
    rest = run_rows w.row len (drop (k * 2) runs)

    counts : count self ≡ passed + count rest
    counts = ap count w.parts ∙ count_append w.front rest ∙ ap (λ (n : ℕ). n + count rest) w.counted

    -- a rank that self has and that is not passed is in a run that is left
    pub walk_on : (rank : ℕ) → passed ≤ rank → rank < count (in_runs len runs) → k < length runs / 2
    walk_on rank l h = go (dec_lt k (length runs / 2))
      where
        go : Dec (k < length runs / 2) → k < length runs / 2
        go (yes p) = p
        go (no p) =
            let end = pairs_passed w.row len k runs w.ahead (omega arith) in
            absurd (omega (arith, counts, ap count (rows_none w.row len (k * 2) runs end), rows_sum w.row len []))

    module _ (first past : ℕ) (r : NextPair w.row len k runs first past) where
      abbrev gap : ℕ
      gap = first - w.row

      abbrev own : ℕ
      own = past - first

      abbrev run : List Bool
      run = replicate gap false ++ replicate own true

      abbrev others : List Bool
      others = run_rows past len (drop ((k + 1) * 2) runs)

      split : rest ≡ run ++ others
      split = rows_pair w.row len k first past runs r ∙ sym (append_assoc (replicate gap false) (replicate own true) others)

      -- a rank that the run has
      pub walk_row : (j : ℕ) → passed ≤ j → j < passed + (past - first) → select (in_runs len runs) j ≡ first + (j - passed)
      walk_row j l u =
          let here : j - count w.front ≡ j - passed = ap (λ (n : ℕ). j - n) w.counted in
          let within : j - passed < count run = omega (arith, count_run gap own) in
          let place : w.row + (gap + (j - passed)) ≡ first + (j - passed) = omega (arith, r.from) in
          ap (λ (s : List Bool). select s j) w.parts ∙ select_skip w.front rest j (omega (arith, w.counted))
          ∙ ap₂ (λ (n : ℕ) (s : List Bool). n + select s (j - count w.front)) w.long split
          ∙ ap (λ (n : ℕ). w.row + select (run ++ others) n) here
          ∙ ap (λ (n : ℕ). w.row + n) (select_in run others (j - passed) within ∙ select_run gap own (j - passed) (omega arith)) ∙ place

      -- its ranks are no more than the rows
      pub walk_few : passed + (past - first) ≤ len
      walk_few =
          omega
          (arith, counts, ap count split, count_append run others, count_run gap own, count_le_length self, tab_length 0 len (λ j. held j runs))

      pub walk_run : Walk (k + 1) (passed + (past - first))
      walk_run = record {
        row = past;
        front = w.front ++ run;
        parts = w.parts ∙ ap (λ (s : List Bool). w.front ++ s) split ∙ sym (append_assoc w.front run others);
        long = length-append w.front run ∙ omega (arith, w.long, length_run gap own, r.from, r.some);
        counted = count_append w.front run ∙ ap₂ (λ (x y : ℕ). x + y) w.counted (count_run gap own);
        ahead = r.left;
      }

-- ---- a loop over the runs

module _ (runs ranks : List ℕ) (len at : ℕ) where
  -- the ranks from number `next` on are left: with their rows marked too the words are `goal`
  pub record Marking (k next passed : ℕ) (out goal : List ℕ) : Type 0 where
    pub walk : Walk runs len k passed
    pub within : next ≤ length ranks
    pub ahead : Ascending passed (2 ^ 32) (drop next ranks)
    pub marks : marked at (map (select (in_runs len runs)) (drop next ranks)) out ≡ goal

  pub marking_none : (out : List ℕ) → Apart 0 len runs → len ≤ 1048576 → Ascending 0 (run_lengths runs) ranks
      → Marking 0 0 0 out (marked at (map (select (in_runs len runs)) ranks) out)
  marking_none out a h up = record {
    walk = walk_none runs len a;
    within = omega arith;
    ahead = ascending_in 0 0 (run_lengths runs) (2 ^ 32) ranks (omega arith) (omega (arith, runs_few 0 len runs a (omega arith))) up;
    marks = refl;
  }

  module _ (k next passed : ℕ) (out goal : List ℕ) (m : Marking k next passed out goal) where
    -- a run is left where a rank is
    pub marking_on : Apart 0 len runs → Ascending 0 (run_lengths runs) ranks → next < length ranks → k < length runs / 2
    marking_on a up h =
        let head = subst (Ascending passed (2 ^ 32)) (drop-cons ranks next 0 h) m.ahead in
        let few = below_at (run_lengths runs) ranks next (ascending_below 0 (run_lengths runs) ranks up) h in
        walk_on runs len k passed m.walk (get_or ranks next 0) head.0 (omega (arith, few, runs_count len runs a))

    pub marking_run : (first past : ℕ) (r : NextPair m.walk.row len k runs first past) (after : ℕ) (then : List ℕ)
        → Taken ranks (λ j. first + (j - passed)) at next after (passed + (past - first)) (passed + (past - first)) out then
        → Marking (k + 1) after (passed + (past - first)) then goal
    marking_run first past r after then t =
        let end : ℕ = passed + (past - first) in
        let here : ℕ → ℕ = λ j. first + (j - passed) in
        let row : ℕ → ℕ = select (in_runs len runs) in
        let others = drop after ranks in
        let same : map row t.taken ≡ map here t.taken =
        same_rows row here passed end (2 ^ 32) t.taken others (walk_row runs len k passed m.walk first past r) t.below
        (subst (Ascending passed (2 ^ 32)) t.parts m.ahead) in
        let parts : map row (drop next ranks) ≡ map here t.taken ++ map row others =
        ap (map row) t.parts ∙ map-append row t.taken others ∙ ap (λ (l : List ℕ). l ++ map row others) same in
        record {
          walk = walk_run runs len k passed m.walk first past r;
          within = t.within;
          ahead = t.ahead;
          marks =
              ap (marked at (map row others)) t.marks ∙ sym (marked_append at (map here t.taken) (map row others) out)
              ∙ sym (ap (λ (l : List ℕ). marked at l out) parts) ∙ m.marks;
        }

    pub marking_all : length ranks ≤ next → out ≡ goal
    marking_all h =
        sym (ap (λ (rs : List ℕ). marked at (map (select (in_runs len runs)) rs) out) (drop_of_length-le ranks {i = next} h)) ∙ m.marks

    -- past the last run no rank is left
    pub marking_end : Apart 0 len runs → Ascending 0 (run_lengths runs) ranks → length runs / 2 ≤ k → out ≡ goal
    marking_end a up h = go (dec_lt next (length ranks))
      where
        go : Dec (next < length ranks) → out ≡ goal
        go (yes l) = let on = marking_on a up l in absurd (omega arith)
        go (no l) = marking_all (omega arith)

-- the rows of a composition by listed ranks, and how many they are
module _ (runs ranks : List ℕ) (len : ℕ) (apart : Apart 0 len runs) (up : Ascending 0 (run_lengths runs) ranks) where
  few : count (in_runs len runs) ≡ run_lengths runs
  few = runs_count len runs apart

  pub entry_rows : set_rows 0 (compose (in_runs len runs) (listed (run_lengths runs) ranks)) ≡ map (select (in_runs len runs)) ranks
  entry_rows =
      ap (λ (n : ℕ). set_rows 0 (compose (in_runs len runs) (listed n ranks))) (sym few)
      ∙ rows_at (in_runs len runs) ranks (subst (λ (n : ℕ). Ascending 0 n ranks) (sym few) up)

  pub entry_count : length ranks ≡ count (compose (in_runs len runs) (listed (run_lengths runs) ranks))
  entry_count =
      sym (compose_count (in_runs len runs) (listed (run_lengths runs) ranks) (tab_length 0 (run_lengths runs) (λ i. member i ranks) ∙ sym few)
      ∙ listed_count (run_lengths runs) ranks up)
