-- Runs of rows against masks: the rows from one run to the next, their count, the runs of what runs say and back, and the set rows.
-- By recursion over the runs, and over the rows.
-- Assumes nothing.
use Prim.Native.Nat.{ℕ, zero, suc, ◌+◌, ◌-◌, ◌*◌, ◌/◌, ◌≤◌, ◌<◌}
use native.Mathlib.Nat.{add-zero, zero-add, suc-add, add-suc}
use mathlib.Core.Path.{◌≡◌, refl, sym, ap, ap₂, ◌∙◌}
use mathlib.Core.Bool.{Bool, true, false, and-false}
use mathlib.Core.List.{List, [], ◌∷◌, ◌++◌, append-nil, append_assoc}
use native.Mathlib.Omega.{arith}
use borrow.Author.Tests.{lt-ltb, le-ltb, le-leb, lt-leb}
use lib.Dec.{leb}
use lib.ListN.{length, replicate}
use Rattle.rows.specs.Rows.{count}
use Rattle.rows.specs.Lists.{tab, set_rows}
use Rattle.rows.specs.Runs.{held, in_runs, run_lengths, Apart, turns, runs_of, runs_in}
use Rattle.rows.proofs.RowLaws.{count_append}
use Rattle.rows.proofs.ListLaws.{tab_ext}

-- the rows from b to e, run by run: those before the run, the run's own, and what follows
abbrev pub run_rows : ℕ → ℕ → List ℕ → List Bool
run_rows b e [] = replicate (e - b) false
run_rows b e (first ∷ []) = replicate (e - b) false
run_rows b e (first ∷ past ∷ ns) = replicate (first - b) false ++ replicate (past - first) true ++ run_rows past e ns

-- ---- runs are runs from a lower row on, and in more rows

pub apart_wider : (b c d e : ℕ) (ns : List ℕ) → b ≤ c → d ≤ e → Apart c d ns → Apart b e ns
apart_wider b c d e [] h k a = tt
apart_wider b c d e (f ∷ []) h k a = absurd a
apart_wider b c d e (f ∷ p ∷ ns) h k a = (omega arith, a.1, omega arith, apart_wider (suc p) (suc p) d e ns (omega arith) k a.3)

-- ---- which rows runs hold

-- none below the runs
pub held_below : (i c e : ℕ) (ns : List ℕ) → i < c → Apart c e ns → held i ns ≡ false
held_below i c e [] h a = refl
held_below i c e (f ∷ []) h a = refl
held_below i c e (f ∷ p ∷ ns) h a = rw (lt-leb f i (omega arith), held_below i (suc p) e ns (omega arith) a.3)

-- past the first run those of the others
pub held_past : (i f p : ℕ) (ns : List ℕ) → p ≤ i → held i (f ∷ p ∷ ns) ≡ held i ns
held_past i f p ns h = rw (le-ltb i p h, and-false (leb f i))

-- those of the first run
pub held_first : (i f p : ℕ) (ns : List ℕ) → f ≤ i → i < p → held i (f ∷ p ∷ ns) ≡ true
held_first i f p ns h k = rw (le-leb f i h, lt-ltb i p k)

-- ---- tab: in two parts, and all the same

pub tab_add : (b m n : ℕ) (f : ℕ → Bool) → tab b (m + n) f ≡ tab b m f ++ tab (b + m) n f
tab_add b zero n f = ap₂ (λ (x y : ℕ). tab x y f) (sym (add-zero b)) (zero-add n)
tab_add b (suc m) n f =
    ap (λ (k : ℕ). tab b k f) (suc-add m n)
    ∙ ap (λ (l : List Bool). f b ∷ l) (tab_add (suc b) m n f ∙ ap (λ (k : ℕ). tab (suc b) m f ++ tab k n f) (suc-add b m ∙ sym (add-suc b m)))

pub tab_all : (b n : ℕ) (f : ℕ → Bool) (x : Bool) → ((i : ℕ) → b ≤ i → i < b + n → f i ≡ x) → tab b n f ≡ replicate n x
tab_all b zero f x h = refl
tab_all b (suc n) f x h =
    ap₂ (λ (y : Bool) (l : List Bool). y ∷ l) (h b (omega arith) (omega arith)) (tab_all (suc b) n f x (λ i k l. h i (omega arith) (omega arith)))

-- ---- the rows that runs say, run by run

pub apart_rows : (b c e : ℕ) (ns : List ℕ) → b ≤ c → b ≤ e → Apart c e ns → tab b (e - b) (λ i. held i ns) ≡ run_rows b e ns
apart_rows b c e [] h k a = tab_all b (e - b) (λ i. false) false (λ i m n. refl)
apart_rows b c e (f ∷ []) h k a = absurd a
apart_rows b c e (f ∷ p ∷ ns) h k a =
    let whole : e - b ≡ (f - b) + ((p - f) + (e - p)) = omega arith in
    let first : b + (f - b) ≡ f = omega arith in
    let past : f + (p - f) ≡ p = omega arith in
    ap (λ (n : ℕ). tab b n has) whole
    ∙ tab_add b (f - b) ((p - f) + (e - p)) has
    ∙ ap₂ (λ (l m : List Bool). l ++ m)
    (tab_all b (f - b) has false (λ i m n. held_below i f e (f ∷ p ∷ ns) (omega arith) (omega arith, a.1, a.2, a.3)))
    (ap (λ (n : ℕ). tab n ((p - f) + (e - p)) has) first
    ∙ tab_add f (p - f) (e - p) has
    ∙ ap₂ (λ (l m : List Bool). l ++ m)
    (tab_all f (p - f) has true (λ i m n. held_first i f p ns m (omega arith)))
    (ap (λ (n : ℕ). tab n (e - p) has) past
    ∙ tab_ext p (e - p) has (λ i. held i ns) (λ i m. held_past i f p ns m)
    ∙ apart_rows p (suc p) e ns (omega arith) (omega arith) a.3))
    ∙ sym (append_assoc (replicate (f - b) false) (replicate (p - f) true) (run_rows p e ns))
  where
    has : ℕ → Bool
    has i = held i (f ∷ p ∷ ns)

pub in_runs_lem : (e : ℕ) (ns : List ℕ) → Apart 0 e ns → in_runs e ns ≡ run_rows 0 e ns
in_runs_lem e ns a = ap (λ (n : ℕ). tab 0 n (λ i. held i ns)) whole ∙ apart_rows 0 0 e ns (omega arith) (omega arith) a
  where
    whole : e ≡ e - 0
    whole = omega arith

-- ---- how many rows runs hold

count_unset : (n : ℕ) → count (replicate n false) ≡ 0
count_unset zero = refl
count_unset (suc n) = count_unset n

count_set : (n : ℕ) → count (replicate n true) ≡ n
count_set zero = refl
count_set (suc n) = ap suc (count_set n)

pub rows_sum : (b e : ℕ) (ns : List ℕ) → count (run_rows b e ns) ≡ run_lengths ns
rows_sum b e [] = count_unset (e - b)
rows_sum b e (f ∷ []) = count_unset (e - b)
rows_sum b e (f ∷ p ∷ ns) =
    let before : List Bool = replicate (f - b) false in
    let run : List Bool = replicate (p - f) true in
    omega
    (arith, count_append (before ++ run) (run_rows p e ns), count_append before run, count_unset (f - b), count_set (p - f), rows_sum p e ns)

pub runs_count : (e : ℕ) (ns : List ℕ) → Apart 0 e ns → count (in_runs e ns) ≡ run_lengths ns
runs_count e ns a = ap count (in_runs_lem e ns a) ∙ rows_sum 0 e ns

-- they are no more than the rows from b to e, where the runs begin at b or later
few_from : (b c e : ℕ) (ns : List ℕ) → b ≤ c → b ≤ e → Apart c e ns → b + run_lengths ns ≤ e
few_from b c e [] h k a = omega arith
few_from b c e (f ∷ []) h k a = absurd a
few_from b c e (f ∷ p ∷ ns) h k a = omega (arith, few_from p (suc p) e ns (omega arith) (omega arith) a.3)

pub runs_few : (b e : ℕ) (ns : List ℕ) → Apart b e ns → b ≤ e → b + run_lengths ns ≤ e
runs_few b e ns a h = few_from b b e ns (omega arith) h a

-- ---- the runs of what runs say

-- unset rows turn nothing outside a run, and set rows nothing in one
turns_unset : (b n : ℕ) (s : List Bool) → turns false b (replicate n false ++ s) ≡ turns false (b + n) s
turns_unset b zero s = ap (λ (k : ℕ). turns false k s) (sym (add-zero b))
turns_unset b (suc n) s = turns_unset (suc b) n s ∙ ap (λ (k : ℕ). turns false k s) (suc-add b n ∙ sym (add-suc b n))

turns_set : (b n : ℕ) (s : List Bool) → turns true b (replicate n true ++ s) ≡ turns true (b + n) s
turns_set b zero s = ap (λ (k : ℕ). turns true k s) (sym (add-zero b))
turns_set b (suc n) s = turns_set (suc b) n s ∙ ap (λ (k : ℕ). turns true k s) (suc-add b n ∙ sym (add-suc b n))

-- a run that is not empty is its first row, and what turns after it
turns_run : (b n : ℕ) (s : List Bool) → 0 < n → turns false b (replicate n true ++ s) ≡ b ∷ turns true (b + n) s
turns_run b zero s h = absurd (omega arith)
turns_run b (suc n) s h = ap (λ (l : List ℕ). b ∷ l) (turns_set (suc b) n s ∙ ap (λ (k : ℕ). turns true k s) (suc-add b n ∙ sym (add-suc b n)))

-- a run ends at the row past its last, where no other begins at once
ends_none : (p n : ℕ) → turns true p (replicate n false) ≡ p ∷ turns false (suc p) (replicate (n - 1) false)
ends_none p zero = refl
ends_none p (suc n) = let one : n ≡ suc n - 1 = omega arith in ap (λ (k : ℕ). p ∷ turns false (suc p) (replicate k false)) one

ends_first : (p n : ℕ) (s : List Bool) → 0 < n → turns true p (replicate n false ++ s) ≡ p ∷ turns false (suc p) (replicate (n - 1) false ++ s)
ends_first p zero s h = absurd (omega arith)
ends_first p (suc n) s h = let one : n ≡ suc n - 1 = omega arith in ap (λ (k : ℕ). p ∷ turns false (suc p) (replicate k false ++ s)) one

run_ends : (p e : ℕ) (ns : List ℕ) → Apart (suc p) e ns → turns true p (run_rows p e ns) ≡ p ∷ turns false (suc p) (run_rows (suc p) e ns)
run_ends p e [] a =
    let one : e - p - 1 ≡ e - suc p = omega arith in
    ends_none p (e - p) ∙ ap (λ (k : ℕ). p ∷ turns false (suc p) (replicate k false)) one
run_ends p e (f ∷ []) a = absurd a
run_ends p e (f ∷ q ∷ ns) a =
    let one : f - p - 1 ≡ f - suc p = omega arith in
    let run : List Bool = replicate (q - f) true in
    let rest : List Bool = run_rows q e ns in
    ap (turns true p) (append_assoc (replicate (f - p) false) run rest)
    ∙ ends_first p (f - p) (run ++ rest) (omega arith)
    ∙ ap (λ (k : ℕ). p ∷ turns false (suc p) (replicate k false ++ (run ++ rest))) one
    ∙ ap (λ (l : List Bool). p ∷ turns false (suc p) l) (sym (append_assoc (replicate (f - suc p) false) run rest))

pub apart_turns : (b c e : ℕ) (ns : List ℕ) → b ≤ c → Apart c e ns → turns false b (run_rows b e ns) ≡ ns
apart_turns b c e [] h a = ap (turns false b) (sym (append-nil (replicate (e - b) false))) ∙ turns_unset b (e - b) []
apart_turns b c e (f ∷ []) h a = absurd a
apart_turns b c e (f ∷ p ∷ ns) h a =
    let first : b + (f - b) ≡ f = omega arith in
    let past : f + (p - f) ≡ p = omega arith in
    let run : List Bool = replicate (p - f) true in
    let rest : List Bool = run_rows p e ns in
    ap (turns false b) (append_assoc (replicate (f - b) false) run rest)
    ∙ turns_unset b (f - b) (run ++ rest)
    ∙ ap (λ (k : ℕ). turns false k (run ++ rest)) first
    ∙ turns_run f (p - f) rest (omega arith)
    ∙ ap (λ (k : ℕ). f ∷ turns true k rest) past
    ∙ ap (λ (l : List ℕ). f ∷ l) (run_ends p e ns a.3 ∙ ap (λ (l : List ℕ). p ∷ l) (apart_turns (suc p) (suc p) e ns (omega arith) a.3))

pub runs_back : (e : ℕ) (ns : List ℕ) → Apart 0 e ns → runs_of (in_runs e ns) ≡ ns
runs_back e ns a = ap runs_of (in_runs_lem e ns a) ∙ apart_turns 0 0 e ns (omega arith) a

-- ---- the runs of a mask: they are apart, and say its rows

-- outside a run, and in one that began at f
mutual
  outside_apart : (b c e : ℕ) (s : List Bool) → c ≤ b → b + length s ≡ e → Apart c e (turns false b s)
  outside_apart b c e [] h q = tt
  outside_apart b c e (false ∷ s) h q = outside_apart (suc b) c e s (omega arith) (omega arith)
  outside_apart b c e (true ∷ s) h q = inside_apart b (suc b) c e s h (omega arith) (omega arith)

  inside_apart : (f b c e : ℕ) (s : List Bool) → c ≤ f → f < b → b + length s ≡ e → Apart c e (f ∷ turns true b s)
  inside_apart f b c e [] h k q = (h, k, omega arith, tt)
  inside_apart f b c e (true ∷ s) h k q = inside_apart f (suc b) c e s h (omega arith) (omega arith)
  inside_apart f b c e (false ∷ s) h k q = (h, k, omega arith, outside_apart (suc b) (suc b) e s (omega arith) (omega arith))

pub runs_apart : (s : List Bool) → Apart 0 (length s) (runs_of s)
runs_apart s = outside_apart 0 0 (length s) s (omega arith) (zero-add (length s))

-- one row more of a kind
one_more : (a b : ℕ) (x : Bool) (s : List Bool) → a ≤ b → replicate (suc b - a) x ++ s ≡ replicate (b - a) x ++ x ∷ s
one_more a b x s h = let e : suc b - a ≡ suc (b - a) = omega arith in ap (λ (k : ℕ). replicate k x ++ s) e ∙ go (b - a)
  where
    go : (n : ℕ) → replicate (suc n) x ++ s ≡ replicate n x ++ x ∷ s
    go zero = refl
    go (suc n) = ap (λ (l : List Bool). x ∷ l) (go n)

-- the rows from c on, of which those to b are unset, or those to f unset and those to b set
mutual
  outside_rows : (b c e : ℕ) (s : List Bool) → c ≤ b → b + length s ≡ e → run_rows c e (turns false b s) ≡ replicate (b - c) false ++ s
  outside_rows b c e [] h q =
      let end : e - c ≡ b - c = omega arith in
      ap (λ (k : ℕ). replicate k false) end ∙ sym (append-nil (replicate (b - c) false))
  outside_rows b c e (false ∷ s) h q = outside_rows (suc b) c e s (omega arith) (omega arith) ∙ one_more c b false s h
  outside_rows b c e (true ∷ s) h q =
      let one : suc b - b ≡ 1 = omega arith in
      inside_rows b (suc b) c e s h (omega arith) (omega arith) ∙ ap (λ (k : ℕ). replicate (b - c) false ++ (replicate k true ++ s)) one

  inside_rows : (f b c e : ℕ) (s : List Bool) → c ≤ f → f < b → b + length s ≡ e
      → run_rows c e (f ∷ turns true b s) ≡ replicate (f - c) false ++ (replicate (b - f) true ++ s)
  inside_rows f b c e [] h k q =
      let end : e - b ≡ 0 = omega arith in
      append_assoc (replicate (f - c) false) (replicate (b - f) true) (replicate (e - b) false)
      ∙ ap (λ (n : ℕ). replicate (f - c) false ++ (replicate (b - f) true ++ replicate n false)) end
  inside_rows f b c e (true ∷ s) h k q =
      inside_rows f (suc b) c e s h (omega arith) (omega arith)
      ∙ ap (λ (l : List Bool). replicate (f - c) false ++ l) (one_more f b true s (omega arith))
  inside_rows f b c e (false ∷ s) h k q =
      let one : suc b - b ≡ 1 = omega arith in
      append_assoc (replicate (f - c) false) (replicate (b - f) true) (run_rows b e (turns false (suc b) s))
      ∙ ap (λ (l : List Bool). replicate (f - c) false ++ (replicate (b - f) true ++ l))
      (outside_rows (suc b) b e s (omega arith) (omega arith) ∙ ap (λ (n : ℕ). replicate n false ++ s) one)

pub rows_back : (s : List Bool) → in_runs (length s) (runs_of s) ≡ s
rows_back s = in_runs_lem (length s) (runs_of s) (runs_apart s) ∙ outside_rows 0 0 (length s) s (omega arith) (zero-add (length s))

-- ---- they are numbers in pairs

pub apart_even : (b e : ℕ) (ns : List ℕ) → Apart b e ns → length ns ≡ length ns / 2 * 2
apart_even b e [] a = refl
apart_even b e (f ∷ []) a = absurd a
apart_even b e (f ∷ p ∷ ns) a = omega (arith, apart_even (suc p) e ns a.3)

pub runs_even : (s : List Bool) → length (runs_of s) ≡ runs_in s * 2
runs_even s = apart_even 0 (length s) (runs_of s) (runs_apart s)

-- ---- the set rows of runs

-- the n numbers from b on
abbrev pub rows_from : ℕ → ℕ → List ℕ
rows_from b zero = []
rows_from b (suc n) = b ∷ rows_from (suc b) n

pub rows_from_length : (b n : ℕ) → length (rows_from b n) ≡ n
rows_from_length b zero = refl
rows_from_length b (suc n) = ap suc (rows_from_length (suc b) n)

rows_unset : (b n : ℕ) (s : List Bool) → set_rows b (replicate n false ++ s) ≡ set_rows (b + n) s
rows_unset b zero s = ap (λ (k : ℕ). set_rows k s) (sym (add-zero b))
rows_unset b (suc n) s = rows_unset (suc b) n s ∙ ap (λ (k : ℕ). set_rows k s) (suc-add b n ∙ sym (add-suc b n))

rows_set : (b n : ℕ) (s : List Bool) → set_rows b (replicate n true ++ s) ≡ rows_from b n ++ set_rows (b + n) s
rows_set b zero s = ap (λ (k : ℕ). set_rows k s) (sym (add-zero b))
rows_set b (suc n) s =
    ap (λ (l : List ℕ). b ∷ l) (rows_set (suc b) n s ∙ ap (λ (k : ℕ). rows_from (suc b) n ++ set_rows k s) (suc-add b n ∙ sym (add-suc b n)))

pub runs_set_rows : (b e : ℕ) (f p : ℕ) (ns : List ℕ) → b ≤ f → f < p
    → set_rows b (run_rows b e (f ∷ p ∷ ns)) ≡ rows_from f (p - f) ++ set_rows p (run_rows p e ns)
runs_set_rows b e f p ns h k =
    let first : b + (f - b) ≡ f = omega arith in
    let past : f + (p - f) ≡ p = omega arith in
    let run : List Bool = replicate (p - f) true in
    let rest : List Bool = run_rows p e ns in
    ap (set_rows b) (append_assoc (replicate (f - b) false) run rest)
    ∙ rows_unset b (f - b) (run ++ rest)
    ∙ ap (λ (n : ℕ). set_rows n (run ++ rest)) first
    ∙ rows_set f (p - f) rest
    ∙ ap (λ (n : ℕ). rows_from f (p - f) ++ set_rows n rest) past

pub no_runs_set_rows : (b e : ℕ) → set_rows b (run_rows b e []) ≡ []
no_runs_set_rows b e = ap (set_rows b) (sym (append-nil (replicate (e - b) false))) ∙ rows_unset b (e - b) []
