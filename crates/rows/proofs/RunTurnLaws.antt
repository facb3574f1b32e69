-- A loop over runs: the next run, and what is left after it. From the runs that are left, which are apart.
-- Assumes nothing.
use Prim.Native.Nat.{ℕ, suc, ◌+◌, ◌-◌, ◌≤◌, ◌<◌}
use native.Mathlib.Numerals.{add-one, add-two}
use native.Mathlib.Decide.{dec_lt}
use mathlib.Core.Path.{◌≡◌, ap, ◌∙◌}
use mathlib.Core.Bool.{true, false}
use mathlib.Core.List.{List, [], ◌∷◌, ◌++◌, append_assoc}
use native.Mathlib.Omega.{arith}
use lib.ListN.{length, drop, get_or, replicate, drop_of_length-le}
use lib.Seq.{drop-cons}
use Rattle.rows.specs.Runs.{run_lengths, Apart}
use Rattle.rows.proofs.RunLaws.{run_rows}

apart_weaker : (b c e : ℕ) (ns : List ℕ) → b ≤ c → Apart c e ns → Apart b e ns
apart_weaker b c e [] h a = tt
apart_weaker b c e (f ∷ []) h a = absurd a
apart_weaker b c e (f ∷ p ∷ ns) h a = (omega arith, a.1, a.2, a.3)

-- the run at i, and what is left after it
pub record NextRun (b e i : ℕ) (ns : List ℕ) : Type 0 where
  pub pair : i + 1 < length ns
  pub from : b ≤ get_or ns i 0
  pub some : get_or ns i 0 < get_or ns (i + 1) 0
  pub within : get_or ns (i + 1) 0 ≤ e
  pub left : Apart (get_or ns (i + 1) 0) e (drop (i + 2) ns)
  pub is : drop i ns ≡ get_or ns i 0 ∷ get_or ns (i + 1) 0 ∷ drop (i + 2) ns

pub next_run : (b e i : ℕ) (ns : List ℕ) → i < length ns → Apart b e (drop i ns) → NextRun b e i ns
next_run b e i ns h a = go (dec_lt (suc i) (length ns))
  where
    alone : length ns ≤ suc i → drop i ns ≡ get_or ns i 0 ∷ []
    alone n = drop-cons ns i 0 h ∙ ap (λ (l : List ℕ). get_or ns i 0 ∷ l) (drop_of_length-le ns {i = suc i} n)

    go : Dec (suc i < length ns) → NextRun b e i ns
    go (no n) = absurd (rw (alone (omega arith)) at a)
    go (yes k) =
        let two : drop i ns ≡ get_or ns i 0 ∷ get_or ns (suc i) 0 ∷ drop (suc (suc i)) ns =
        drop-cons ns i 0 h ∙ ap (λ (l : List ℕ). get_or ns i 0 ∷ l) (drop-cons ns (suc i) 0 k) in
        let t = rw two at a in
        let p = get_or ns (suc i) 0 in
        record {
          pair = omega arith;
          from = t.0;
          some = rw (add-one i) t.1;
          within = rw (add-one i) t.2;
          left = rw (add-one i, add-two i) (apart_weaker p (suc p) e (drop (suc (suc i)) ns) (omega arith) t.3);
          is = rw (add-one i, add-two i) two;
        }

-- the rows that are left: those before the run, the run's own, and what follows
pub rows_next : (b e i : ℕ) (ns : List ℕ) → NextRun b e i ns
    → run_rows b e (drop i ns)
    ≡ replicate (get_or ns i 0 - b) false ++ (replicate (get_or ns (i + 1) 0 - get_or ns i 0) true ++ run_rows (get_or ns (i + 1) 0) e (drop (i + 2) ns))
rows_next b e i ns r = ap (run_rows b e) r.is ∙ append_assoc (replicate (get_or ns i 0 - b) false) _ _

-- and where no run is left none is set
pub rows_none : (b e i : ℕ) (ns : List ℕ) → length ns ≤ i → run_rows b e (drop i ns) ≡ replicate (e - b) false
rows_none b e i ns h = ap (run_rows b e) (drop_of_length-le ns {i = i} h)

-- their lengths, likewise
pub lengths_next : (b e i : ℕ) (ns : List ℕ) → NextRun b e i ns → run_lengths (drop i ns) ≡ (get_or ns (i + 1) 0 - get_or ns i 0) + run_lengths (drop (i + 2) ns)
lengths_next b e i ns r = ap run_lengths r.is

pub lengths_none : (i : ℕ) (ns : List ℕ) → length ns ≤ i → run_lengths (drop i ns) ≡ 0
lengths_none i ns h = ap run_lengths (drop_of_length-le ns {i = i} h)
