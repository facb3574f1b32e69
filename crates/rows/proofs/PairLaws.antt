-- Runs read two numbers at a time: the pair at k is the next run, and none is left where no pair is.
-- By the pairs before it, and by the run at twice as many numbers.
use Rattle.std.proofs.Common.{ℕ, zero, suc, ◌+◌, ◌-◌, ◌*◌, ◌/◌, ◌<◌, ◌≤◌, ◌≡◌, refl, ap, ◌∙◌, true, false, List, [], ◌∷◌, ◌++◌, length, take, drop, get_or, replicate, append_assoc, arith}
use Rattle.std.specs.Simd.{first_chunks}
use native.Mathlib.Decide.{dec_lt}
use Rattle.rows.specs.Runs.{run_lengths, Apart}
use Rattle.rows.proofs.RunLaws.{run_rows}
use Rattle.rows.proofs.RunTurnLaws.{NextRun, next_run}

-- ---- what a pair has

drop_pair : (ns : List ℕ) (j i : ℕ) → suc (suc j) ≡ i → get_or (drop 2 ns) j 0 ≡ get_or ns i 0
drop_pair [] j i e = refl
drop_pair (x ∷ []) j i e = ap (λ (m : ℕ). get_or (x ∷ []) m 0) e
drop_pair (x ∷ y ∷ ns) j i e = ap (λ (m : ℕ). get_or (x ∷ y ∷ ns) m 0) e

front_first : (ns : List ℕ) → get_or (take 2 ns) 0 0 ≡ get_or ns 0 0
front_first [] = refl
front_first (x ∷ ns) = refl

front_second : (ns : List ℕ) → get_or (take 2 ns) 1 0 ≡ get_or ns 1 0
front_second [] = refl
front_second (x ∷ []) = refl
front_second (x ∷ y ∷ ns) = refl

first_at : (n k : ℕ) (ns : List ℕ) → k < n → get_or (get_or (first_chunks 2 n ns) k []) 0 0 ≡ get_or ns (k * 2) 0
first_at zero k ns h = absurd (omega arith)
first_at (suc n) zero ns h = front_first ns
first_at (suc n) (suc k) ns h = first_at n k (drop 2 ns) (omega arith) ∙ drop_pair ns (k * 2) (suc k * 2) (omega arith)

second_at : (n k : ℕ) (ns : List ℕ) → k < n → get_or (get_or (first_chunks 2 n ns) k []) 1 0 ≡ get_or ns (k * 2 + 1) 0
second_at zero k ns h = absurd (omega arith)
second_at (suc n) zero ns h = front_second ns
second_at (suc n) (suc k) ns h = second_at n k (drop 2 ns) (omega arith) ∙ drop_pair ns (k * 2 + 1) (suc k * 2 + 1) (omega arith)

-- ---- the run at pair k, and what is left after it

pub record NextPair (b e k : ℕ) (ns : List ℕ) (first past : ℕ) : Type 0 where
  pub here : k * 2 + 1 < length ns
  pub from : b ≤ first
  pub some : first < past
  pub within : past ≤ e
  pub left : Apart past e (drop ((k + 1) * 2) ns)
  pub is : drop (k * 2) ns ≡ first ∷ past ∷ drop ((k + 1) * 2) ns

next_from : (b e k f p j : ℕ) (ns : List ℕ) → f ≡ get_or ns (k * 2) 0 → p ≡ get_or ns (k * 2 + 1) 0 → j ≡ k * 2 + 2 → NextRun b e (k * 2) ns
    → (k * 2 + 1 < length ns) × (b ≤ f) × (f < p) × (p ≤ e) × Apart p e (drop j ns) × (drop (k * 2) ns ≡ f ∷ p ∷ drop j ns)
next_from b e k f p j ns first past behind r = rw (first, past, behind) (r.pair, r.from, r.some, r.within, r.left, r.is)

pub next_pair : (b e k : ℕ) (ns : List ℕ) (pairs : List (List ℕ)) → pairs ≡ first_chunks 2 (length ns / 2) ns → length pairs ≡ length ns / 2
    → k < length pairs → Apart b e (drop (k * 2) ns) → NextPair b e k ns (get_or (get_or pairs k []) 0 0) (get_or (get_or pairs k []) 1 0)
next_pair b e k ns pairs is long h a =
    let f = get_or (get_or pairs k []) 0 0 in
    let p = get_or (get_or pairs k []) 1 0 in
    let inside : k < length ns / 2 = omega arith in
    let first : f ≡ get_or ns (k * 2) 0 = ap (λ (ps : List (List ℕ)). get_or (get_or ps k []) 0 0) is ∙ first_at (length ns / 2) k ns inside in
    let second : p ≡ get_or ns (k * 2 + 1) 0 =
    ap (λ (ps : List (List ℕ)). get_or (get_or ps k []) 1 0) is ∙ second_at (length ns / 2) k ns inside in
    let r = next_from b e k f p ((k + 1) * 2) ns first second (omega arith) (next_run b e (k * 2) ns (omega arith) a) in
    record { here = r.0; from = r.1; some = r.2; within = r.3; left = r.4; is = r.5 }

-- the rows that are left: those before the run, the run's own, and what follows
pub rows_pair : (b e k first past : ℕ) (ns : List ℕ) → NextPair b e k ns first past
    → run_rows b e (drop (k * 2) ns) ≡ replicate (first - b) false ++ (replicate (past - first) true ++ run_rows past e (drop ((k + 1) * 2) ns))
rows_pair b e k first past ns r = ap (run_rows b e) r.is ∙ append_assoc (replicate (first - b) false) _ _

-- their lengths, likewise
pub lengths_pair : (b e k first past : ℕ) (ns : List ℕ) → NextPair b e k ns first past
    → run_lengths (drop (k * 2) ns) ≡ (past - first) + run_lengths (drop ((k + 1) * 2) ns)
lengths_pair b e k first past ns r = ap run_lengths r.is

-- no run is left past the last pair
pub pairs_passed : (b e k : ℕ) (ns : List ℕ) → Apart b e (drop (k * 2) ns) → length ns / 2 ≤ k → length ns ≤ k * 2
pairs_passed b e k ns a h = go (dec_lt (k * 2) (length ns))
  where
    go : Dec (k * 2 < length ns) → length ns ≤ k * 2
    go (yes l) = absurd (omega (arith, (next_run b e (k * 2) ns l a).pair))
    go (no l) = omega arith
