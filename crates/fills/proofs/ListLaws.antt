-- What loops keep that list the rows of runs: within a run, its rows so far are written; over runs, the rows of those that are passed. With a law
-- for nothing done, a law for one more, and a law for the end. By the law of lists written one after the other.
-- Assumes nothing.
use Prim.Native.Nat.{ℕ, zero, suc, ◌+◌, ◌-◌, ◌≤◌, ◌<◌}
use mathlib.Core.Path.{◌≡◌, refl, sym, ap, ap₂, ◌∙◌}
use mathlib.Core.Bool.{true}
use mathlib.Core.List.{List, [], ◌∷◌, ◌++◌, append-nil, append_assoc}
use native.Mathlib.Omega.{arith}
use lib.ListN.{length, drop, get_or, set, replicate, length-append, length-replicate, length-set, replicate-append-replicate, drop_of_length-le}
use Rattle.rows.specs.Rows.{splice}
use Rattle.rows.specs.Lists.{set_rows}
use Rattle.rows.specs.Runs.{in_runs, run_lengths, Apart}
use Rattle.rows.proofs.SpliceLaws.{splice_nil, splice_one, splice_length, splice_append}
use Rattle.rows.proofs.PartLaws.{rows_append}
use Rattle.rows.proofs.RunLaws.{run_rows, in_runs_lem, rows_from, rows_from_length, runs_set_rows, no_runs_set_rows}
use Rattle.rows.proofs.RunTurnLaws.{NextRun, next_run, lengths_next}

-- the n rows from b on
abbrev pub run : ℕ → ℕ → List ℕ
run b n = set_rows b (replicate n true)

run_from : (b n : ℕ) → rows_from b n ≡ run b n
run_from b zero = refl
run_from b (suc n) = ap (λ (l : List ℕ). b ∷ l) (run_from (suc b) n)

run_length : (b n : ℕ) → length (run b n) ≡ n
run_length b n = ap length (sym (run_from b n)) ∙ rows_from_length b n

run_more : (b n : ℕ) → run b n ++ (b + n) ∷ [] ≡ run b (n + 1)
run_more b n =
    ap (λ (k : ℕ). run b n ++ (b + k) ∷ []) (sym (length-replicate n true))
    ∙ sym (rows_append b (replicate n true) (replicate 1 true))
    ∙ ap (set_rows b) (replicate-append-replicate n 1 true)

-- ---- within a run

-- the rows from first to row are entries from k on, and the next is entry k'
pub record InRun (first k row k' : ℕ) (out₀ out : List ℕ) : Type 0 where
  pub reached : first ≤ row
  pub here : k' ≡ k + (row - first)
  pub long : length out ≡ length out₀
  pub lists : out ≡ splice k out₀ (run first (row - first))

pub in_run_none : (first k : ℕ) (out : List ℕ) → InRun first k first k out out
in_run_none first k out =
    let none : 0 ≡ first - first = omega arith in
    record {
      reached = omega arith;
      here = omega arith;
      long = refl;
      lists = sym (splice_nil k out) ∙ ap (λ (n : ℕ). splice k out (run first n)) none;
    }

pub in_run_row : (first k row k' : ℕ) (out₀ out : List ℕ) → InRun first k row k' out₀ out → InRun first k (row + 1) (k' + 1) out₀ (set out k' row)
in_run_row first k row k' out₀ out r =
    let n : ℕ = row - first in
    let done = run first n in
    let row_is : row ≡ first + n = omega (arith, r.reached) in
    let more : n + 1 ≡ row + 1 - first = omega (arith, r.reached) in
    let place : k' ≡ k + length done = r.here ∙ ap (λ (x : ℕ). k + x) (sym (run_length first n)) in
    record {
      reached = omega (arith, r.reached);
      here = omega (arith, r.here, r.reached);
      long = length-set out k' row ∙ r.long;
      lists =
          sym (splice_one k' out row)
          ∙ ap₂ (λ (x : ℕ) (o : List ℕ). splice x o (row ∷ [])) place r.lists
          ∙ splice_append k out₀ done (row ∷ [])
          ∙ ap (splice k out₀) (ap (λ (x : ℕ). done ++ x ∷ []) row_is ∙ run_more first n ∙ ap (run first) more);
    }

-- ---- over runs

module _ (runs : List ℕ) (len : ℕ) where
  abbrev whole : List ℕ
  whole = set_rows 0 (in_runs len runs)

  -- the rows before `done` are listed, and the runs from number i on are left
  pub record Listing (next i : ℕ) (out₀ out : List ℕ) : Type 0 where
    pub done : ℕ
    pub within : done ≤ len
    pub ahead : Apart done len (drop i runs)
    pub room : next + run_lengths (drop i runs) ≤ length out₀
    pub front : List ℕ
    pub parts : whole ≡ front ++ set_rows done (run_rows done len (drop i runs))
    pub passed : length front ≡ next
    pub long : length out ≡ length out₀
    pub lists : out ≡ splice 0 out₀ front

  pub listing_none : (out : List ℕ) → Apart 0 len runs → run_lengths runs ≤ length out → Listing 0 0 out out
  listing_none out a h = record {
    done = 0;
    within = omega arith;
    ahead = a;
    room = omega arith;
    front = [];
    parts = ap (set_rows 0) (in_runs_lem len runs a);
    passed = refl;
    long = refl;
    lists = sym (splice_nil 0 out);
  }

  module _ (next i : ℕ) (out₀ out : List ℕ) (l : Listing next i out₀ out) where
    pub listing_next : i < length runs → NextRun l.done len i runs
    listing_next h = next_run l.done len i runs h l.ahead

    pub listing_run : (k : ℕ) (then : List ℕ) → i < length runs → k ≡ next + (get_or runs (i + 1) 0 - get_or runs i 0)
        → then ≡ splice next out (run (get_or runs i 0) (get_or runs (i + 1) 0 - get_or runs i 0)) → Listing k (i + 2) out₀ then
    listing_run k then h e t =
        let r = listing_next h in
        let b = l.done in
        let first = get_or runs i 0 in
        let past = get_or runs (i + 1) 0 in
        let more = run first (past - first) in
        let rest = set_rows past (run_rows past len (drop (i + 2) runs)) in
        let split : set_rows b (run_rows b len (drop i runs)) ≡ more ++ rest =
        ap (λ (ns : List ℕ). set_rows b (run_rows b len ns)) r.is ∙ runs_set_rows b len first past (drop (i + 2) runs) r.from r.some
        ∙ ap (λ (z : List ℕ). z ++ rest) (run_from first (past - first)) in
        let lists-on : then ≡ splice 0 out₀ (l.front ++ more) =
        t ∙ ap₂ (λ (x : ℕ) (o : List ℕ). splice x o more) (sym l.passed) l.lists ∙ zero_on l.front more in
        record {
          done = past;
          within = r.within;
          ahead = r.left;
          room = omega (arith, l.room, lengths_next b len i runs r, e);
          front = l.front ++ more;
          parts = l.parts ∙ ap (λ (z : List ℕ). l.front ++ z) split ∙ sym (append_assoc l.front more rest);
          passed = length-append l.front more ∙ ap₂ (λ (x y : ℕ). x + y) l.passed (run_length first (past - first)) ∙ sym e;
          long = ap length lists-on ∙ splice_length 0 out₀ (l.front ++ more);
          lists = lists-on;
        }
      where
        zero_on : (xs ys : List ℕ) → splice (length xs) (splice 0 out₀ xs) ys ≡ splice 0 out₀ (xs ++ ys)
        zero_on xs ys = let z : length xs ≡ 0 + length xs = omega arith in ap (λ (k : ℕ). splice k (splice 0 out₀ xs) ys) z ∙ splice_append 0 out₀ xs ys

    pub listing_all : length runs ≤ i → out ≡ splice 0 out₀ (set_rows 0 (in_runs len runs))
    listing_all h =
        let none : drop i runs ≡ [] = drop_of_length-le runs {i = i} h in
        l.lists
        ∙ ap (splice 0 out₀)
        (sym (l.parts ∙ ap (λ (ns : List ℕ). l.front ++ set_rows l.done (run_rows l.done len ns)) none
        ∙ ap (λ (z : List ℕ). l.front ++ z) (no_runs_set_rows l.done len) ∙ append-nil l.front))
