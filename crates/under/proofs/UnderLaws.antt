-- What a loop keeps that copies rank bits under runs: the rows before `done` are laid, and the runs from pair k on are left, with the ranks from
-- `rank` on. With a law for no run, a law for one run more, and a law for the rows past the last; and their counts.
-- Assumes nothing.
use Prim.Native.Nat.{ℕ, ◌+◌, ◌-◌, ◌*◌, ◌/◌, ◌^◌, ◌≤◌}
use mathlib.Core.Path.{◌≡◌, sym, ap, ◌∙◌}
use mathlib.Core.Bool.{Bool, true, false}
use mathlib.Core.List.{List, [], ◌++◌}
use native.Mathlib.Nat.{zero-add}
use native.Mathlib.Omega.{arith}
use lib.ListN.{length, take, drop, replicate, length-take, length-replicate, length-drop}
use lib.Seq.{drop-drop}
use Rattle.rows.specs.Rows.{count, compose}
use Rattle.rows.specs.Words.{Below, bits_of_all, view}
use Rattle.rows.specs.Lists.{tab, member, listed}
use Rattle.rows.specs.Runs.{held, in_runs, run_lengths, Apart}
use Rattle.rows.specs.Laid.{laid}
use Rattle.rows.proofs.RowLaws.{count_append, count_le_length, compose_length, compose_empty}
use Rattle.rows.proofs.WordsLaws.{bits_of_all_length}
use Rattle.rows.proofs.ListLaws.{tab_length}
use Rattle.rows.proofs.RunLaws.{run_rows, in_runs_lem, rows_sum, runs_few}
use Rattle.rows.proofs.RunTurnLaws.{rows_none}
use Rattle.rows.proofs.PairLaws.{NextPair, rows_pair, lengths_pair, pairs_passed}
use Rattle.rows.proofs.ComposeRunLaws.{compose_unset, compose_set}
use Rattle.rows.proofs.ProgressLaws.{Progress, progress_none, progress_as, progress_part, progress_last}
use Rattle.books.proofs.GatherLaws.{tab_part}

module _ (runs : List ℕ) (bits : List Bool) (len at : ℕ) where
  abbrev whole : List Bool
  whole = compose (in_runs len runs) bits

  -- the rows that are left
  abbrev pub rest : ℕ → ℕ → ℕ → List Bool
  rest done k rank = compose (run_rows done len (drop (k * 2) runs)) (drop rank bits)

  pub record Under (done k rank : ℕ) (out₀ out : List ℕ) : Type 0 where
    pub within : done ≤ len
    pub ahead : Apart done len (drop (k * 2) runs)
    pub passed : rank + run_lengths (drop (k * 2) runs) ≡ run_lengths runs
    pub progress : Progress whole at done (rest done k rank) out₀ out

  -- so many of the rows that are laid are set
  abbrev pub Sums : ℕ → ℕ → ℕ → ℕ → Type 0
  Sums done k rank sum = sum + count (rest done k rank) ≡ count whole

  all : Apart 0 len runs → whole ≡ rest 0 0 0
  all a = ap (λ (s : List Bool). compose s bits) (in_runs_lem len runs a)

  pub under_none : (out : List ℕ) → Apart 0 len runs → Below (2 ^ 64) out → Under 0 0 0 out out
  under_none out a small = record {
    within = omega arith;
    ahead = a;
    passed = omega arith;
    progress = progress_as whole whole (rest 0 0 0) at 0 out out (all a) (progress_none whole at out small);
  }

  pub sums_none : Apart 0 len runs → Sums 0 0 0 0
  sums_none a = omega (arith, ap count (all a))

  -- no more than the rows
  whole_few : count whole ≤ len
  whole_few = omega (arith, count_le_length whole, compose_length (in_runs len runs) bits, tab_length 0 len (λ i. held i runs))

  module _ (done k rank : ℕ) (out₀ out : List ℕ) (u : Under done k rank out₀ out) where
    -- the next run, and its rank bits
    module _ (first past : ℕ) (r : NextPair done len k runs first past) (room : run_lengths runs ≤ length bits) where
      abbrev part : List Bool
      part = take (past - first) (drop rank bits)

      abbrev left : List Bool
      left = rest past (k + 1) (rank + (past - first))

      abbrev unset : List Bool
      unset = replicate (first - done) false

      pub under_ranks : rank + (past - first) ≤ run_lengths runs
      under_ranks = omega (arith, u.passed, lengths_pair done len k first past runs r)

      pub under_few : Apart 0 len runs → rank + (past - first) ≤ len
      under_few a = omega (arith, under_ranks, runs_few 0 len runs a (omega arith))

      long : past - first ≤ length (drop rank bits)
      long = omega (arith, length-drop rank bits, under_ranks, room)

      part_long : length part ≡ past - first
      part_long = omega (arith, length-take (past - first) (drop rank bits), long)

      split : rest done k rank ≡ unset ++ (part ++ left)
      split =
          let behind = run_rows past len (drop ((k + 1) * 2) runs) in
          let own = replicate (past - first) true ++ behind in
          ap (λ (s : List Bool). compose s (drop rank bits)) (rows_pair done len k first past runs r)
          ∙ compose_unset (first - done) own (drop rank bits)
          ∙ ap (λ (l : List Bool). unset ++ l)
          (compose_set (past - first) behind (drop rank bits) long
          ∙ ap (λ (l : List Bool). part ++ compose behind l) (drop-drop (past - first) rank bits))

      pub under_run : (cleared then : List ℕ) → cleared ≡ laid (at + done) unset out → then ≡ laid (at + first) part cleared
          → Under past (k + 1) (rank + (past - first)) out₀ then
      under_run cleared then c t = record {
        within = r.within;
        ahead = r.left;
        passed = omega (arith, u.passed, lengths_pair done len k first past runs r);
        progress =
            progress_part whole part left at first past out₀ cleared then (omega (arith, part_long, r.some)) t
            (progress_part whole unset (part ++ left) at done first out₀ out cleared (omega (arith, length-replicate (first - done) false, r.from)) c
            (progress_as whole (rest done k rank) (unset ++ (part ++ left)) at done out₀ out split u.progress));
      }

      pub sums_run : (sum set : ℕ) → set ≡ count part → Sums done k rank sum → Sums past (k + 1) (rank + (past - first)) (sum + set)
      sums_run sum set e s =
          omega (arith, s, ap count split, count_append unset (part ++ left), rows_sum done first [], count_append part left, e)

      pub sums_few : (sum : ℕ) → Sums done k rank sum → sum + count part ≤ len
      sums_few sum s =
          omega (arith, whole_few, s, ap count split, count_append unset (part ++ left), count_append part left)

    -- past the last run none is set
    none : length runs / 2 ≤ k → rest done k rank ≡ replicate (len - done) false
    none h =
        let unset = replicate (len - done) false in
        ap (λ (s : List Bool). compose s (drop rank bits)) (rows_none done len (k * 2) runs (pairs_passed done len k runs u.ahead h))
        ∙ compose_empty unset (drop rank bits) (rows_sum done len [])
        ∙ ap (λ (n : ℕ). replicate n false) (length-replicate (len - done) false)

    pub under_last : (then : List ℕ) → length runs / 2 ≤ k → then ≡ laid (at + done) (replicate (len - done) false) out
        → then ≡ laid at (compose (in_runs len runs) bits) out₀
    under_last then h t =
        let unset = replicate (len - done) false in
        progress_last whole unset at done out₀ out then t (progress_as whole (rest done k rank) unset at done out₀ out (none h) u.progress)

    pub sums_last : (sum : ℕ) → length runs / 2 ≤ k → Sums done k rank sum → sum ≡ count (compose (in_runs len runs) bits)
    sums_last sum h s = omega (arith, s, ap count (none h), rows_sum done len [])

-- ---- rank bits in words, and in a list

module _ (ranks : List ℕ) (from : ℕ) where
  -- as many as the words have behind bit from
  pub read_long : (n : ℕ) → from + n ≤ length ranks * 64 → n ≤ length (drop from (bits_of_all 64 ranks))
  read_long n h = omega (arith, length-drop from (bits_of_all 64 ranks), bits_of_all_length 64 ranks)

  pub read_part : (rank n : ℕ) → view (from + rank) n ranks ≡ take n (drop rank (drop from (bits_of_all 64 ranks)))
  read_part rank n = sym (ap (λ (l : List Bool). take n l) (drop-drop rank from (bits_of_all 64 ranks)))

pub listed_long : (n : ℕ) (ranks : List ℕ) → n ≤ length (listed n ranks)
listed_long n ranks = omega (arith, tab_length 0 n (λ i. member i ranks))

pub listed_part : (full rank n : ℕ) (ranks : List ℕ) → rank + n ≤ full → tab rank n (λ i. member i ranks) ≡ take n (drop rank (listed full ranks))
listed_part full rank n ranks h =
    let f : ℕ → Bool = λ i. member i ranks in
    sym (tab_part 0 full rank n f h ∙ ap (λ (k : ℕ). tab k n f) (zero-add rank))

-- a turn over runs whose rank bits are read from words
module _ (runs ranks : List ℕ) (from len at done k rank : ℕ) (out₀ out : List ℕ)
    (u : Under runs (drop from (bits_of_all 64 ranks)) len at done k rank out₀ out) (first past : ℕ) (r : NextPair done len k runs first past)
    (room : from + run_lengths runs ≤ length ranks * 64) where
  abbrev words : List Bool
  words = drop from (bits_of_all 64 ranks)

  enough : run_lengths runs ≤ length (drop from (bits_of_all 64 ranks))
  enough = read_long ranks from (run_lengths runs) room

  pub read_room : from + rank + (past - first) ≤ length ranks * 64
  read_room = omega (arith, under_ranks runs words len at done k rank out₀ out u first past r enough)

  pub read_few : Apart 0 len runs → rank + (past - first) ≤ len
  read_few = under_few runs words len at done k rank out₀ out u first past r enough

  pub read_sum : (sum : ℕ) → Sums runs (drop from (bits_of_all 64 ranks)) len at done k rank sum
      → sum + count (view (from + rank) (past - first) ranks) ≤ len
  read_sum sum s =
      omega
      (arith, ap count (read_part ranks from rank (past - first)), sums_few runs words len at done k rank out₀ out u first past r enough sum s)

  pub under_read : (cleared then : List ℕ) → cleared ≡ laid (at + done) (replicate (first - done) false) out
      → then ≡ laid (at + first) (view (from + rank) (past - first) ranks) cleared
      → Under runs (drop from (bits_of_all 64 ranks)) len at past (k + 1) (rank + (past - first)) out₀ then
  under_read cleared then c t =
      under_run runs words len at done k rank out₀ out u first past r enough cleared then c
      (t ∙ ap (λ (p : List Bool). laid (at + first) p cleared) (read_part ranks from rank (past - first)))

  pub sums_read : (sum set : ℕ) → set ≡ count (view (from + rank) (past - first) ranks)
      → Sums runs (drop from (bits_of_all 64 ranks)) len at done k rank sum
      → Sums runs (drop from (bits_of_all 64 ranks)) len at past (k + 1) (rank + (past - first)) (sum + set)
  sums_read sum set e =
      sums_run runs words len at done k rank out₀ out u first past r enough sum set (e ∙ ap count (read_part ranks from rank (past - first)))

-- a turn over runs whose rank bits are gathered from a list
pub under_listed : (runs ranks : List ℕ) (len at done k rank : ℕ) (out₀ out : List ℕ)
    → (u : Under runs (listed (run_lengths runs) ranks) len at done k rank out₀ out) (first past : ℕ) (r : NextPair done len k runs first past)
    (cleared then : List ℕ) → cleared ≡ laid (at + done) (replicate (first - done) false) out
    → then ≡ laid (at + first) (tab rank (past - first) (λ i. member i ranks)) cleared
    → Under runs (listed (run_lengths runs) ranks) len at past (k + 1) (rank + (past - first)) out₀ then
under_listed runs ranks len at done k rank out₀ out u first past r cleared then c t =
    let bits = listed (run_lengths runs) ranks in
    let room = listed_long (run_lengths runs) ranks in
    let few = under_ranks runs bits len at done k rank out₀ out u first past r room in
    under_run runs bits len at done k rank out₀ out u first past r room cleared then c
    (t ∙ ap (λ (p : List Bool). laid (at + first) p cleared) (listed_part (run_lengths runs) rank (past - first) ranks few))
