-- The lengths of runs, summed block by block, and a block's from its runs' numbers packed: of each a law for none, one for one more, and one where none is
-- left. By what a loop over runs knows at each turn, and by runs in two parts. Assumes nothing.
use Prim.Native.Nat.{ℕ, zero, suc, ◌+◌, ◌-◌, ◌*◌, ◌/◌, ◌%◌, ◌^◌, ◌≤◌, ◌<◌, min}
use native.Mathlib.Nat.{add-zero}
use mathlib.Core.Path.{◌≡◌, sym, ap, subst}
use mathlib.Core.List.{List, [], ◌∷◌, ◌++◌}
use native.Mathlib.Omega.{arith}
use lib.ListN.{length, get_or, take, drop, length-take, length-drop, length-append}
use Rattle.std.proofs.lemmas.List.{take-append-drop}
use Rattle.rows.specs.Runs.{run_lengths, Apart}
use Rattle.rows.proofs.RunLaws.{runs_few, apart_wider, apart_even}
use Rattle.rows.proofs.RunTurnLaws.{NextRun, next_run, lengths_next, lengths_none}

-- ---- runs in two parts: an even count of numbers, and what is left

apart_drop : (n b e : ℕ) (ns : List ℕ) → n % 2 ≡ 0 → Apart b e ns → Apart b e (drop n ns)
apart_drop zero b e ns h a = a
apart_drop (suc zero) b e ns h a = absurd (omega arith)
apart_drop (suc (suc n)) b e [] h a = tt
apart_drop (suc (suc n)) b e (f ∷ []) h a = absurd a
apart_drop (suc (suc n)) b e (f ∷ p ∷ ns) h a =
    apart_wider b (suc p) e e (drop n ns) (omega arith) (omega arith) (apart_drop n (suc p) e ns (omega arith) a.3)

lengths_parts : (n b e : ℕ) (ns : List ℕ) → n % 2 ≡ 0 → Apart b e ns → run_lengths (take n ns) + run_lengths (drop n ns) ≡ run_lengths ns
lengths_parts zero b e ns h a = omega arith
lengths_parts (suc zero) b e ns h a = absurd (omega arith)
lengths_parts (suc (suc n)) b e [] h a = omega arith
lengths_parts (suc (suc n)) b e (f ∷ []) h a = absurd a
lengths_parts (suc (suc n)) b e (f ∷ p ∷ ns) h a = omega (arith, lengths_parts n (suc p) e ns (omega arith) a.3)

-- ---- the runs from a number on: the pasts exceed the firsts by the lengths, and both are in one sum

-- what is packed in a sum exceeds by the runs from one number on, before another
abbrev pub Exceeds : List ℕ → ℕ → ℕ → ℕ → Type 0
Exceeds runs start end sum =
    (sum % 4294967296 ≤ sum / 4294967296) × (sum / 4294967296 - sum % 4294967296 + run_lengths (drop end runs) ≡ run_lengths (drop start runs))

module _ (runs : List ℕ) (start : ℕ) where
  pub record Adding (i sum : ℕ) : Type 0 where
    pub from : ℕ
    pub ahead : Apart from 1048576 (drop (start + i) runs)
    pub firsts : ℕ
    pub pasts : ℕ
    pub is : sum ≡ firsts + pasts * 4294967296
    pub added : firsts + run_lengths (drop start runs) ≡ pasts + run_lengths (drop (start + i) runs)
    pub low : firsts * 2 ≤ i * 1048576
    pub high : pasts * 2 ≤ i * 1048576

  pub adding_none : start % 2 ≡ 0 → Apart 0 1048576 runs → Adding 0 0
  adding_none even a = record {
    from = 0;
    ahead = rw (add-zero start) (apart_drop start 0 1048576 runs even a);
    firsts = 0;
    pasts = 0;
    is = omega arith;
    added = rw (add-zero start) (omega arith);
    low = omega arith;
    high = omega arith;
  }

  pub adding_as : (i sum i' sum' : ℕ) → Adding i sum → i' ≡ i → sum' ≡ sum → Adding i' sum'
  adding_as i sum i' sum' s a b = subst (λ (k : ℕ). Adding k sum') (sym a) (subst (λ (k : ℕ). Adding i k) (sym b) s)

  module _ (i sum : ℕ) (s : Adding i sum) where
    -- 32 bits hold either
    pub adding_fits : i ≤ 4096 → sum < 2 ^ 64
    adding_fits few = omega (arith, s.is, s.low, s.high)

    module _ (at : ℕ) (there : at ≡ start + i) (h : at < length runs) where
      adding_next : NextRun s.from 1048576 at runs
      adding_next = next_run s.from 1048576 at runs h (rw (sym there) at s.ahead)

      pub adding_run : (more : ℕ) → more ≡ get_or runs at 0 + get_or runs (at + 1) 0 * 4294967296 → Adding (i + 2) (sum + more)
      adding_run more e =
          let r = adding_next in
          let then : at + 2 ≡ start + (i + 2) = omega arith in
          let here = ap (λ (k : ℕ). run_lengths (drop k runs)) there in
          let on = ap (λ (k : ℕ). run_lengths (drop k runs)) then in
          record {
            from = get_or runs (at + 1) 0;
            ahead = rw then at r.left;
            firsts = s.firsts + get_or runs at 0;
            pasts = s.pasts + get_or runs (at + 1) 0;
            is = omega (arith, e, s.is);
            added = omega (arith, s.added, r.some, lengths_next s.from 1048576 at runs r, here, on);
            low = omega (arith, s.low, r.some, r.within);
            high = omega (arith, s.high, r.within);
          }

    pub adding_all : (end : ℕ) → end ≡ start + i → i ≤ 4096 → run_lengths (drop end runs) ≤ run_lengths (drop start runs) → Exceeds runs start end sum
    adding_all end there few less =
        let pasts-are : sum / 4294967296 ≡ s.pasts = omega (arith, s.is, s.low) in
        let firsts-are : sum % 4294967296 ≡ s.firsts = omega (arith, s.is, s.low) in
        let left = ap (λ (k : ℕ). run_lengths (drop k runs)) there in
        (omega (arith, pasts-are, firsts-are, s.added, left, less), omega (arith, pasts-are, firsts-are, s.added, left, less))

-- the runs from a number on are not more than all
pub lengths_less : (n : ℕ) (runs : List ℕ) → n % 2 ≡ 0 → Apart 0 1048576 runs → run_lengths (drop n runs) ≤ run_lengths runs
lengths_less n runs even a = omega (arith, lengths_parts n 0 1048576 runs even a)

-- of an even number before an even half there are two more to it
pub two_more : (len i : ℕ) → len % 4 ≡ 0 → i % 2 ≡ 0 → i < len / 2 → i + 2 ≤ len / 2
two_more len i h k l =
    let fours : len / 2 ≡ len / 4 * 2 = omega arith in
    let twos : i ≡ i / 2 * 2 = omega arith in
    let before : i / 2 < len / 4 = omega (arith, fours, twos) in
    omega (arith, fours, twos, before)

-- ---- the runs of a mask, block by block

apart_parts : (b e : ℕ) (xs ys : List ℕ) → length xs % 2 ≡ 0 → Apart b e (xs ++ ys) → Apart b e xs × Apart b e ys
apart_parts b e [] ys h a = (tt, a)
apart_parts b e (f ∷ []) ys h a = absurd (omega arith)
apart_parts b e (f ∷ p ∷ xs) ys h a =
    let r = apart_parts (suc p) e xs ys (omega arith) a.3 in
    ((a.0, a.1, a.2, r.0), apart_wider b (suc p) e e ys (omega arith) (omega arith) r.1)

lengths_append : (xs ys : List ℕ) → length xs % 2 ≡ 0 → run_lengths (xs ++ ys) ≡ run_lengths xs + run_lengths ys
lengths_append [] ys h = omega arith
lengths_append (f ∷ []) ys h = absurd (omega arith)
lengths_append (f ∷ p ∷ xs) ys h = omega (arith, lengths_append xs ys (omega arith))

-- the runs of the blocks before `rest` are summed, and after the blocks comes `last`
pub record Summing (runs last rest : List ℕ) (sum : ℕ) : Type 0 where
  pub fours : length rest % 4 ≡ 0
  pub ahead : Apart 0 1048576 rest
  pub alone : Apart 0 1048576 last
  pub few : length last < 4
  pub summed : sum + run_lengths rest + run_lengths last ≡ run_lengths runs

pub summing_none : (runs last rest : List ℕ) → Apart 0 1048576 runs → rest ≡ take (length runs / 4 * 4) runs → last ≡ drop (length runs / 4 * 4) runs
    → Summing runs last rest 0
summing_none runs last rest a r l =
    let n : ℕ = length runs / 4 * 4 in
    let long : length (take n runs) ≡ n = omega (arith, length-take n runs) in
    let parts = apart_parts 0 1048576 (take n runs) (drop n runs) (omega (arith, long)) (rw (take-append-drop n runs) a) in
    record {
      fours = omega (arith, long, ap length r);
      ahead = rw r parts.0;
      alone = rw l parts.1;
      few = omega (arith, length-drop n runs, ap length l);
      summed = omega (
        arith,
        ap run_lengths r,
        ap run_lengths l,
        lengths_append (take n runs) (drop n runs) (omega (arith, long)),
        ap run_lengths (take-append-drop n runs),
      );
    }

module _ (runs last rest : List ℕ) (sum : ℕ) (s : Summing runs last rest sum) where
  -- a block more
  module _ (block left : List ℕ) (is : rest ≡ block ++ left) (size : length block ≡ min 8192 (length rest)) where
    parts : Apart 0 1048576 block × Apart 0 1048576 left
    parts = apart_parts 0 1048576 block left (omega (arith, s.fours)) (rw is at s.ahead)

    pub block_runs : (length block % 4 ≡ 0) × (length block ≤ 8192) × Apart 0 1048576 block
    block_runs = (omega (arith, s.fours), omega arith, parts.0)

    pub summing_next : (more : ℕ) → more ≡ run_lengths block → Summing runs last left (sum + more)
    summing_next more e = record {
      fours = omega (arith, s.fours, ap length is, length-append block left);
      ahead = parts.1;
      alone = s.alone;
      few = s.few;
      summed = omega (arith, s.summed, e, ap run_lengths is, lengths_append block left (omega (arith, s.fours)));
    }

  pub summing_few : Apart 0 1048576 runs → sum ≤ 1048576
  summing_few a = omega (arith, s.summed, runs_few 0 1048576 runs a (omega arith))

  -- no block is left: what comes after them is a run, or nothing
  module _ (e : length rest ≡ 0) where
    blocks_all : sum + run_lengths last ≡ run_lengths runs
    blocks_all = omega (arith, s.summed, lengths_none 0 rest (omega arith))

    pub summing_all : length last < 2 → sum ≡ run_lengths runs
    summing_all h = omega (arith, blocks_all, apart_even 0 1048576 last s.alone, lengths_none 0 last (omega (arith, apart_even 0 1048576 last s.alone)))

    pub no_more : 3 ≤ length last → ⊥
    no_more h = omega (arith, apart_even 0 1048576 last s.alone, s.few)

    module _ (two : 2 ≤ length last) where
      pub last_run : NextRun 0 1048576 0 last
      last_run = next_run 0 1048576 0 last (omega arith) s.alone

      pub summing_last : length last < 3 → sum + (get_or last 1 0 - get_or last 0 0) ≡ run_lengths runs
      summing_last h = omega (arith, blocks_all, lengths_next 0 1048576 0 last last_run, lengths_none 2 last (omega arith))
