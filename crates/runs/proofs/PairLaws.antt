-- Runs and the pairs of their numbers: a run before those after it, two stores are a splice, a chunk of two numbers is a run,
-- and room for the ones is room for the others. By recursion over the pairs, and by the law of a table of one line.
-- Assumes nothing.
use Prim.Native.Nat.{ℕ, zero, suc, ◌+◌, ◌*◌, ◌/◌, ◌%◌, ◌≤◌, ◌<◌}
use native.Mathlib.Decide.{dec_le}
use native.Mathlib.Numerals.{add-one}
use native.Mathlib.Omega.{arith}
use mathlib.Core.Path.{◌≡◌, refl, sym, ap, ◌∙◌}
use mathlib.Core.List.{List, [], ◌∷◌, ◌++◌}
use lib.ListN.{length, drop, get_or, set}
use lib.Seq.{drop-cons}
use Rattle.std.specs.Simd.{first_chunks}
use Rattle.rows.specs.declared.Reason.TheVariants.{NoRoom}
use Rattle.rows.specs.Rows.{splice}
use Rattle.rows.specs.Table.{no_operand, first}
use Rattle.rows.proofs.SpliceLaws.{splice_one, splice_append}
use Rattle.rows.proofs.TableLaws.{alone_fine, alone_refused}
use Rattle.rules.specs.declared.Run.{Run}
use Rattle.rules.specs.Records.{run, numbers_of, records_of}
use Rattle.rules.proofs.Records.{numbers_length}
use Rattle.mask.proofs.JudgeLaws.{eight}

-- what a place past a list's end reads as
abbrev pub no_run : Run
no_run = run 0 0

pub run_split : (rs : List Run) (i : ℕ) → i < length rs → drop i rs ≡ get_or rs i no_run ∷ drop (i + 1) rs
run_split rs i h = drop-cons rs i no_run h ∙ ap (λ (k : ℕ). get_or rs i no_run ∷ drop k rs) (sym (add-one i))

-- ---- the numbers of a run, stored before those of the runs after it

pair_stored : (xs : List ℕ) (k first past : ℕ) → set (set xs k first) (k + 1) past ≡ splice k xs (first ∷ past ∷ [])
pair_stored xs k first past =
    sym (splice_one (k + 1) (set xs k first) past)
    ∙ ap (λ (l : List ℕ). splice (k + 1) l (past ∷ [])) (sym (splice_one k xs first))
    ∙ splice_append k xs (first ∷ []) (past ∷ [])

pub pair_next : (k first past : ℕ) (ns out : List ℕ) → splice (k + 2) (set (set out k first) (k + 1) past) ns ≡ splice k out (first ∷ past ∷ ns)
pair_next k first past ns out =
    ap (λ (l : List ℕ). splice (k + 2) l ns) (pair_stored out k first past) ∙ splice_append k out (first ∷ past ∷ []) ns

-- ---- a chunk of two numbers, and the run that it is

abbrev pub run_in : List ℕ → Run
run_in ns = run (get_or ns 0 0) (get_or ns 1 0)

pub chunk_run : (k i : ℕ) (ns : List ℕ) → i < k → k * 2 ≤ length ns → run_in (get_or (first_chunks 2 k ns) i []) ≡ get_or (records_of ns) i no_run
chunk_run zero i ns h l = absurd (omega arith)
chunk_run (suc k) i [] h l = absurd (omega arith)
chunk_run (suc k) i (first ∷ []) h l = absurd (omega arith)
chunk_run (suc k) zero (first ∷ past ∷ ns) h l = refl
chunk_run (suc k) (suc i) (first ∷ past ∷ ns) h l = chunk_run k i ns (omega arith) (omega arith)

-- ---- the numbers of records, and of those after them

twice_suc : (k : ℕ) → suc k * 2 ≡ suc (suc (k * 2))
twice_suc k = omega arith

numbers_drop : (k : ℕ) (out : List Run) → numbers_of (drop k out) ≡ drop (k * 2) (numbers_of out)
numbers_drop zero out = refl
numbers_drop (suc k) [] = ap (λ (n : ℕ). drop {A = ℕ} n []) (sym (twice_suc k))
numbers_drop (suc k) (r ∷ out) = numbers_drop k out ∙ ap (λ (n : ℕ). drop n (numbers_of (r ∷ out))) (sym (twice_suc k))

numbers_append : (rs out : List Run) → numbers_of (rs ++ out) ≡ numbers_of rs ++ numbers_of out
numbers_append [] out = refl
numbers_append (r ∷ rs) out = ap (λ (l : List ℕ). r.first ∷ r.past ∷ l) (numbers_append rs out)

pub numbers_before : (rs out : List Run) (k : ℕ) → numbers_of (rs ++ drop k out) ≡ numbers_of rs ++ drop (k * 2) (numbers_of out)
numbers_before rs out k = numbers_append rs (drop k out) ∙ ap (λ (l : List ℕ). numbers_of rs ++ l) (numbers_drop k out)

-- ---- room for records is room for their numbers

pub pairs_room : (n : ℕ) (out : List Run) → n % 2 ≡ 0 → first (eight (n / 2) (length out)) ≡ first (eight n (length (numbers_of out)))
pairs_room n out even = by (dec_le n (length (numbers_of out)))
  where
    by : Dec (n ≤ length (numbers_of out)) → first (eight (n / 2) (length out)) ≡ first (eight n (length (numbers_of out)))
    by (yes l) =
        alone_fine (dec_le (n / 2) (length out)) NoRoom no_operand (omega (arith, numbers_length out))
        ∙ sym (alone_fine (dec_le n (length (numbers_of out))) NoRoom no_operand l)
    by (no h) =
        alone_refused (dec_le (n / 2) (length out)) NoRoom no_operand (λ l. h (omega (arith, numbers_length out)))
        ∙ sym (alone_refused (dec_le n (length (numbers_of out))) NoRoom no_operand h)
