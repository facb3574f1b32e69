-- What acceptance gives, one lemma each: the rows' length is the form's, their count the operand's, a list ascends below the
-- length; and rows in words of their own are an operand. From the needs of the operand's table of checks, form by form.
-- Assumes nothing.
use Prim.Native.Nat.{ℕ, zero, suc, ◌+◌, ◌*◌, ◌≤◌}
use native.Mathlib.Nat.{zero-add}
use mathlib.Core.Path.{◌≡◌, refl, sym, ap}
use mathlib.Core.Logic.{◌↔◌}
use mathlib.Core.Bool.{Bool, true, false, ◌&&◌}
use mathlib.Core.List.{List, [], ◌∷◌}
use native.Mathlib.Omega.{arith}
use lib.Dec.{T, leb, leb→le, ltb, ltb→lt}
use lib.ListN.{length, replicate, length-replicate}
use Rattle.rows.specs.Rows.{count}
use Rattle.rows.specs.Lists.{Ascending}
use Rattle.rows.specs.Runs.{Apart}
use Rattle.rows.specs.Laid.{words_for}
use Rattle.rows.specs.Table.{Named, no_operand, Met}
use Rattle.rows.proofs.RowLaws.{count_le_length}
use Rattle.rows.proofs.WordsLaws.{view_length, words_of_bits}
use Rattle.rows.proofs.FitLaws.{all_fit}
use Rattle.rows.proofs.LaidLaws.{words_of_length}
use Rattle.rows.proofs.ListLaws.{tab_length, listed_count}
use Rattle.rows.proofs.RunLaws.{runs_count}
use Rattle.rules.specs.declared.Form.{Form}
use Rattle.rules.specs.declared.Form.TheVariants.{All, None, Words, List as Listed, Runs}
use Rattle.rules.specs.Operand.{Operand, in_words, rows_by, rows_of, length_of, count_by, count_of, limit, climbs, last_below, runs_fit, checks_by, operand_checks, Accepted}

-- ---- a list that climbs below the length

both_T : (a b : Bool) → T (a && b) → T a × T b
both_T true b t = (tt, t)
both_T false b t = absurd t

ascends : (b len e : ℕ) (es : List ℕ) → b ≤ e → T (climbs (e ∷ es)) → T (last_below len (e ∷ es)) → Ascending b len (e ∷ es)
ascends b len e [] h c l = (h, ltb→lt e len l, tt)
ascends b len e (f ∷ es) h c l =
    let q = both_T (ltb e f) (climbs (f ∷ es)) c in
    let rest = ascends (suc e) len f es (ltb→lt e f q.0) q.1 l in
    (h, omega (arith, rest.1), rest)

pub ascending : (len : ℕ) (es : List ℕ) → T (climbs es) → T (last_below len es) → Ascending 0 len es
ascending len [] c l = tt
ascending len (e ∷ es) c l = ascends 0 len e es (omega arith) c l

-- ---- runs that fit

pub apart : (b len : ℕ) (ns : List ℕ) → T (runs_fit b len ns) → Apart b len ns
apart b len [] t = tt
apart b len (first ∷ []) t = t
apart b len (first ∷ past ∷ ns) t =
    let p = both_T (leb b first) _ t in
    let q = both_T (ltb first past) _ p.1 in
    let r = both_T (leb past len) (runs_fit (suc past) len ns) q.1 in
    (leb→le b first p.0, ltb→lt first past q.0, leb→le past len r.0, apart (suc past) len ns r.1)

-- ---- the needs do not depend on which operand it is

pub accepted_as : (k : Named) (o : Operand) → Met (operand_checks k o) ↔ Accepted o
accepted_as k o = by o.form
  where
    by : (f : Form) → Met (checks_by f k o) ↔ Met (checks_by f no_operand o)
    by (All n) = (λ m. m, λ m. m)
    by (None n) = (λ m. m, λ m. m)
    by (Words start len claimed) = (λ m. m, λ m. m)
    by (Listed len) = (λ m. m, λ m. m)
    by (Runs len) = (λ m. m, λ m. m)

-- ---- what acceptance gives

count_true : (n : ℕ) → count (replicate n true) ≡ n
count_true zero = refl
count_true (suc n) = ap suc (count_true n)

count_false : (n : ℕ) → count (replicate n false) ≡ 0
count_false zero = refl
count_false (suc n) = count_false n

pub accepted_limit : (o : Operand) → Accepted o → length_of o.form ≤ limit
accepted_limit o = by o.form
  where
    by : (f : Form) → Met (checks_by f no_operand o) → length_of f ≤ limit
    by (All n) m = m.0
    by (None n) m = m.0
    by (Words start len claimed) m = m.0
    by (Listed len) m = m.0
    by (Runs len) m = m.0

-- `search` finds the need where it stands, so that the order is the theorem's alone to say
pub words_reach : (start len claimed : ℕ) (o : Operand) → Met (checks_by (Words start len claimed) no_operand o) → words_for (start + len) ≤ length o.words
words_reach start len claimed o m = search

pub accepted_length : (o : Operand) → Accepted o → length (rows_of o) ≡ length_of o.form
accepted_length o = by o.form
  where
    by : (f : Form) → Met (checks_by f no_operand o) → length (rows_by f o) ≡ length_of f
    by (All n) m = length-replicate n true
    by (None n) m = length-replicate n false
    by (Words start len claimed) m = view_length start len o.words (omega (arith, words_reach start len claimed o m))
    by (Listed len) m = tab_length 0 len _
    by (Runs len) m = tab_length 0 len _

pub accepted_count : (o : Operand) → Accepted o → count (rows_of o) ≡ count_of o
accepted_count o = by o.form
  where
    by : (f : Form) → Met (checks_by f no_operand o) → count (rows_by f o) ≡ count_by f o.numbers
    by (All n) m = count_true n
    by (None n) m = count_false n
    by (Words start len claimed) m = sym (search)
    by (Listed len) m = listed_count len o.numbers (ascending len o.numbers m.1.0 m.1.1.0)
    by (Runs len) m = runs_count len o.numbers (apart 0 len o.numbers m.1.0)

-- its count is no more than its length, and so within the limit
pub accepted_few : (o : Operand) → Accepted o → count_of o ≤ limit
accepted_few o m = omega (arith, count_le_length (rows_of o), accepted_length o m, accepted_count o m, accepted_limit o m)

-- ---- rows in words of their own

pub in_words_rows : (s : List Bool) → rows_of (in_words s) ≡ s
in_words_rows s = rw (words_of_bits 64 (words_for (length s)) s) (all_fit (words_for (length s) * 64) s (omega arith))

pub in_words_accepted : (s : List Bool) → length s ≤ limit → Accepted (in_words s)
in_words_accepted s h =
    let first : 0 ≤ 63 = omega arith in
    let reach : words_for (0 + length s) ≤ length (in_words s).words = omega (arith, words_of_length 64 (words_for (length s)) s, zero-add (length s)) in
    let counted : count s ≡ count (rows_of (in_words s)) = ap count (sym (in_words_rows s)) in
    (search, (search, (search, (search, tt))))
