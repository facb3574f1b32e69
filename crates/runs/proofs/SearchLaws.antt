-- An operand's runs, found one after the other: the first row sought, the entries that follow each other, and for every form that the
-- run found and what is left from there on are what was left before. By recursion over rows, entries and numbers.
-- Assumes nothing.
use Prim.Native.Nat.{ℕ, suc, ◌+◌, ◌-◌, ◌<◌}
use native.Mathlib.Nat.{add-zero, suc-add, add-suc}
use native.Mathlib.Omega.{arith}
use native.Mathlib.Decide.{ℕ_discrete}
use mathlib.Core.Path.{◌≡◌, refl, sym, ap, ◌∙◌}
use mathlib.Core.Bool.{Bool, true, false, not, cond}
use mathlib.Core.List.{List, [], ◌∷◌, ◌++◌, map}
use lib.Dec.{eqb}
use lib.ListN.{length, drop, get_or, length-map, length-drop}
use lib.Seq.{drop-cons, drop-drop, get_or-drop}
use Rattle.std.proofs.lemmas.List.{get_or-map}
use Rattle.rows.specs.Lists.{select}
use Rattle.rows.specs.Runs.{turns}
use Rattle.rows.proofs.ListLaws.{eqb_same, eqb_other}
use Rattle.rows.proofs.SelectLaws.{select_unset}
use Rattle.turns.specs.Gaps.{unless}
use Rattle.turns.proofs.ListTurnLaws.{gaps, list_turns}
use Rattle.outside.specs.declared.inner.Sought.{Sought}
use Rattle.outside.specs.declared.inner.Sought.TheVariants.{Set, Unset}
use Rattle.outside.specs.First.{has, sought, First}
use Rattle.outside.proofs.FirstLaws.{first_select}
use Rattle.runs.specs.Searched.{hits, seek_row, run_on}

-- ---- the rows that are sought

hits_at : (which : Sought) (s : List Bool) (i : ℕ) → i < length s → has (hits which s) i ≡ sought which (has s i)
hits_at Set s i h = refl
hits_at Unset s i h = get_or-map not s i false false h

hits_length : (which : Sought) (s : List Bool) → length (hits which s) ≡ length s
hits_length Set s = refl
hits_length Unset s = length-map s not

-- the first of them from a row on
pub seek_first : (which : Sought) (from : ℕ) (s : List Bool) (r : ℕ) → First (λ i. sought which (has s i)) from (length s) r → r ≡ seek_row which from s
seek_first which from s r f = omega (arith, f.on, first_select t (r - from) later)
  where
    t : List Bool
    t = hits which (drop from s)

    long : length t ≡ length s - from
    long = hits_length which (drop from s) ∙ length-drop from s

    at : (i : ℕ) → from + i < length s → has t i ≡ sought which (has s (from + i))
    at i h = hits_at which (drop from s) i (omega (arith, length-drop from s)) ∙ ap (sought which) (get_or-drop from s i false)

    later : First (has t) 0 (length t) (r - from)
    later = record {
      on = omega arith;
      within = omega (arith, long, f.within);
      clear = λ i h k. at i (omega (arith, f.within)) ∙ f.clear (from + i) (omega arith) (omega arith);
      here = λ l.
          let back : from + (r - from) ≡ r = omega (arith, f.on) in
          at (r - from) (omega (arith, long)) ∙ ap (λ (i : ℕ). sought which (has s i)) back ∙ f.here (omega (arith, long));
    }

-- ---- the runs of rows: to the next set row, and from there to the next that is not

unset_run : (b : ℕ) (t : List Bool) → 0 < length (turns false b t) → turns false b t ≡ (b + select t 0) ∷ turns true (b + select t 0) (drop (select t 0) t)
unset_run b [] h = absurd (omega arith)
unset_run b (true ∷ t) h = ap (λ (k : ℕ). k ∷ turns true k (true ∷ t)) (sym (add-zero b))
unset_run b (false ∷ t) h =
    unset_run (suc b) t h ∙ ap (λ (k : ℕ). k ∷ turns true k (drop (select t 0) t)) (suc-add b (select t 0) ∙ sym (add-suc b (select t 0)))
    ∙ ap (λ (j : ℕ). (b + j) ∷ turns true (b + j) (drop j (false ∷ t))) (sym (select_unset t 0))

set_run : (b : ℕ) (t : List Bool) → turns true b t ≡ (b + select (map not t) 0) ∷ turns false (b + select (map not t) 0) (drop (select (map not t) 0) t)
set_run b [] = ap (λ (k : ℕ). k ∷ []) (sym (add-zero b))
set_run b (false ∷ t) = ap (λ (k : ℕ). k ∷ turns false k (false ∷ t)) (sym (add-zero b))
set_run b (true ∷ t) =
    set_run (suc b) t ∙ ap (λ (k : ℕ). k ∷ turns false k (drop (select (map not t) 0) t))
    (suc-add b (select (map not t) 0) ∙ sym (add-suc b (select (map not t) 0)))
    ∙ ap (λ (j : ℕ). (b + j) ∷ turns false (b + j) (drop j (true ∷ t))) (sym (select_unset (map not t) 0))

pub words_next : (at : ℕ) (s : List Bool) → 0 < length (turns false at (drop at s))
    → turns false at (drop at s)
    ≡ seek_row Set at s ∷ seek_row Unset (seek_row Set at s) s ∷ turns false (seek_row Unset (seek_row Set at s) s) (drop (seek_row Unset (seek_row Set at s) s) s)
words_next at s h =
    let f = seek_row Set at s in
    let k = select (map not (drop f s)) 0 in
    unset_run at (drop at s) h ∙ ap (λ (l : List Bool). f ∷ turns true f l) (drop-drop (select (drop at s) 0) at s)
    ∙ ap (λ (l : List ℕ). f ∷ l) (set_run f (drop f s) ∙ ap (λ (l : List Bool). (f + k) ∷ turns false (f + k) l) (drop-drop k f s))

-- ---- the runs of a list: entries that follow each other

gaps_on : (p : ℕ) (es : List ℕ) → gaps p es ≡ (p + run_on p es) ∷ list_turns (drop (run_on p es) es)
gaps_on p [] = ap (λ (k : ℕ). k ∷ []) (sym (add-zero p))
gaps_on p (e ∷ es) = by (ℕ_discrete e p) (gaps_on (suc e) es)
  where
    by : Dec (e ≡ p) → gaps (suc e) es ≡ (suc e + run_on (suc e) es) ∷ list_turns (drop (run_on (suc e) es) es)
        → gaps p (e ∷ es) ≡ (p + run_on p (e ∷ es)) ∷ list_turns (drop (run_on p (e ∷ es)) (e ∷ es))
    by (yes q) ih =
        let same : eqb e p ≡ true = ap (λ (k : ℕ). eqb e k) (sym q) ∙ eqb_same e in
        let more : suc e + run_on (suc e) es ≡ p + suc (run_on (suc e) es) = omega (arith, q) in
        ap (λ (b : Bool). unless b (p ∷ e ∷ []) ++ gaps (suc e) es) same ∙ ih
        ∙ ap (λ (k : ℕ). k ∷ list_turns (drop (run_on (suc e) es) es)) more
        ∙ ap (λ (b : Bool). (p + cond b (suc (run_on (suc e) es)) 0) ∷ list_turns (drop (cond b (suc (run_on (suc e) es)) 0) (e ∷ es))) (sym same)
    by (no q) ih =
        let other : eqb e p ≡ false = eqb_other e p q in
        ap (λ (b : Bool). unless b (p ∷ e ∷ []) ++ gaps (suc e) es) other
        ∙ ap (λ (k : ℕ). k ∷ list_turns (e ∷ es)) (sym (add-zero p))
        ∙ ap (λ (b : Bool). (p + cond b (suc (run_on (suc e) es)) 0) ∷ list_turns (drop (cond b (suc (run_on (suc e) es)) 0) (e ∷ es))) (sym other)

pub list_next : (at : ℕ) (es : List ℕ) → at < length es
    → list_turns (drop at es)
    ≡ get_or es at 0 ∷ (suc (get_or es at 0) + run_on (suc (get_or es at 0)) (drop (suc at) es))
    ∷ list_turns (drop (suc at + run_on (suc (get_or es at 0)) (drop (suc at) es)) es)
list_next at es h =
    let f = get_or es at 0 in
    let k = run_on (suc f) (drop (suc at) es) in
    ap list_turns (drop-cons es at 0 h) ∙ ap (λ (l : List ℕ). f ∷ l) (gaps_on (suc f) (drop (suc at) es))
    ∙ ap (λ (l : List ℕ). f ∷ (suc f + k) ∷ list_turns l) (drop-drop k (suc at) es)

-- one entry more, and the end
pub on_next : (past i : ℕ) (es : List ℕ) → i < length es → get_or es i 0 ≡ past → run_on past (drop i es) ≡ suc (run_on (suc past) (drop (suc i) es))
on_next past i es h e =
    let rest = drop (suc i) es in
    ap (run_on past) (drop-cons es i 0 h)
    ∙ ap (λ (b : Bool). cond b (suc (run_on (suc (get_or es i 0)) rest)) 0) (ap (λ (k : ℕ). eqb k past) e ∙ eqb_same past)
    ∙ ap (λ (k : ℕ). suc (run_on (suc k) rest)) e
