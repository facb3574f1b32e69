-- For every form the run that is found and what is left from there on are what was left before, and the records of all runs found, one after
-- the other, are the records of the operand's runs. By the cases of a form.
-- Assumes nothing.
use Prim.Native.Nat.{ℕ, zero, suc, ◌+◌, ◌-◌, ◌*◌, ◌≤◌, ◌<◌}
use native.Mathlib.Numerals.{add-one, add-two}
use native.Mathlib.Decide.{dec_lt}
use native.Mathlib.Omega.{arith}
use mathlib.Core.Path.{◌≡◌, refl, sym, ap, ap₂, subst, ◌∙◌}
use mathlib.Core.List.{List, [], ◌∷◌, ◌++◌, append-nil}
use lib.ListN.{length, drop, get_or, set, length-drop, drop_of_length-le}
use lib.Seq.{drop-cons}
use Rattle.rows.specs.Lists.{listed, Ascending}
use Rattle.rows.specs.Rows.{splice}
use Rattle.rows.specs.Runs.{runs_of}
use Rattle.rows.specs.Words.{view}
use Rattle.rows.proofs.RunLaws.{runs_back}
use Rattle.rows.proofs.SpliceLaws.{splice_nil, splice_one, splice_append, splice_eq}
use Rattle.rules.specs.declared.Form.{Form}
use Rattle.rules.specs.declared.Form.TheVariants.{All, None, Words, List as Listed, Runs}
use Rattle.rules.specs.declared.Run.{Run}
use Rattle.rules.specs.Operand.{Operand, lent, rows_of, Accepted}
use Rattle.rules.specs.Records.{records_of}
use Rattle.rules.proofs.Records.{records_length}
use Rattle.operand.proofs.NumberLaws.{accepted_list, accepted_runs}
use Rattle.mask.proofs.RunOutLaws.{whole_run, none_runs}
use Rattle.turns.proofs.ListTurnLaws.{runs_listed}
use Rattle.runs.specs.declared.search.Found.{Found}
use Rattle.runs.specs.Searched.{found_by, left_by}
use Rattle.runs.proofs.SearchLaws.{words_next, list_next}

-- ---- where a search stands that has a run left

pub all_at : (n at : ℕ) (o : Operand) → 2 ≤ length (left_by (All n) o at) → (at ≡ 0) × (0 < n)
all_at zero zero o h = absurd (omega arith)
all_at (suc n) zero o h = (refl, omega arith)
all_at n (suc at) o h = absurd (omega arith)

ascending_drop : (b len at : ℕ) (es : List ℕ) → Ascending b len es → Ascending b len (drop at es)
ascending_drop b len zero es a = a
ascending_drop b len (suc at) [] a = tt
ascending_drop b len (suc at) (e ∷ es) a = lower b (suc e) (drop at es) (omega (arith, a.0)) (ascending_drop (suc e) len at es a.2)
  where
    lower : (c d : ℕ) (ns : List ℕ) → c ≤ d → Ascending d len ns → Ascending c len ns
    lower c d [] h b = tt
    lower c d (n ∷ ns) h b = (omega (arith, b.0), b.1, b.2)

pub list_at : (len at : ℕ) (es : List ℕ) → 2 ≤ length (runs_of (listed len (drop at es))) → at < length es
list_at len at es h = by (dec_lt at (length es))
  where
    by : Dec (at < length es) → at < length es
    by (yes l) = l
    by (no n) =
        let gone = ap (λ (l : List ℕ). length (runs_of (listed len l))) (drop_of_length-le es {i = at} (omega arith)) in
        absurd (omega (arith, h, gone, ap length (runs_listed len [] tt)))

pub runs_at : (at : ℕ) (ns : List ℕ) → 2 ≤ length (drop at ns) → at + 1 < length ns
runs_at at ns h = omega (arith, length-drop at ns)

-- ---- the run that is found, and what is left

pub found_next : (f : Form) (ws es : List ℕ) (at : ℕ) → Accepted (lent f ws es) → 2 ≤ length (left_by f (lent f ws es) at)
    → left_by f (lent f ws es) at ≡ (found_by f (lent f ws es) at).run.first ∷ (found_by f (lent f ws es) at).run.past ∷ left_by f (lent f ws es)
    (found_by f (lent f ws es) at).at
found_next (All n) ws es zero m h = whole_run n (all_at n 0 (lent (All n) ws es) h).1
found_next (All n) ws es (suc at) m h = absurd (omega arith)
found_next (None n) ws es at m h = absurd (omega arith)
found_next (Words start len claimed) ws es at m h = words_next at (view start len ws) (omega arith)
found_next (Listed len) ws es at m h =
    let a = accepted_list (lent (Listed len) ws es) refl m in
    let x = found_by (Listed len) (lent (Listed len) ws es) at in
    runs_listed len (drop at es) (ascending_drop 0 len at es a) ∙ list_next at es (list_at len at es h)
    ∙ ap (λ (l : List ℕ). x.run.first ∷ x.run.past ∷ l) (sym (runs_listed len (drop x.at es) (ascending_drop 0 len x.at es a)))
found_next (Runs len) ws es at m h =
    let l : at + 1 < length es = runs_at at es h in
    drop-cons es at 0 (omega arith) ∙ ap (λ (k : List ℕ). get_or es at 0 ∷ k) (drop-cons es (suc at) 0 (omega arith))
    ∙ ap₂ (λ (i j : ℕ). get_or es at 0 ∷ get_or es i 0 ∷ drop j es) (sym (add-one at)) (sym (add-two at))

left_all : (f : Form) (ws es : List ℕ) → Accepted (lent f ws es) → left_by f (lent f ws es) 0 ≡ runs_of (rows_of (lent f ws es))
left_all (All n) ws es m = refl
left_all (None n) ws es m = sym (none_runs n)
left_all (Words start len claimed) ws es m = refl
left_all (Listed len) ws es m = refl
left_all (Runs len) ws es m = sym (runs_back len es (accepted_runs (lent (Runs len) ws es) refl m))

-- ---- all runs, one after the other

no_more : (ns : List ℕ) → length ns ≡ 0 → ns ≡ []
no_more [] e = refl
no_more (n ∷ ns) e = absurd (omega arith)

-- records over as many are themselves
over_as_many : (out rs : List Run) → length rs ≡ length out → splice 0 out rs ≡ rs
over_as_many out rs e =
    splice_eq 0 out rs (omega (arith, e)) ∙ ap (λ (l : List Run). rs ++ l) (drop_of_length-le out {i = 0 + length rs} (omega (arith, e))) ∙ append-nil rs

module _ (f : Form) (ws es : List ℕ) where
  abbrev o : Operand
  o = lent f ws es

  abbrev all : List Run
  all = records_of (runs_of (rows_of o))

  -- n - i runs are left, and stored from record i on they make all runs' records
  pub record Finding (n i at : ℕ) (out : List Run) : Type 0 where
    pub some : length (left_by f o at) ≡ (n - i) * 2
    pub leaves : splice i out (records_of (left_by f o at)) ≡ all

  module _ (m : Accepted o) where
    pub finding_none : (out : List Run) → length (runs_of (rows_of o)) ≡ length out * 2 → Finding (length out) 0 0 out
    finding_none out e = record {
      some = omega (arith, ap length (left_all f ws es m), e);
      leaves =
          ap (λ (ns : List ℕ). splice 0 out (records_of ns)) (left_all f ws es m)
          ∙ over_as_many out all (omega (arith, records_length (runs_of (rows_of o)), e));
    }

    module _ (n i at : ℕ) (out : List Run) (l : Finding n i at out) where
      abbrev next : Found
      next = found_by f o at

      pub finding_some : i < n → 2 ≤ length (left_by f o at)
      finding_some h = omega (arith, l.some)

      split : i < n → left_by f o at ≡ next.run.first ∷ next.run.past ∷ left_by f o next.at
      split h = found_next f ws es at m (finding_some h)

      pub finding_next : (x : Found) → i < n → x ≡ next → Finding n (i + 1) x.at (set out i x.run)
      finding_next x h e = subst (λ (y : Found). Finding n (i + 1) y.at (set out i y.run)) (sym e) (record {
        some = omega (arith, l.some, ap length (split h));
        leaves =
            ap (λ (rs : List Run). splice (i + 1) rs (records_of (left_by f o next.at))) (sym (splice_one i out next.run))
            ∙ splice_append i out (next.run ∷ []) (records_of (left_by f o next.at))
            ∙ ap (λ (ns : List ℕ). splice i out (records_of ns)) (sym (split h)) ∙ l.leaves;
      })

      pub finding_all : n ≤ i → out ≡ all
      finding_all h =
          sym (splice_nil i out) ∙ ap (λ (ns : List ℕ). splice i out (records_of ns)) (sym (no_more (left_by f o at) (omega (arith, l.some))))
          ∙ l.leaves
