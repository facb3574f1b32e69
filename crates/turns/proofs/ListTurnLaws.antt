-- The runs of a list of row numbers: an entry that is not the row past its predecessor ends a run and begins one. By recursion over the
-- rows against the list of their set rows, and over the list.
-- Assumes nothing.
use Prim.Native.Nat.{ℕ, suc, ◌+◌, ◌-◌, ◌*◌, ◌≤◌, ◌<◌}
use native.Mathlib.Nat.{zero-add}
use native.Mathlib.Numerals.{add-one}
use mathlib.Core.Path.{◌≡◌, refl, sym, ap, ap₂, ◌∙◌}
use mathlib.Core.Logic.{◌≢◌}
use mathlib.Core.Bool.{Bool, true, false}
use mathlib.Core.List.{List, [], ◌∷◌, ◌++◌}
use native.Mathlib.Omega.{arith}
use lib.Dec.{eqb}
use lib.ListN.{length, take, drop, get_or, set, length-append, length-drop, drop_of_length-le}
use lib.Seq.{drop-cons, take_all}
use Rattle.rows.specs.Rows.{splice}
use Rattle.rows.specs.Lists.{member, listed, Ascending, set_rows}
use Rattle.rows.specs.Runs.{turns, runs_of}
use Rattle.rows.proofs.RowLaws.{count_le_length}
use Rattle.rows.proofs.SpliceLaws.{splice_one, splice_append}
use Rattle.rows.proofs.ListLaws.{eqb_same, eqb_other, tab_length, rows_listed, rows_ascending, listed_count}
use Rattle.rows.proofs.MarkLaws.{ascending_below, below_at}
use Rattle.turns.specs.Gaps.{unless, between}
use Rattle.turns.proofs.WrittenLaws.{splice_cons}

-- from a run on that the row before `past` is in
abbrev pub gaps : ℕ → List ℕ → List ℕ
gaps past [] = past ∷ []
gaps past (r ∷ rs) = between past r ++ gaps (suc r) rs

abbrev pub list_turns : List ℕ → List ℕ
list_turns [] = []
list_turns (r ∷ rs) = r ∷ gaps (suc r) rs

-- ---- against rows

on : (r : ℕ) (rs : List ℕ) → gaps r (r ∷ rs) ≡ gaps (suc r) rs
on r rs = ap (λ (b : Bool). unless b (r ∷ r ∷ []) ++ gaps (suc r) rs) (eqb_same r)

off : (past e : ℕ) (rs : List ℕ) → Ascending (suc past) e rs → gaps past rs ≡ past ∷ list_turns rs
off past e [] a = refl
off past e (r ∷ rs) a =
    let ne : r ≢ past = omega arith in
    ap (λ (b : Bool). unless b (past ∷ r ∷ []) ++ gaps (suc r) rs) (eqb_other r past ne)

mutual
  outside : (b : ℕ) (s : List Bool) → turns false b s ≡ list_turns (set_rows b s)
  outside b [] = refl
  outside b (false ∷ s) = outside (suc b) s
  outside b (true ∷ s) = ap (λ (l : List ℕ). b ∷ l) (inside (suc b) s)

  inside : (b : ℕ) (s : List Bool) → turns true b s ≡ gaps b (set_rows b s)
  inside b [] = refl
  inside b (true ∷ s) = inside (suc b) s ∙ sym (on b (set_rows (suc b) s))
  inside b (false ∷ s) =
      ap (λ (l : List ℕ). b ∷ l) (outside (suc b) s)
      ∙ sym (off b (suc b + length s) (set_rows (suc b) s) (rows_ascending (suc b) (suc b + length s) s refl))

pub runs_listed : (len : ℕ) (rs : List ℕ) → Ascending 0 len rs → runs_of (listed len rs) ≡ list_turns rs
runs_listed len rs a = outside 0 (listed len rs) ∙ ap list_turns (rows_listed len 0 len rs (zero-add len) a)

-- ---- how many

between_few : (past r : ℕ) → length (between past r) ≤ 2
between_few past r = go (eqb r past)
  where
    go : (b : Bool) → length (unless b (past ∷ r ∷ [])) ≤ 2
    go true = omega arith
    go false = omega arith

gaps_few : (past : ℕ) (rs : List ℕ) → length (gaps past rs) ≤ 1 + length rs * 2
gaps_few past [] = omega arith
gaps_few past (r ∷ rs) = omega (arith, length-append (between past r) (gaps (suc r) rs), between_few past r, gaps_few (suc r) rs)

pub turns_few : (rs : List ℕ) → length (list_turns rs) ≤ length rs * 2
turns_few [] = omega arith
turns_few (r ∷ rs) = omega (arith, gaps_few (suc r) rs)

pub list_short : (len : ℕ) (rs : List ℕ) → Ascending 0 len rs → length rs ≤ len
list_short len rs a = omega (arith, listed_count len rs a, count_le_length (listed len rs), tab_length 0 len (λ i. member i rs))

list_below : (len : ℕ) (rs : List ℕ) (i : ℕ) → Ascending 0 len rs → i < length rs → get_or rs i 0 < len
list_below len rs i a h = below_at len rs i (ascending_below 0 len rs a) h

-- ---- entry after entry, of those that a pattern leaves past the first

abbrev pub rest_of : List ℕ → List ℕ
rest_of rs = take (length rs - 1) (drop 1 rs)

rest_is : (rs : List ℕ) → rest_of rs ≡ drop 1 rs
rest_is rs = take_all (length rs - 1) (drop 1 rs) (omega (arith, length-drop 1 rs))

pub rest_below : (len : ℕ) (rs : List ℕ) (i : ℕ) → Ascending 0 len rs → i < length (rest_of rs) → get_or (rest_of rs) i 0 < len
rest_below len [] i a h = absurd (omega arith)
rest_below len (r ∷ rs) i a h = rw (rest_is (r ∷ rs)) (list_below len (r ∷ rs) (suc i) a (omega (arith, ap length (rest_is (r ∷ rs)))))

pub turns_none : (rs : List ℕ) → length rs ≡ 0 → list_turns rs ≡ []
turns_none [] e = refl
turns_none (r ∷ rs) e = absurd (omega arith)

pub turns_first : (rs : List ℕ) → 0 < length rs → list_turns rs ≡ get_or rs 0 0 ∷ gaps (get_or rs 0 0 + 1) (rest_of rs)
turns_first [] h = absurd (omega arith)
turns_first (r ∷ rs) h = ap₂ (λ (p : ℕ) (l : List ℕ). r ∷ gaps p l) (sym (add-one r)) (sym (rest_is (r ∷ rs)))

pub gaps_next : (past i : ℕ) (rs : List ℕ) → i < length rs
    → gaps past (drop i rs) ≡ between past (get_or rs i 0) ++ gaps (get_or rs i 0 + 1) (drop (i + 1) rs)
gaps_next past i rs h =
    let r : ℕ = get_or rs i 0 in
    ap (gaps past) (drop-cons rs i 0 h) ∙ ap₂ (λ (p k : ℕ). between past r ++ gaps p (drop k rs)) (sym (add-one r)) (sym (add-one i))

pub gaps_end : (past i : ℕ) (rs : List ℕ) → length rs ≤ i → gaps past (drop i rs) ≡ past ∷ []
gaps_end past i rs h = ap (gaps past) (drop_of_length-le rs {i = i} h)

-- ---- between an entry and the next

pub between_none : (past row : ℕ) → row ≡ past → between past row ≡ []
between_none past row e = ap (λ (b : Bool). unless b (past ∷ row ∷ [])) (ap (λ (k : ℕ). eqb k past) e ∙ eqb_same past)

pub between_two : (past row : ℕ) → row ≢ past → between past row ≡ past ∷ row ∷ []
between_two past row ne = ap (λ (b : Bool). unless b (past ∷ row ∷ [])) (eqb_other row past ne)

pub count_next : (sum past i : ℕ) (rs : List ℕ) → i < length rs
    → sum + length (gaps past (drop i rs)) ≡ sum + length (between past (get_or rs i 0)) + length (gaps (get_or rs i 0 + 1) (drop (i + 1) rs))
count_next sum past i rs h =
    let r : ℕ = get_or rs i 0 in
    omega (arith, ap length (gaps_next past i rs h), length-append (between past r) (gaps (r + 1) (drop (i + 1) rs)))

-- ---- written over entries, from entry k on

pub two_written : (k past row : ℕ) (out : List ℕ) → k < length out → splice k out (past ∷ row ∷ []) ≡ set (set out k past) (k + 1) row
two_written k past row out h =
    splice_cons k out past (row ∷ []) h ∙ splice_one (suc k) (set out k past) row ∙ ap (λ (i : ℕ). set (set out k past) i row) (sym (add-one k))

pub gap_written : (k past i : ℕ) (rs out : List ℕ) → i < length rs
    → splice (k + length (between past (get_or rs i 0))) (splice k out (between past (get_or rs i 0))) (gaps (get_or rs i 0 + 1) (drop (i + 1) rs))
    ≡ splice k out (gaps past (drop i rs))
gap_written k past i rs out h =
    splice_append k out (between past (get_or rs i 0)) (gaps (get_or rs i 0 + 1) (drop (i + 1) rs)) ∙ ap (splice k out) (sym (gaps_next past i rs h))

-- the first entry stored, and what follows it; and the end
pub first_written : (rs out : List ℕ) → 0 < length rs → 0 < length out
    → splice 1 (set out 0 (get_or rs 0 0)) (gaps (get_or rs 0 0 + 1) (rest_of rs)) ≡ splice 0 out (list_turns rs)
first_written rs out h k =
    sym (ap (splice 0 out) (turns_first rs h) ∙ splice_cons 0 out (get_or rs 0 0) (gaps (get_or rs 0 0 + 1) (rest_of rs)) k)

pub end_written : (k past i : ℕ) (rs out : List ℕ) → length rs ≤ i → set out k past ≡ splice k out (gaps past (drop i rs))
end_written k past i rs out h = sym (ap (splice k out) (gaps_end past i rs h) ∙ splice_one k out past)
