-- Runs of rows as marks: the rows of a run marked one by one are its ones laid, and the rows of all runs are the set rows of what they say.
-- By recursion over a run's rows, and over the runs.
-- Assumes nothing.
use Prim.Native.Nat.{ℕ, zero, suc, ◌+◌, ◌-◌, ◌≤◌, ◌<◌}
use mathlib.Core.Path.{◌≡◌, refl, sym, ap, ap₂, ◌∙◌}
use mathlib.Core.Bool.{true, false}
use mathlib.Core.List.{List, [], ◌∷◌, ◌++◌}
use native.Mathlib.Omega.{arith}
use lib.ListN.{replicate}
use Rattle.rows.specs.Lists.{set_rows}
use Rattle.rows.specs.Runs.{held, in_runs, Apart}
use Rattle.rows.specs.Laid.{laid, marked}
use Rattle.rows.proofs.ListLaws.{tab_length}
use Rattle.rows.proofs.RunLaws.{run_rows, in_runs_lem, rows_from, runs_set_rows, no_runs_set_rows}
use Rattle.rows.proofs.LaidLaws.{laid_append}
use Rattle.rows.proofs.MarkLaws.{marked_rows}

-- the rows of the runs, in order
abbrev pub rows_in : List ℕ → List ℕ
rows_in [] = []
rows_in (first ∷ []) = []
rows_in (first ∷ past ∷ ns) = rows_from first (past - first) ++ rows_in ns

rows_in_from : (b c e : ℕ) (ns : List ℕ) → b ≤ c → Apart c e ns → set_rows b (run_rows b e ns) ≡ rows_in ns
rows_in_from b c e [] h a = no_runs_set_rows b e
rows_in_from b c e (f ∷ []) h a = absurd a
rows_in_from b c e (f ∷ p ∷ ns) h a =
    runs_set_rows b e f p ns (omega arith) a.1
    ∙ ap (λ (l : List ℕ). rows_from f (p - f) ++ l) (rows_in_from p (suc p) e ns (omega arith) a.3)

pub rows_in_lem : (e : ℕ) (ns : List ℕ) → Apart 0 e ns → set_rows 0 (in_runs e ns) ≡ rows_in ns
rows_in_lem e ns a = ap (set_rows 0) (in_runs_lem e ns a) ∙ rows_in_from 0 0 e ns (omega arith) a

-- a run's rows marked are its ones laid
marked_more : (at f n : ℕ) (ws : List ℕ) → marked at (rows_from f (suc n)) ws ≡ laid (at + f) (replicate (suc n) true) ws
marked_more at f zero ws = refl
marked_more at f (suc n) ws =
    let one = true ∷ [] in
    marked_more at (suc f) n (laid (at + f) one ws) ∙ laid_append 64 (at + f) (at + suc f) one (replicate (suc n) true) ws (omega arith)

pub marked_run : (at f n : ℕ) (ws : List ℕ) → 0 < n → marked at (rows_from f n) ws ≡ laid (at + f) (replicate n true) ws
marked_run at f zero ws h = absurd (omega arith)
marked_run at f (suc n) ws h = marked_more at f n ws

-- where the part was cleared the runs' rows, marked, are what the runs say
pub marked_runs : (at e : ℕ) (ns ws : List ℕ) → Apart 0 e ns → marked at (rows_in ns) (laid at (replicate e false) ws) ≡ laid at (in_runs e ns) ws
marked_runs at e ns ws a =
    ap₂ (λ (rs : List ℕ) (n : ℕ). marked at rs (laid at (replicate n false) ws)) (sym (rows_in_lem e ns a)) (sym (tab_length 0 e (λ i. held i ns)))
    ∙ marked_rows at (in_runs e ns) ws
