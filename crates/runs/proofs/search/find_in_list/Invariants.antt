-- `runs::search::find_in_list` meets its contract.
-- The invariant: what follows from entry i on follows from the first on. Assumes nothing.
use Rattle.std.proofs.Common.{ℕ, List, length, drop, get_or, suc, ◌≡◌, ◌+◌, ◌≤◌}
use Rattle.runs.specs.Searched.{run_on}
use Rattle.runs.proofs.search.find_in_list.Given as goal

-- how many entries follow the one at `at`
abbrev pub follow : List ℕ → ℕ → ℕ
follow es at = run_on (suc (get_or es at 0)) (drop (suc at) es)

pub record Following (es : List ℕ) (at past i : ℕ) : Type 0 where
  pub within : i ≤ length es
  pub low : past ≤ 1048576
  pub rows : past + run_on past (drop i es) ≡ suc (get_or es at 0) + follow es at
  pub entries : i + run_on past (drop i es) ≡ suc at + follow es at

abbrev pub invariant-loop-i : goal.invariant-loop-i
invariant-loop-i l = Following l.rows l.at l.past l.i
