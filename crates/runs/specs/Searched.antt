-- An operand's runs, found one after the other: the next run from a place on, and the numbers that are left from there on. No promise to a
-- user rests on it.
-- Assumes nothing.
use Rattle.std.specs.Prelude.{ℕ, zero, suc, ◌+◌, Bool, true, false, not, cond, List, [], ◌∷◌, map, eqb, drop, get_or, replicate}
use Rattle.rows.specs.Lists.{listed, select}
use Rattle.rows.specs.Runs.{turns, runs_of}
use Rattle.rows.specs.Words.{view}
use Rattle.rules.specs.declared.Form.{Form}
use Rattle.rules.specs.declared.Form.TheVariants.{All, None, Words, List as Listed, Runs}
use Rattle.rules.specs.Operand.{Operand}
use Rattle.rules.specs.Records.{run}
use Rattle.outside.specs.declared.inner.Sought.{Sought}
use Rattle.outside.specs.declared.inner.Sought.TheVariants.{Set, Unset}
use Rattle.runs.specs.declared.search.Found.{Found}

-- ---- the next run

-- the rows that are set, or those that are not
abbrev pub hits : Sought → List Bool → List Bool
hits Set s = s
hits Unset s = map not s

-- the first of them from a row on
abbrev pub seek_row : Sought → ℕ → List Bool → ℕ
seek_row which from s = from + select (hits which (drop from s)) 0

abbrev pub found : ℕ → ℕ → ℕ → Found
found first past at = record { run = run first past; at = at }

abbrev pub found_words : ℕ → List Bool → Found
found_words at s = found (seek_row Set at s) (seek_row Unset (seek_row Set at s) s) (seek_row Unset (seek_row Set at s) s)

-- how many entries follow each other from row p on
abbrev pub run_on : ℕ → List ℕ → ℕ
run_on p [] = 0
run_on p (e ∷ es) = cond (eqb e p) (suc (run_on (suc e) es)) 0

abbrev pub found_list : ℕ → List ℕ → Found
found_list at es =
    found (get_or es at 0) (suc (get_or es at 0) + run_on (suc (get_or es at 0)) (drop (suc at) es)) (suc at + run_on (suc (get_or es at 0)) (drop (suc at) es))

abbrev pub found_runs : ℕ → List ℕ → Found
found_runs at ns = found (get_or ns at 0) (get_or ns (at + 1) 0) (at + 2)

abbrev pub found_by : Form → Operand → ℕ → Found
found_by (All n) o at = found 0 n (at + 1)
found_by (None n) o at = found 0 0 at
found_by (Words start len claimed) o at = found_words at (view start len o.words)
found_by (Listed len) o at = found_list at o.numbers
found_by (Runs len) o at = found_runs at o.numbers

-- ---- what is left from a place on

abbrev pub left_by : Form → Operand → ℕ → List ℕ
left_by (All n) o zero = runs_of (replicate n true)
left_by (All n) o (suc at) = []
left_by (None n) o at = []
left_by (Words start len claimed) o at = turns false at (drop at (view start len o.words))
left_by (Listed len) o at = runs_of (listed len (drop at o.numbers))
left_by (Runs len) o at = drop at o.numbers
