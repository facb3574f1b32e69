-- An answer, from its verdict and its rows: a refusal's count, route and density are 0.
-- Hold it against document 01: "Count, route (0 outside composition) and density. The density is the f64 quotient of the result's count and
-- length, rounded once, and 0.0 at length 0."; and "A refusal carries count 0, route 0, density 0.0".
-- Assumes nothing.
use Rattle.std.specs.Prelude.{ℕ, Bool, false, List, pos, Float, length}
use Rattle.std.proofs.Math.Decide.{ℕ_discrete}
use Rattle.std.specs.Float.{fin, binary64}
use Rattle.std.specs.Float.Ieee.{round}
use Rattle.rows.specs.declared.Refusal.{Refusal}
use Rattle.rows.specs.Table.{Verdict}
use Rattle.std.specs.Prelude.{Option, None, Result, Ok, Err}
use Rattle.rows.specs.Rows.{count}
use Rattle.rows.specs.Table.{choose, granted}
use Rattle.rules.specs.declared.Route.{Route}
use Rattle.rules.specs.declared.Summary.{Summary}

abbrev pub no_density : Float
no_density = fin false 0 (pos 0)

-- the quotient of count and length rounded once, 0.0 at length 0: `round f s num den` is the value of the format f that is nearest to
-- num / den, ties to even
unfoldable pub density_of : ℕ → ℕ → Float
density_of n len = choose (ℕ_discrete len 0) no_density (round binary64 false n len)

-- outside composition there is no route
abbrev pub no_route : Option Route
no_route = None

-- ---- an answer is made here and nowhere else

-- a refusal, or the summary of the result
abbrev pub Answer : Type 0
Answer = Result Summary Refusal

abbrev pub summary : ℕ → Option Route → Float → Summary
summary n route density = record { count = n; route = route; density = density }

-- accepted: n set rows among len, by this route
abbrev pub accepted : ℕ → Option Route → ℕ → Summary
accepted n route len = summary n route (density_of n len)

-- of a result that is these rows, by this route
abbrev pub summed : List Bool → Option Route → Summary
summed rows route = accepted (count rows) route (length rows)

-- by the verdict
abbrev pub answered : Verdict → List Bool → Option Route → Answer
answered v rows route = granted v (summed rows route)

-- what is told of an answer in numbers: of a refusal count 0, no route, whose number is 0, and density 0.0
abbrev pub summary_told : Answer → Summary
summary_told (Ok s) = s
summary_told (Err r) = summary 0 None no_density
