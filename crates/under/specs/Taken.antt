-- A walk over a rank list by self's runs: what one run takes of it.
-- Assumes nothing.
use Rattle.std.specs.Prelude.{ℕ, ◌^◌, ◌≤◌, ◌≡◌, List, ◌++◌, map, length, drop}
use Rattle.rows.specs.Words.{Below}
use Rattle.rows.specs.Lists.{Ascending}
use Rattle.rows.specs.Laid.{marked}

-- the ranks from number `next` to number `past` are below `end`, and their rows are marked; those that are left are at `from` or above
pub record Taken (ranks : List ℕ) (row : ℕ → ℕ) (at next past end from : ℕ) (out₀ out : List ℕ) : Type 0 where
  pub taken : List ℕ
  pub parts : drop next ranks ≡ taken ++ drop past ranks
  pub within : past ≤ length ranks
  pub below : Below end taken
  pub ahead : Ascending from (2 ^ 32) (drop past ranks)
  pub marks : out ≡ marked at (map row taken) out₀
