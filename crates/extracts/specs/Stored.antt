-- What storing the ranks of one chunk leaves: its n low bits from bit `at` on, and maybe more of the word, or zeros, before bit `end`.
-- Assumes nothing.
use Rattle.std.specs.Prelude.{ℕ, ◌+◌, ◌≤◌, ◌≡◌, List}
use Rattle.rows.specs.Word.{bits_of}
use Rattle.rows.specs.Laid.{laid}

pub record Stored (at end n bits : ℕ) (before after : List ℕ) : Type 0 where
  pub many : ℕ
  pub enough : n ≤ many
  pub within : at + many ≤ end
  pub lies : after ≡ laid at (bits_of many bits) before
