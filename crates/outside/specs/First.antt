-- The first row that a test takes, and how far it takes all. No promise to a user rests on it.
-- Assumes nothing.
use Rattle.std.specs.Prelude.{ℕ, ◌-◌, ◌^◌, ◌≤◌, ◌<◌, ◌≡◌, Bool, true, false, not, List, get_or}
use Rattle.outside.specs.declared.inner.Sought.{Sought}
use Rattle.outside.specs.declared.inner.Sought.TheVariants.{Set, Unset}

-- s has row i
abbrev pub has : List Bool → ℕ → Bool
has s i = get_or s i false

-- what is sought: a row that is set, or one that is not
abbrev pub sought : Sought → Bool → Bool
sought Set x = x
sought Unset x = not x

-- the word that turns each row sought to 1 and each other to 0, against which 64 rows are held
abbrev pub flipped : Sought → ℕ
flipped Set = 0
flipped Unset = 2 ^ 64 - 1

-- of the rows from b to before e the test takes none
abbrev pub Clear : (ℕ → Bool) → ℕ → ℕ → Type 0
Clear f b e = (i : ℕ) → b ≤ i → i < e → f i ≡ false

-- the first row from b on that the test takes, and e where it takes none before e
pub record First (f : ℕ → Bool) (b e r : ℕ) : Type 0 where
  pub on : b ≤ r
  pub within : r ≤ e
  pub clear : Clear f b r
  pub here : r < e → f r ≡ true

-- the test takes all rows from b to before r, and r is b only where it does not take b
pub record Reach (f : ℕ → Bool) (b e r : ℕ) : Type 0 where
  pub on : b ≤ r
  pub within : r ≤ e
  pub full : (i : ℕ) → b ≤ i → i < r → f i ≡ true
  pub stuck : r ≡ b → f b ≡ false
