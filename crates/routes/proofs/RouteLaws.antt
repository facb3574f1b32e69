-- A test of the route table that is known: the line is taken, or the table goes on.
-- By computation on the test. Assumes nothing.
use mathlib.Core.Path.{◌≡◌, ap}
use mathlib.Core.Bool.{Bool, true, false, cond}

module _ {X : Type 0} {b : Bool} (x y : X) where
  pub picked : b ≡ true → cond b x y ≡ x
  picked e = ap (λ (t : Bool). cond t x y) e

  pub passed : b ≡ false → cond b x y ≡ y
  passed e = ap (λ (t : Bool). cond t x y) e
