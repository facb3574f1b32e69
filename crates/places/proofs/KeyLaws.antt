-- A number that is none of those below k is not below k.
-- By recursion over k. Assumes nothing.
use Rattle.std.proofs.Common.{◌≡◌, ℕ, zero, suc, ◌<◌, ◌≤◌, ⊎_elim, eq-or-lt_of_le, arith}
use Rattle.places.specs.Keys.{NoneBelow}

pub none_below : (k n : ℕ) → NoneBelow k n → k ≤ n
none_below zero n h = omega arith
none_below (suc k) n h = ⊎_elim (λ (e : k ≡ n). absurd (h.1 (omega arith))) (λ (l : k < n). l) (eq-or-lt_of_le (none_below k n h.0))
