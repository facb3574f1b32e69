-- The walk over a list, from any entry on: does it climb, and what is its last entry. By what one entry more does.
-- Assumes nothing.
use Prim.Native.Nat.{ℕ, suc, ◌-◌, ◌≤◌, ◌<◌}
use mathlib.Core.Path.{◌≡◌, refl, sym, ap, ◌∙◌}
use mathlib.Core.Bool.{true, ◌&&◌}
use mathlib.Core.List.{List, [], ◌∷◌}
use native.Mathlib.Omega.{arith}
use lib.Dec.{ltb}
use lib.ListN.{length, get_or, drop, length-drop}
use lib.Seq.{drop-cons}
use Rattle.rules.specs.Operand.{climbs, last_below}

pub climbs_step : (es : List ℕ) (i : ℕ) → suc i < length es → climbs (drop i es) ≡ (ltb (get_or es i 0) (get_or es (suc i) 0) && climbs (drop (suc i) es))
climbs_step es i h = rw (drop-cons es i 0 (omega arith), drop-cons es (suc i) 0 h)

short : (es : List ℕ) → length es ≤ 1 → climbs es ≡ true
short [] h = refl
short (e ∷ []) h = refl
short (e ∷ f ∷ es) h = absurd (omega arith)

pub climbs_end : (es : List ℕ) (i : ℕ) → length es ≤ suc i → climbs (drop i es) ≡ true
climbs_end es i h = short (drop i es) (omega (arith, length-drop i es))

pub last_none : (len : ℕ) (es : List ℕ) → length es ≡ 0 → last_below len es ≡ true
last_none len [] h = refl
last_none len (e ∷ es) h = absurd (omega arith)

pub last_at : (len : ℕ) (es : List ℕ) → 0 < length es → last_below len es ≡ ltb (get_or es (length es - 1) 0) len
last_at len [] h = absurd (omega arith)
last_at len (e ∷ []) h = refl
last_at len (e ∷ f ∷ es) h =
    let k : length (e ∷ f ∷ es) - 1 ≡ suc (length (f ∷ es) - 1) = omega arith in
    last_at len (f ∷ es) (omega arith) ∙ sym (ap (λ (i : ℕ). ltb (get_or (e ∷ f ∷ es) i 0) len) k)
