-- The set rows among n from a row on: of all set and of none, and of a view that begins in a later word. By recursion over the rows, and by the bits of
-- the words from one on.
-- Assumes nothing.
use Prim.Native.Nat.{ℕ, zero, suc, ◌+◌, ◌-◌, ◌*◌, ◌/◌, ◌%◌, ◌≤◌}
use mathlib.Core.Path.{◌≡◌, refl, sym, ap, ◌∙◌}
use mathlib.Core.Bool.{Bool, true, false}
use mathlib.Core.List.{List}
use native.Mathlib.Omega.{arith}
use lib.ListN.{length, take, drop, replicate, length-drop}
use lib.Seq.{drop-drop, take_all}
use Rattle.rows.specs.Rows.{count}
use Rattle.rows.specs.Words.{bits_of_all, view}
use Rattle.rows.proofs.FitLaws.{drop_words}

pub all_count : (row n len : ℕ) → row + n ≤ len → n ≡ count (take n (drop row (replicate len true)))
all_count zero zero len h = refl
all_count zero (suc n) zero h = absurd (omega arith)
all_count zero (suc n) (suc len) h = ap suc (all_count zero n len (omega arith))
all_count (suc row) n zero h = absurd (omega arith)
all_count (suc row) n (suc len) h = all_count row n len (omega arith)

pub none_count : (row n len : ℕ) → 0 ≡ count (take n (drop row (replicate len false)))
none_count zero zero len = refl
none_count zero (suc n) zero = refl
none_count zero (suc n) (suc len) = none_count zero n len
none_count (suc row) zero zero = refl
none_count (suc row) (suc n) zero = refl
none_count (suc row) n (suc len) = none_count row n len

-- the words from the one on that has the first bit
pub view_later : (bit n : ℕ) (ws : List ℕ) → view (bit % 64) n (take (length ws - bit / 64) (drop (bit / 64) ws)) ≡ view bit n ws
view_later bit n ws =
    let i : ℕ = bit / 64 in
    let k : ℕ = bit % 64 in
    let bits = bits_of_all 64 ws in
    let place : i * 64 + k ≡ bit = omega arith in
    ap (view k n) (take_all (length ws - i) (drop i ws) (omega (arith, length-drop i ws)))
    ∙ ap (λ (l : List Bool). take n (drop k l)) (sym (drop_words 64 i ws)) ∙ ap (take n) (drop-drop k (i * 64) bits)
    ∙ ap (λ (x : ℕ). take n (drop x bits)) place
