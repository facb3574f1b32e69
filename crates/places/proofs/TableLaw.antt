-- The table's rule: at a byte and a rank stands the place of the byte's set bit of that rank, and 8 where there is none.
-- By one test that antt computes over the 2,048 entries, and one law that carries it to each. Assumes nothing.
use Rattle.std.proofs.Common.{◌≡◌, ℕ, ◌+◌, ◌*◌, ◌/◌, ◌%◌, ◌^◌, ◌<◌, Bool, get_or, sym, ◌∙◌, ap₂, arith}
use lib.Dec.{T, eqb, eqb→eq}
use Rattle.rows.specs.Word.{bits_of}
use Rattle.rows.specs.Lists.{select}
use Rattle.rows.proofs.EveryBelow.{all_below, at_below}
use Rattle.places.specs.Places.{places}

-- the entry at a byte and a rank
abbrev pub entry : ℕ → ℕ → ℕ
entry byte rank = get_or places byte 0 / 2 ^ (8 * rank) % 256

-- the test at an entry
right : ℕ → Bool
right k = eqb (entry (k / 8) (k % 8)) (select (bits_of 8 (k / 8)) (k % 8))

passed : T (all_below 2048 right)
unfolding right bits_of
passed = tt

pub placed : (byte rank : ℕ) → byte < 256 → rank < 8 → entry byte rank ≡ select (bits_of 8 byte) rank
unfolding right
placed byte rank b r =
    let k = byte * 8 + rank in
    let d : k / 8 ≡ byte = omega arith in
    let m : k % 8 ≡ rank = omega arith in
    sym (ap₂ entry d m) ∙ eqb→eq (entry (k / 8) (k % 8)) (select (bits_of 8 (k / 8)) (k % 8)) (at_below 2048 right passed k (omega arith))
    ∙ ap₂ (λ (b r : ℕ). select (bits_of 8 b) r) d m
