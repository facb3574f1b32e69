-- The lowest set digit of a word of w digits, the word without it, and a source moved past it or without it: by recursion
-- over the width, lowest digit first.
-- Assumes nothing.
use Rattle.std.specs.Prelude.{ℕ, zero, suc, ◌+◌, ◌*◌, ◌/◌, ◌%◌, ◌^◌}

-- a where the digit is set, and else b
abbrev pub if_set : ℕ → ℕ → ℕ → ℕ
if_set zero a b = b
if_set (suc d) a b = a

-- the lowest set digit of n, at its place; 0 where none is set
unfoldable pub lowest_set : ℕ → ℕ → ℕ
lowest_set zero n = zero
lowest_set (suc w) n = if_set (n % 2) 1 (lowest_set w (n / 2) * 2)

-- n without its lowest set digit
unfoldable pub without_lowest : ℕ → ℕ → ℕ
without_lowest zero n = zero
without_lowest (suc w) n = if_set (n % 2) (n / 2 * 2) (without_lowest w (n / 2) * 2)

-- the source s moved up by one from the lowest set digit of h on; the digit that comes in below is c
unfoldable pub past_hole : ℕ → ℕ → ℕ → ℕ → ℕ
past_hole zero h c s = zero
past_hole (suc w) h c s = if_set (h % 2) ((s * 2 + c) % 2 ^ suc w) (past_hole w (h / 2) (s % 2) (s / 2) * 2 + s % 2)

-- the source s without its digit at the lowest set digit of h: the digits above it moved down by one
unfoldable pub closed : ℕ → ℕ → ℕ → ℕ
closed zero h s = zero
closed (suc w) h s = if_set (h % 2) (s / 2) (closed w (h / 2) (s / 2) * 2 + s % 2)
