-- A word as bytes: one function on every byte, or on every byte of two words; and the byte network's own functions on one byte. Assumes nothing.
use Rattle.std.specs.Prelude.{ℕ, zero, suc, ◌+◌, ◌-◌, ◌*◌, ◌/◌, ◌%◌, ◌^◌, Bool, true, false, List, bit_and, bit_or, bit_xor, count_ones, nat_lt, slice_index}

-- f of each of the n low bytes of x and of y
unfoldable pub each2 : (ℕ → ℕ → ℕ) → ℕ → ℕ → ℕ → ℕ
each2 f zero x y = zero
each2 f (suc n) x y = each2 f n (x / 256) (y / 256) * 256 + f (x % 256) (y % 256)

-- f of each of the n low bytes of y
abbrev pub each : (ℕ → ℕ) → ℕ → ℕ → ℕ
each f n y = each2 (λ a b. f b) n y y

-- b in each of n bytes
unfoldable pub in_each : ℕ → ℕ → ℕ
in_each zero b = zero
in_each (suc n) b = in_each n b * 256 + b

-- in byte j, a and the set digits of m in the bytes below byte j
unfoldable pub before : ℕ → ℕ → ℕ → ℕ
before zero a m = zero
before (suc n) a m = before n (a + count_ones (m % 256)) (m / 256) * 256 + a

-- in byte j, the 8 digits of s from the number in byte j of x on
unfoldable pub gathered : ℕ → ℕ → ℕ → ℕ
gathered zero s x = zero
gathered (suc n) s x = gathered n s (x / 256) * 256 + (s / 2 ^ (x % 256)) % 256

-- the n low bytes of p on a word of w digits, byte j of them from the digit on that byte j of x says
unfoldable pub joined : ℕ → ℕ → ℕ → ℕ → ℕ
joined w zero p x = zero
joined w (suc n) p x = bit_or (joined w n p x) ((p / 2 ^ (8 * n) % 256 * 2 ^ (x / 2 ^ (8 * n) % 256)) % 2 ^ w)

-- ---- on one byte

abbrev pub up8 : ℕ → ℕ → ℕ
up8 k a = (a * 2 ^ k) % 256

abbrev pub down8 : ℕ → ℕ → ℕ
down8 k a = a / 2 ^ k

abbrev pub pick : Bool → ℕ → ℕ → ℕ
pick true a b = a
pick false a b = b

-- The mask byte 10110100 through the stages. Its set bits a, b, c and d have 2, 3, 3 and 4 clear bits below them, and have that far to go.
--
--   place         7 6 5 4 3 2 1 0
--
--   packed_at 0    d . c b . a . .
--   zerosAt 0     . o . . o . o o
--   parity8 1     0 0 1 1 1 0 0 1    c and b go down by 1
--   landedAt 0    . . . c b . . .
--
--   packed_at 1    d . . c b a . .
--   zerosAt 1     . o o . . . o o    each second zero, and the place below it
--   parity8 2     0 0 0 1 1 1 1 1    c, b and a go down by 2
--   landedAt 1    . . . . . c b a
--
--   packed_at 2    d . . . . c b a
--   zerosAt 2     . o o o o . . .    each second pair of zeros, and the two places below it
--   parity8 4     1 1 1 1 1 0 0 0    d goes down by 4
--   landedAt 2    . . . . d . . .
--
--   packed_at 3    . . . . d c b a

-- parity from the length len on, doubled up to 8
unfoldable pub parity_from : ℕ → ℕ → ℕ → ℕ
parity_from zero len z = z
parity_from (suc f) len z = pick (nat_lt len 8) (parity_from f (len * 2) (bit_xor z (up8 len z))) z

unfoldable pub parity8 : ℕ → ℕ → ℕ
parity8 len z = parity_from 4 len z

-- what a stage leaves of the zeros z, and of the packed mask p; and where the bits that it moves land
unfoldable pub zeros8 : ℕ → ℕ → ℕ
zeros8 k z = bit_xor (bit_and z (255 - parity8 k z)) (bit_and z (255 - parity8 k z) / 2 ^ k)

unfoldable pub landed8 : ℕ → ℕ → ℕ → ℕ
landed8 k z p = bit_and p (parity8 k z) / 2 ^ k

unfoldable pub packed8 : ℕ → ℕ → ℕ → ℕ
packed8 k z p = bit_xor p (bit_xor (bit_and p (parity8 k z)) (bit_and p (parity8 k z) / 2 ^ k))

-- before stage i: the zeros of the mask byte b, and its bits
unfoldable pub zeros_at : ℕ → ℕ → ℕ
zeros_at zero b = 255 - b
zeros_at (suc i) b = zeros8 (2 ^ i) (zeros_at i b)

unfoldable pub packed_at : ℕ → ℕ → ℕ
packed_at zero b = b
packed_at (suc i) b = packed8 (2 ^ i) (zeros_at i b) (packed_at i b)

-- where the bits that stage i moves land
unfoldable pub landed_at : ℕ → ℕ → ℕ
landed_at i b = landed8 (2 ^ i) (zeros_at i b) (packed_at i b)

-- a stage undone, on a word of w digits: the bits of r at l move up by k
abbrev pub undo : ℕ → ℕ → ℕ → ℕ → ℕ
undo w k l r = bit_or (bit_and r (2 ^ w - 1 - l)) ((bit_and r l * 2 ^ k) % 2 ^ w)

-- the stages below i undone, the last one first, where the bits of each landed at the entry of ls
unfoldable pub undo_from : ℕ → List ℕ → ℕ → ℕ → ℕ
undo_from w ls zero r = r
undo_from w ls (suc i) r = undo_from w ls i (undo w (2 ^ i) (slice_index ls i) r)

-- a stage done, on a word of w digits: the bits of r that land at l move down by k
abbrev pub move : ℕ → ℕ → ℕ → ℕ → ℕ
move w k l r = bit_or (bit_and r (2 ^ w - 1 - (l * 2 ^ k) % 2 ^ w)) (bit_and (r / 2 ^ k) l)

-- the stages below i done, the first one first, where the bits of each land at the entry of ls
unfoldable pub move_to : ℕ → List ℕ → ℕ → ℕ → ℕ
move_to w ls zero r = r
move_to w ls (suc i) r = move w (2 ^ i) (slice_index ls i) (move_to w ls i r)
