-- Select in a word, by its bits: low bits skipped, low bits searched alone, the lowest set bit cleared, the lowest found by the zeros
-- below it, and the next by those between the two. Each is a law of select on rows, at the bits of a word of any width.
-- Assumes nothing.
use Rattle.std.proofs.Common.{◌≡◌, ℕ, zero, suc, ◌+◌, ◌-◌, ◌/◌, ◌%◌, ◌^◌, ◌<◌, ◌≤◌, Bool, List, ◌++◌, sym, refl, ap, ◌∙◌, subst, ap₂, ⊎_elim, le_of_suc-le-suc, arith}
use Rattle.std.proofs.lemmas.Bool.{cases_lt}
use native.Mathlib.Nat.{mod-mod}
use lib.Bits.{bit_and}
use lib.Count.{ones, count_trailing_zeros, under}
use Rattle.rows.specs.Rows.{count}
use Rattle.rows.specs.Word.{bits_of}
use Rattle.rows.specs.Lists.{select}
use Rattle.rows.proofs.RowLaws.{count_append}
use Rattle.rows.proofs.WordLaws.{bits_of_length, bits_of_add, bits_mod, count_bits_mod}
use Rattle.rows.proofs.SelectLaws.{select_unset, select_in, select_none, select_skip, selects, select_cleared}
use Rattle.rows.proofs.ClearLaws.{cleared_bits}
use Rattle.network.proofs.DigitLaws.{digit}

-- the rank is past the k low bits
pub skip_bits : (k w n r : ℕ) → ones (n % 2 ^ k) ≤ r → select (bits_of (k + w) n) r ≡ k + select (bits_of w (n / 2 ^ k)) (r - ones (n % 2 ^ k))
skip_bits k w n r h =
    let c : count (bits_of k n) ≡ ones (n % 2 ^ k) = count_bits_mod k n in
    ap (λ (l : List Bool). select l r) (bits_of_add k w n) ∙ select_skip (bits_of k n) (bits_of w (n / 2 ^ k)) r (omega arith)
    ∙ ap₂ (λ (x y : ℕ). x + select (bits_of w (n / 2 ^ k)) (r - y)) (bits_of_length k n) c

-- the rank is in the k low bits
low_bits : (k w n r : ℕ) → r < ones (n % 2 ^ k) → select (bits_of (k + w) n) r ≡ select (bits_of k n) r
low_bits k w n r h =
    let c : count (bits_of k n) ≡ ones (n % 2 ^ k) = count_bits_mod k n in
    ap (λ (l : List Bool). select l r) (bits_of_add k w n) ∙ select_in (bits_of k n) (bits_of w (n / 2 ^ k)) r (omega arith)

-- then they may be searched alone
pub in_low_bits : (k w n r : ℕ) → r < ones (n % 2 ^ k) → select (bits_of (k + w) n) r ≡ select (bits_of k (n % 2 ^ k)) r
in_low_bits k w n r h = low_bits k w n r h ∙ ap (λ (l : List Bool). select l r) (sym (bits_mod k n))

-- and as a word of any width
pub in_bits : (k w v n r : ℕ) → r < ones (n % 2 ^ k) → select (bits_of (k + w) n) r ≡ select (bits_of (k + v) (n % 2 ^ k)) r
in_bits k w v n r h =
    let e : n % 2 ^ k % 2 ^ k ≡ n % 2 ^ k = mod-mod n (2 ^ k) in
    in_low_bits k w n r h ∙ sym (low_bits k v (n % 2 ^ k) r (subst (λ (x : ℕ). r < ones x) (sym e) h))

-- the lowest set bit cleared
pub select_and_pred : (w n r : ℕ) → select (bits_of w (bit_and n (n - 1))) r ≡ select (bits_of w n) (suc r)
select_and_pred w n r = ap (λ (s : List Bool). select s r) (cleared_bits w n) ∙ select_cleared (bits_of w n) r

-- at any rank the place is one of theirs or their number
pub in_bits_le : (k n r : ℕ) → select (bits_of k n) r ≤ k
in_bits_le k n r =
    ⊎_elim (λ (held : r < count (bits_of k n)). omega (arith, (selects (bits_of k n) r held).within, bits_of_length k n))
    (λ (past : count (bits_of k n) ≤ r). omega (arith, select_none (bits_of k n) r past, bits_of_length k n)) (cases_lt r (count (bits_of k n)))

-- the first set bit stands above the zeros below it
pub select_first : (w n : ℕ) → select (bits_of w n) 0 ≡ count_trailing_zeros w n
unfolding bits_of count_trailing_zeros
select_first zero n = refl
select_first (suc w) n =
    ⊎_elim (λ (x : n % 2 ≡ 0). rw x (select_unset (bits_of w (n / 2)) 0 ∙ ap suc (select_first w (n / 2)))) (λ (x : n % 2 ≡ 1). rw x) (digit n)

-- where there is a set bit, the first is one of the bits
pub first_lt : (w n : ℕ) → 0 < count (bits_of w n) → count_trailing_zeros w n < w
first_lt w n h = omega (arith, (selects (bits_of w n) 0 h).within, select_first w n, bits_of_length w n)

-- up to it there is one
count_first : (w n : ℕ) → count_trailing_zeros w n < w → count (bits_of (suc (count_trailing_zeros w n)) n) ≡ 1
unfolding bits_of count_trailing_zeros
count_first zero n h = absurd (omega arith)
count_first (suc w) n h =
    ⊎_elim (λ (x : n % 2 ≡ 0). rw x (count_first w (n / 2) (le_of_suc-le-suc (subst (λ (d : ℕ). under d (count_trailing_zeros w (n / 2)) < suc w) x h))))
    (λ (x : n % 2 ≡ 1). rw x) (digit n)

-- the second set bit stands above the first, and above the zeros between the two
pub select_second : (w n : ℕ) → 1 < count (bits_of w n) → select (bits_of w n) 1 ≡ suc (count_trailing_zeros w n) + count_trailing_zeros w (n / 2 ^ suc (count_trailing_zeros w n))
select_second w n h =
    let t : ℕ = count_trailing_zeros w n in
    let k : ℕ = suc t in
    let v : ℕ = w - k in
    let m : ℕ = n / 2 ^ k in
    let lt : t < w = first_lt w n (omega arith) in
    let one : count (bits_of k n) ≡ 1 = count_first w n lt in
    let up : w ≡ k + v = omega arith in
    let parts : bits_of w n ≡ bits_of k n ++ bits_of v m = ap (λ (x : ℕ). bits_of x n) up ∙ bits_of_add k v n in
    let others : count (bits_of w n) ≡ count (bits_of k n) + count (bits_of v m) = ap count parts ∙ count_append (bits_of k n) (bits_of v m) in
    let down : w ≡ v + k = omega arith in
    let wide : select (bits_of w m) 0 ≡ select (bits_of v m) 0 =
    ap (λ (x : ℕ). select (bits_of x m) 0) down ∙ ap (λ (l : List Bool). select l 0) (bits_of_add v k m) ∙ select_in (bits_of v m) (bits_of k (m / 2 ^ v)) 0 (omega arith) in
    ap (λ (l : List Bool). select l 1) parts ∙ select_skip (bits_of k n) (bits_of v m) 1 (omega arith)
    ∙ ap₂ (λ (x y : ℕ). x + select (bits_of v m) (1 - y)) (bits_of_length k n) one ∙ ap (λ (x : ℕ). k + x) (sym wide ∙ select_first w m)
