-- What `put` stores, in one word or in two, is the words with the bits laid over them. By the law of bits over one word,
-- at the word that takes the lower part and at the one that takes what passes it.
-- Assumes nothing.
use Prim.Native.Nat.{ℕ, suc, ◌+◌, ◌-◌, ◌*◌, ◌/◌, ◌%◌, ◌^◌, ◌≤◌, ◌<◌}
use native.Mathlib.Nat.{mod-lt, lt_of_le_of_lt}
use native.Mathlib.Numerals.{add-one}
use mathlib.Core.Path.{◌≡◌, sym, ap, ap₂, ◌∙◌, subst}
use mathlib.Core.List.{List}
use native.Mathlib.Omega.{arith}
use lib.ListN.{length, drop, get_or, set, length-set}
use lib.Pow.{pow_pos, shr_le}
use lib.Bits.{bit_and, bit_or, and_mask, and_le_l}
use Rattle.rows.specs.Rows.{over, splice}
use Rattle.rows.specs.Word.{bits_of}
use Rattle.rows.specs.Words.{bits_of_all}
use Rattle.rows.specs.Laid.{laid}
use Rattle.rows.proofs.WordLaws.{bits_of_length, bits_mod}
use Rattle.rows.proofs.FitLaws.{drop_bits}
use Rattle.rows.proofs.LaidLaws.{below_all, below_set, is_laid, store_one, store_two}
use Rattle.laid.proofs.LayLaws.{lay_low, lay_high, lay_lt}

-- the word that takes the lower part, and the word that takes what passes it
abbrev pub first : ℕ → ℕ → ℕ → ℕ → ℕ
first s m l x = bit_or (bit_and x ((2 ^ 64 - 1) - (m * 2 ^ s) % 2 ^ 64)) ((l * 2 ^ s) % 2 ^ 64)

abbrev pub second : ℕ → ℕ → ℕ → ℕ → ℕ
second k m l x = bit_or (bit_and x ((2 ^ 64 - 1) - m / 2 ^ k)) (l / 2 ^ k)

low_part : (len bits m : ℕ) → m ≡ 2 ^ len - 1 → bit_and bits m ≡ bits % 2 ^ len
low_part len bits m e = ap (bit_and bits) e ∙ and_mask bits len

first_bits_lem : (len bits m s x : ℕ) → m ≡ 2 ^ len - 1 → bits_of 64 (first s m (bit_and bits m) x) ≡ splice s (bits_of 64 x) (bits_of len bits)
first_bits_lem len bits m s x e =
    ap₂ (λ (a b : ℕ). bits_of 64 (first s a b x)) e (low_part len bits m e) ∙ lay_low 64 s len x (bits % 2 ^ len) (mod-lt bits (pow_pos len))
    ∙ ap (splice s (bits_of 64 x)) (bits_mod len bits)

second_bits : (k j bits m x : ℕ) → m ≡ 2 ^ (j + k) - 1 → j ≤ 64 → bits_of 64 (second k m (bit_and bits m) x) ≡ over (bits_of 64 x) (drop k (bits_of (j + k) bits))
second_bits k j bits m x e h =
    let n : ℕ = bits % 2 ^ (j + k) in
    let swap : j + k ≡ k + j = omega arith in
    ap₂ (λ (a b : ℕ). bits_of 64 (second k a b x)) e (low_part (j + k) bits m e) ∙ lay_high 64 k j x n h (mod-lt bits (pow_pos (j + k)))
    ∙ ap (over (bits_of 64 x)) (sym (drop_bits k j n) ∙ ap (λ (a : ℕ). drop k (bits_of a n)) (sym swap) ∙ ap (drop k) (bits_mod (j + k) bits))

pub one_word : (ns : List ℕ) (at len bits m : ℕ) → m ≡ 2 ^ len - 1 → len ≤ 64 → at % 64 + len ≤ 64 → at / 64 < length ns → ((i : ℕ) → get_or ns i 0 < 2 ^ 64)
    → set ns (at / 64) (first (at % 64) m (bit_and bits m) (get_or ns (at / 64) 0)) ≡ laid at (bits_of len bits) ns
one_word ns at len bits m e h short room known =
    let s : ℕ = at % 64 in
    let i : ℕ = at / 64 in
    let x : ℕ = get_or ns i 0 in
    let bs = bits_of len bits in
    let v : ℕ = first s m (bit_and bits m) x in
    let place : i * 64 + s ≡ at = omega arith in
    is_laid 64 at bs ns (set ns i v)
    (below_set (2 ^ 64) ns i v (lay_lt 64 x ((m * 2 ^ s) % 2 ^ 64) ((bit_and bits m * 2 ^ s) % 2 ^ 64) (mod-lt (bit_and bits m * 2 ^ s) (pow_pos 64))) (below_all (2 ^ 64) ns known))
    (length-set ns i v)
    (store_one 64 i s (64 - s) v ns bs room (omega arith) (omega (arith, bits_of_length len bits)) (first_bits_lem len bits m s x e) ∙ ap (λ (k : ℕ). splice k (bits_of_all 64 ns) bs) place)

pub two_words : (ns : List ℕ) (at len bits m : ℕ) → m ≡ 2 ^ len - 1 → len ≤ 64 → 64 < at % 64 + len → at / 64 + 1 < length ns → bits < 2 ^ 64 → ((i : ℕ) → get_or ns i 0 < 2 ^ 64)
    → set (set ns (at / 64) (first (at % 64) m (bit_and bits m) (get_or ns (at / 64) 0))) (at / 64 + 1)
    (second (64 - at % 64) m (bit_and bits m) (get_or (set ns (at / 64) (first (at % 64) m (bit_and bits m) (get_or ns (at / 64) 0))) (at / 64 + 1) 0))
    ≡ laid at (bits_of len bits) ns
two_words ns at len bits m e h long room small known =
    let s : ℕ = at % 64 in
    let i : ℕ = at / 64 in
    let k : ℕ = 64 - s in
    let j : ℕ = s + len - 64 in
    let x : ℕ = get_or ns i 0 in
    let bs = bits_of len bits in
    let l : ℕ = bit_and bits m in
    let v : ℕ = first s m l x in
    let y : ℕ = get_or (set ns i v) (suc i) 0 in
    let u : ℕ = second k m l y in
    let place : i * 64 + s ≡ at = omega arith in
    let parts : j + k ≡ len = omega arith in
    let high : bits_of 64 u ≡ over (bits_of 64 y) (drop k bs) =
    subst (λ (n : ℕ). m ≡ 2 ^ n - 1 → bits_of 64 u ≡ over (bits_of 64 y) (drop k (bits_of n bits))) parts (λ q. second_bits k j bits m y q (omega arith)) e in
    rw (add-one i)
    (is_laid 64 at bs ns (set (set ns i v) (suc i) u)
    (below_set (2 ^ 64) (set ns i v) (suc i) u (lay_lt 64 y (m / 2 ^ k) (l / 2 ^ k) (lt_of_le_of_lt (shr_le l k) (lt_of_le_of_lt (and_le_l bits m) small)))
    (below_set (2 ^ 64) ns i v (lay_lt 64 x ((m * 2 ^ s) % 2 ^ 64) ((l * 2 ^ s) % 2 ^ 64) (mod-lt (l * 2 ^ s) (pow_pos 64))) (below_all (2 ^ 64) ns known)))
    (length-set (set ns i v) (suc i) u ∙ length-set ns i v)
    (store_two 64 i s k v u ns bs (omega arith) (omega arith) (omega (arith, bits_of_length len bits)) (first_bits_lem len bits m s x e) high ∙ ap (λ (n : ℕ). splice n (bits_of_all 64 ns) bs) place))
