-- The same bit laid in whole words, which a part of the words is filled with; the same bit laid again, over its end; and the low bits of a word whose
-- bits are all the same. One law for either bit.
use Prim.Native.Nat.{ℕ, zero, suc, ◌+◌, ◌-◌, ◌*◌, ◌^◌, ◌≤◌, ◌<◌}
use native.Mathlib.Nat.{add_comm, zero-mul, suc-mul, le_of_suc-le-suc}
use mathlib.Core.Path.{◌≡◌, refl, sym, ap, ap₂, ◌∙◌}
use mathlib.Core.Bool.{Bool}
use mathlib.Core.List.{List, ◌∷◌, ◌++◌, append_assoc}
use native.Mathlib.Omega.{arith}
use lib.ListN.{length, take, drop, replicate, length-take, length-drop, length-replicate, replicate-append-replicate}
use lib.Seq.{drop-drop, take_all}
use borrow.Rule.Slice.PartMut.{mid_of, put_mid}
use Rattle.rows.specs.Rows.{splice}
use Rattle.rows.specs.Word.{bits_of}
use Rattle.rows.specs.Words.{Below, bits_of_all}
use Rattle.rows.specs.Laid.{laid_in, laid}
use Rattle.rows.proofs.FitLaws.{take_bits}
use Rattle.rows.proofs.WordsLaws.{bits_of_all_length}
use Rattle.rows.proofs.SpliceLaws.{splice_eq}
use Rattle.rows.proofs.LaidLaws.{laid_same, laid_words}
use Rattle.rows.proofs.MarkLaws.{laid_within}

take_same : (n w : ℕ) (b : Bool) → n ≤ w → take n (replicate w b) ≡ replicate n b
take_same zero w b h = refl
take_same (suc n) zero b h = absurd (omega arith)
take_same (suc n) (suc w) b h = ap (λ (l : List Bool). b ∷ l) (take_same n w b (le_of_suc-le-suc h))

-- the low bits of a word of one bit
pub low_same : (n w x : ℕ) (b : Bool) → n ≤ w → bits_of w x ≡ replicate w b → bits_of n x ≡ replicate n b
low_same n w x b h e = sym (take_bits n w x h) ∙ ap (take n) e ∙ take_same n w b h

-- a part put back is written over the words from where it begins on
pub put_splice : (at n : ℕ) (ns vs : List ℕ) → length vs ≡ n → at + n ≤ length ns → put_mid at n ns vs ≡ splice at ns vs
put_splice at n ns vs long room =
    let rest : drop n (drop at ns) ≡ drop (at + length vs) ns = drop-drop n at ns ∙ ap (λ (k : ℕ). drop (at + k) ns) (sym long) in
    ap (λ (l : List ℕ). take at ns ++ (vs ++ l)) rest ∙ sym (splice_eq at ns vs (omega arith) ∙ append_assoc (take at ns) vs (drop (at + length vs) ns))

same_bits : (w n v : ℕ) (b : Bool) → bits_of w v ≡ replicate w b → bits_of_all w (replicate n v) ≡ replicate (n * w) b
same_bits w zero v b e = rw zero-mul refl
same_bits w (suc n) v b e =
    ap₂ (λ (k l : List Bool). k ++ l) e (same_bits w n v b e) ∙ replicate-append-replicate w (n * w) b
    ∙ ap (λ (k : ℕ). replicate k b) (add_comm w (n * w) ∙ sym (suc-mul n w))

below_same : (m n v : ℕ) → v < m → Below m (replicate n v)
below_same m zero v h = tt
below_same m (suc n) v h = (h, below_same m n v h)

-- the n words from word `first` on filled with a word v of one bit
pub filled : (first n v : ℕ) (b : Bool) (out vs : List ℕ) → v < 2 ^ 64 → bits_of 64 v ≡ replicate 64 b → first + n ≤ length out → Below (2 ^ 64) out
    → vs ≡ replicate (length (mid_of first n out)) v → put_mid first n out vs ≡ laid (first * 64) (replicate (n * 64) b) out
filled first n v b out vs small e room below is =
    let long : length (mid_of first n out) ≡ n = omega (arith, length-take n (drop first out), length-drop first out) in
    let same = replicate n v in
    let count : length same ≡ n = length-replicate n v in
    let bits = bits_of_all 64 same in
    ap (put_mid first n out) (is ∙ ap (λ (k : ℕ). replicate k v) long) ∙ put_splice first n out same count room
    ∙ ap (splice first out) (sym (take_all n same (omega arith)))
    ∙ laid_words 64 first n out same below (below_same (2 ^ 64) n v small)
    ∙ ap (λ (l : List Bool). laid (first * 64) l out) (take_all (n * 64) bits (omega (arith, bits_of_all_length 64 same)) ∙ same_bits 64 n v b e)

-- the same bit over the same bits changes none
splice_same : (at n k : ℕ) (b : Bool) → splice at (replicate n b) (replicate k b) ≡ replicate n b
splice_same zero zero k b = refl
splice_same zero (suc n) zero b = refl
splice_same zero (suc n) (suc k) b = ap (λ (l : List Bool). b ∷ l) (splice_same zero n k b)
splice_same (suc at) zero k b = refl
splice_same (suc at) (suc n) k b = ap (λ (l : List Bool). b ∷ l) (splice_same at n k b)

-- the same bit n times, and then m times from within those, or from their end, to their end or past it
pub laid_again : (w at next j n m : ℕ) (b : Bool) (ns : List ℕ) → next ≡ at + j → j ≤ n → n ≤ j + m
    → laid_in w next (replicate m b) (laid_in w at (replicate n b) ns) ≡ laid_in w at (replicate (j + m) b) ns
laid_again w at next j n m b ns e from to =
    let once : List ℕ = laid_in w at (replicate n b) ns in
    let again : ℕ = n - j in
    let past : ℕ = j + m - n in
    let parts : m ≡ again + past = omega arith in
    let all : n + past ≡ j + m = omega arith in
    let within : j + length (replicate again b) ≤ length (replicate n b) = omega (arith, length-replicate again b, length-replicate n b) in
    let same : laid_in w next (replicate again b) once ≡ once =
    ap (λ (x : ℕ). laid_in w x (replicate again b) once) e ∙ laid_within w at j (replicate n b) (replicate again b) ns within
    ∙ ap (λ (l : List Bool). laid_in w at l ns) (splice_same j n again b) in
    ap (λ (x : ℕ). laid_in w next (replicate x b) once) parts ∙ sym (laid_same w next (at + n) again past b once (omega arith))
    ∙ ap (laid_in w (at + n) (replicate past b)) same ∙ laid_same w at (at + n) n past b ns refl
    ∙ ap (λ (x : ℕ). laid_in w at (replicate x b) ns) all
