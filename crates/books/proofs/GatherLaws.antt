-- A list of ranks, gathered as words: which entries count, and the word that they make. By recursion over the entries and
-- over the bits of a word.
-- Assumes nothing.
use Prim.Native.Nat.{ℕ, zero, suc, ◌+◌, ◌-◌, ◌*◌, ◌^◌, ◌≤◌, ◌<◌, max}
use native.Mathlib.Nat.{add-zero, suc-add, add-suc, pow-suc}
use native.Mathlib.Decide.{ℕ_discrete, dec_lt}
use mathlib.Core.Path.{◌≡◌, refl, sym, ap, ap₂, ◌∙◌, subst}
use mathlib.Core.Logic.{◌≢◌}
use mathlib.Core.Bool.{Bool, true, false, ◌||◌, or-false}
use mathlib.Core.List.{List, [], ◌∷◌, ◌++◌}
use native.Mathlib.Omega.{arith}
use lib.ListN.{length, take, drop, get_or, take-append-drop, length-take}
use lib.Seq.{take-suc, drop-cons, get_or-take}
use lib.Arith.{digits_div, digits_mod}
use lib.Bits.{bit_or, or_step}
use lib.Dec.{eqb}
use Rattle.rows.specs.Word.{digit, word_of}
use Rattle.rows.specs.Words.{Below}
use Rattle.rows.specs.Lists.{tab, member, Ascending}
use Rattle.books.specs.Gathers.{Climbs, Parted}
use Rattle.rows.proofs.WordLaws.{digit_lt}
use Rattle.rows.proofs.ListLaws.{eqb_same, eqb_other}
use Rattle.rows.proofs.MarkLaws.{below_at}

-- ---- which entries count

pub member_append : (i : ℕ) (xs ys : List ℕ) → member i (xs ++ ys) ≡ (member i xs || member i ys)
member_append i [] ys = refl
member_append i (x ∷ xs) ys = ap (λ (b : Bool). eqb i x || b) (member_append i xs ys) ∙ sym (or_assoc (eqb i x) (member i xs) (member i ys))
  where
    or_assoc : (a b c : Bool) → ((a || b) || c) ≡ (a || (b || c))
    or_assoc true b c = refl
    or_assoc false b c = refl

-- entries below m are none of those from m on
pub member_below : (m i : ℕ) (xs : List ℕ) → Below m xs → m ≤ i → member i xs ≡ false
member_below m i [] b h = refl
member_below m i (x ∷ xs) b h = let ne : i ≢ x = omega arith in rw (eqb_other i x ne, member_below m i xs b.1 h)

pub member_climbs : (b i : ℕ) (xs : List ℕ) → Climbs b xs → i < b → member i xs ≡ false
member_climbs b i [] c h = refl
member_climbs b i (x ∷ xs) c h = let ne : i ≢ x = omega arith in rw (eqb_other i x ne, member_climbs (suc x) i xs c.1 (omega arith))

pub climbs_from : (a b : ℕ) (xs : List ℕ) → a ≤ b → Climbs b xs → Climbs a xs
climbs_from a b [] h c = tt
climbs_from a b (x ∷ xs) h c = (omega arith, c.1)

pub below_more : (m k : ℕ) (xs : List ℕ) → m ≤ k → Below m xs → Below k xs
below_more m k [] h b = tt
below_more m k (x ∷ xs) h b = (omega arith, below_more m k xs h b.1)

pub below_snoc : (m x : ℕ) (xs : List ℕ) → Below m xs → x < m → Below m (xs ++ (x ∷ []))
below_snoc m x [] b h = (h, tt)
below_snoc m x (y ∷ xs) b h = (b.0, below_snoc m x xs b.1 h)

-- ---- tab

pub tab_same : (b n : ℕ) (f g : ℕ → Bool) → ((i : ℕ) → b ≤ i → i < b + n → f i ≡ g i) → tab b n f ≡ tab b n g
tab_same b zero f g h = refl
tab_same b (suc n) f g h = ap₂ (λ (x : Bool) (l : List Bool). x ∷ l) (h b (omega arith) (omega arith)) (tab_same (suc b) n f g (λ i p q. h i (omega arith) (omega arith)))

pub tab_part : (b n r c : ℕ) (f : ℕ → Bool) → r + c ≤ n → take c (drop r (tab b n f)) ≡ tab (b + r) c f
tab_part b n zero zero f h = refl
tab_part b zero zero (suc c) f h = absurd (omega arith)
tab_part b (suc n) zero (suc c) f h =
    rw (add-zero b) (ap (λ (l : List Bool). f b ∷ l) (tab_part (suc b) n zero c f (omega arith) ∙ ap (λ (k : ℕ). tab k c f) (add-zero (suc b))))
tab_part b zero (suc r) c f h = absurd (omega arith)
tab_part b (suc n) (suc r) c f h = tab_part (suc b) n r c f (omega arith) ∙ ap (λ (k : ℕ). tab k c f) (suc-add b r ∙ sym (add-suc b r))

-- ---- its word

pub word_none : (b n : ℕ) (f : ℕ → Bool) → ((i : ℕ) → b ≤ i → i < b + n → f i ≡ false) → word_of (tab b n f) ≡ 0
unfolding word_of
word_none b zero f h = refl
word_none b (suc n) f h = ap₂ (λ (x : ℕ) (y : Bool). x * 2 + digit y) (word_none (suc b) n f (λ i p q. h i (omega arith) (omega arith))) (h b (omega arith) (omega arith))

or_digits : (a b : ℕ) (x y : Bool) → bit_or (a * 2 + digit x) (b * 2 + digit y) ≡ bit_or a b * 2 + digit (x || y)
or_digits a b x y =
    or_step (a * 2 + digit x) (b * 2 + digit y)
    ∙ ap₂ (λ (p q : ℕ). p * 2 + q)
    (ap₂ bit_or (digits_div a (digit_lt x)) (digits_div b (digit_lt y)))
    (ap₂ max (digits_mod a (digit_lt x)) (digits_mod b (digit_lt y)) ∙ larger x y)
  where
    larger : (x y : Bool) → max (digit x) (digit y) ≡ digit (x || y)
    larger false false = refl
    larger false true = refl
    larger true false = refl
    larger true true = refl

pub word_or : (b n : ℕ) (f g : ℕ → Bool) → word_of (tab b n (λ i. f i || g i)) ≡ bit_or (word_of (tab b n f)) (word_of (tab b n g))
unfolding word_of
word_or b zero f g = refl
word_or b (suc n) f g = ap (λ (x : ℕ). x * 2 + digit (f b || g b)) (word_or (suc b) n f g) ∙ sym (or_digits (word_of (tab (suc b) n f)) (word_of (tab (suc b) n g)) (f b) (g b))

pub word_one : (b n e : ℕ) → b ≤ e → e < b + n → word_of (tab b n (λ i. eqb i e)) ≡ 2 ^ (e - b)
unfolding word_of
word_one b zero e p q = absurd (omega arith)
word_one b (suc n) e p q = go (ℕ_discrete b e) (word_one (suc b) n e)
  where
    go : Dec (b ≡ e) → (suc b ≤ e → e < suc b + n → word_of (tab (suc b) n (λ i. eqb i e)) ≡ 2 ^ (e - suc b)) → word_of (tab b (suc n) (λ i. eqb i e)) ≡ 2 ^ (e - b)
    go (yes h) ih =
        let z : e - b ≡ 0 = omega arith in
        ap₂ (λ (x : ℕ) (y : Bool). x * 2 + digit y)
        (word_none (suc b) n (λ i. eqb i e) (λ i lo hi. (let ne : i ≢ e = omega arith in eqb_other i e ne)))
        (ap (λ (x : ℕ). eqb x e) h ∙ eqb_same e)
        ∙ sym (ap (λ (x : ℕ). 2 ^ x) z)
    go (no h) ih =
        let ne : b ≢ e = h in
        let z : e - b ≡ suc (e - suc b) = omega arith in
        ap₂ (λ (x : ℕ) (y : Bool). x * 2 + digit y) (ih (omega arith) (omega arith)) (eqb_other b e ne) ∙ add-zero (2 ^ (e - suc b) * 2)
        ∙ sym (ap (λ (x : ℕ). 2 ^ x) z ∙ pow-suc 2 (e - suc b))

-- ---- the loop: the first j entries are gathered

pub gather_start : (rank c j : ℕ) (rows : List ℕ) → Below rank (take j rows) → 0 ≡ word_of (tab rank c (λ i. member i (take j rows)))
gather_start rank c j rows b = sym (word_none rank c (λ i. member i (take j rows)) (λ i p q. member_below rank i (take j rows) b p))

pub gather_turn : (rank c j e : ℕ) (rows : List ℕ) → j < length rows → e ≡ get_or rows j 0 → rank ≤ e → e < rank + c
    → bit_or (word_of (tab rank c (λ i. member i (take j rows)))) (2 ^ (e - rank)) ≡ word_of (tab rank c (λ i. member i (take (suc j) rows)))
gather_turn rank c j e rows h is lo hi =
    ap (bit_or (word_of (tab rank c (λ i. member i (take j rows))))) (sym (word_one rank c e lo hi))
    ∙ sym (word_or rank c (λ i. member i (take j rows)) (λ i. eqb i e))
    ∙ ap word_of (tab_same rank c (λ i. member i (take j rows) || eqb i e) (λ i. member i (take (suc j) rows)) (λ i p q.
    sym (ap (member i) (take-suc rows j 0 h) ∙ member_append i (take j rows) (get_or rows j 0 ∷ []) ∙ ap (λ (x : Bool). member i (take j rows) || x) (or-false (eqb i (get_or rows j 0)) ∙ ap (eqb i) (sym is)))))

pub gather_end : (rank c j : ℕ) (rows : List ℕ) → Climbs (rank + c) (drop j rows) → word_of (tab rank c (λ i. member i (take j rows))) ≡ word_of (tab rank c (λ i. member i rows))
gather_end rank c j rows k =
    ap word_of (tab_same rank c (λ i. member i (take j rows)) (λ i. member i rows) (λ i p q.
    sym (ap (member i) (sym (take-append-drop j rows)) ∙ member_append i (take j rows) (drop j rows) ∙ ap (λ (x : Bool). member i (take j rows) || x) (member_climbs (rank + c) i (drop j rows) k q) ∙ or-false (member i (take j rows)))))

-- the entry at j, and those after it
pub climbs_at : (b j : ℕ) (rows : List ℕ) → j < length rows → Climbs b (drop j rows) → (b ≤ get_or rows j 0) × Climbs (suc (get_or rows j 0)) (drop (suc j) rows)
climbs_at b j rows h k = subst (λ (l : List ℕ). Climbs b l) (drop-cons rows j 0 h) k

pub climbs_past : (b m j : ℕ) (rows : List ℕ) → j < length rows → m ≤ get_or rows j 0 → Climbs b (drop j rows) → Climbs m (drop j rows)
climbs_past b m j rows h le k = subst (λ (l : List ℕ). Climbs m l) (sym (drop-cons rows j 0 h)) (le, (climbs_at b j rows h k).1)

pub below_next : (m j : ℕ) (rows : List ℕ) → j < length rows → Below m (take j rows) → get_or rows j 0 < m → Below m (take (suc j) rows)
below_next m j rows h b lt = subst (λ (l : List ℕ). Below m l) (sym (take-suc rows j 0 h)) (below_snoc m (get_or rows j 0) (take j rows) b lt)

-- an ascending list climbs
pub ascending_climbs : (b e : ℕ) (rs : List ℕ) → Ascending b e rs → Climbs b rs
ascending_climbs b e [] a = tt
ascending_climbs b e (r ∷ rs) a = (a.0, ascending_climbs (suc r) e rs a.2)

-- ---- a list is parted by a rank in one place

pub parted_once : (rank m n : ℕ) (rows : List ℕ) → Parted rank m rows → Parted rank n rows → m ≡ n
parted_once rank m n rows p q = go (dec_lt m n) (dec_lt n m)
  where
    -- an entry between the two would be below the rank and not below it
    apart : (j k : ℕ) → Parted rank j rows → Parted rank k rows → j < k → ⊥
    apart j k a b h =
        let within : j < length rows = omega (arith, b.within) in
        let low : get_or (take k rows) j 0 < rank = below_at rank (take k rows) j b.before (omega (arith, length-take k rows, b.within)) in
        omega (arith, low, get_or-take k rows j 0 h, (climbs_at rank j rows within a.after).0)

    go : Dec (m < n) → Dec (n < m) → m ≡ n
    go (yes h) d = absurd (apart m n p q h)
    go (no h) (yes k) = absurd (apart n m q p k)
    go (no h) (no k) = omega arith
