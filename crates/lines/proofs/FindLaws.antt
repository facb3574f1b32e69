-- Keys and digits at the front of a text: one byte more of each, and what they say of the text. By recursion over the text.
-- Assumes nothing.
use Prim.Native.Nat.{ℕ, zero, suc, ◌≤◌, ◌<◌}
use native.Mathlib.Nat.{le_of_suc-le-suc}
use mathlib.Core.Path.{◌≡◌, refl, ap₂}
use mathlib.Core.Bool.{Bool, true, false, ◌||◌, ◌&&◌, cond, and-false}
use mathlib.Core.List.{List, [], ◌∷◌, ◌++◌}
use native.Mathlib.Omega.{arith}
use lib.Dec.{eqb}
use lib.ListN.{length, drop, get_or}
use lib.Seq.{drop-cons}
use borrow.Author.Tests.{eqb-true, eq-eqb}
use Rattle.lines.specs.Text.{digit_of, digits, is_digit, rows_in}
use Rattle.lines.specs.Parts.{begins}

-- ---- keys

pub begins_short : (key text : List ℕ) → length text < length key → begins key text ≡ false
begins_short [] text h = absurd (omega arith)
begins_short (k ∷ key) [] h = refl
begins_short (k ∷ key) (t ∷ text) h = rw (begins_short key text (le_of_suc-le-suc h)) (and-false (eqb t k))

pub begins_next : (key text : List ℕ) (i j : ℕ) → i < length key → j < length text
    → begins (drop i key) (drop j text) ≡ (eqb (get_or text j 0) (get_or key i 0) && begins (drop (suc i) key) (drop (suc j) text))
begins_next key text i j h g = rw (drop-cons key i 0 h, drop-cons text j 0 g)

pub begins_with : (key text : List ℕ) → begins key text ≡ true → text ≡ key ++ drop (length key) text
begins_with [] text e = refl
begins_with (k ∷ key) [] e = let y : ◌≡◌ {A = ℕ} 0 1 = cc in absurd (omega arith)
begins_with (k ∷ key) (t ∷ text) e = go (begins_with key text) (eqb t k) refl e
  where
    go : (begins key text ≡ true → text ≡ key ++ drop (length key) text) → (b : Bool) → eqb t k ≡ b → (b && begins key text) ≡ true → ◌≡◌ {A = List ℕ} (t ∷ text) (k ∷ key ++ drop (length key) text)
    go ih true p q = ap₂ (λ (x : ℕ) (l : List ℕ). x ∷ l) (eqb-true t k p) (ih q)
    go ih false p q = let y : ◌≡◌ {A = ℕ} 0 1 = cc in absurd (omega arith)

pub begins_at : (key rest : List ℕ) → begins key (key ++ rest) ≡ true
begins_at [] rest = refl
begins_at (k ∷ key) rest = rw (eq-eqb k k refl) (begins_at key rest)

-- ---- digits

pub rows_next : (text : List ℕ) (j : ℕ) → j < length text → is_digit (get_or text j 0) ≡ true → rows_in (drop j text) ≡ eqb (get_or text j 0) 49 ∷ rows_in (drop (suc j) text)
unfolding rows_in
rows_next text j h d = rw (drop-cons text j 0 h, d)

pub rows_end : (text : List ℕ) (j : ℕ) → j < length text → is_digit (get_or text j 0) ≡ false → rows_in (drop j text) ≡ []
unfolding rows_in
rows_end text j h d = rw (drop-cons text j 0 h, d)

-- a digit by its row
pub digit_byte : (byte : ℕ) → is_digit byte ≡ true → byte ≡ digit_of (eqb byte 49)
digit_byte byte e = go (eqb byte 49) refl (eqb byte 48) refl e
  where
    go : (b : Bool) → eqb byte 49 ≡ b → (a : Bool) → eqb byte 48 ≡ a → (a || b) ≡ true → byte ≡ digit_of b
    go true p a q e = eqb-true byte 49 p
    go false p true q e = eqb-true byte 48 q
    go false p false q e = let y : ◌≡◌ {A = ℕ} 0 1 = cc in absurd (omega arith)

pub digit_row : (row : Bool) → (is_digit (digit_of row) ≡ true) × (eqb (digit_of row) 49 ≡ row)
digit_row true = (refl, refl)
digit_row false = (refl, refl)

-- the text is its rows as digits, and then the rest
pub rows_front : (text : List ℕ) → text ≡ digits (rows_in text) ++ drop (length (rows_in text)) text
unfolding rows_in
rows_front [] = refl
rows_front (byte ∷ text) = go (rows_front text) (is_digit byte) refl
  where
    go : text ≡ digits (rows_in text) ++ drop (length (rows_in text)) text → (d : Bool) → is_digit byte ≡ d
        → ◌≡◌ {A = List ℕ} (byte ∷ text) (digits (cond d (eqb byte 49 ∷ rows_in text) []) ++ drop (length (cond d (eqb byte 49 ∷ rows_in text) [])) (byte ∷ text))
    go ih true e = ap₂ (λ (x : ℕ) (l : List ℕ). x ∷ l) (digit_byte byte e) ih
    go ih false e = refl

-- digits up to a newline are read back
pub rows_said : (rows : List Bool) (rest : List ℕ) → rows_in (digits rows ++ 10 ∷ rest) ≡ rows
unfolding rows_in
rows_said [] rest = refl
rows_said (row ∷ rows) rest = rw ((digit_row row).0, (digit_row row).1, rows_said rows rest)

pub rows_within : (text : List ℕ) → length (rows_in text) ≤ length text
unfolding rows_in
rows_within [] = omega arith
rows_within (byte ∷ text) = go (rows_within text) (is_digit byte)
  where
    go : length (rows_in text) ≤ length text → (d : Bool) → length (cond d (eqb byte 49 ∷ rows_in text) []) ≤ suc (length text)
    go ih true = omega arith
    go ih false = omega arith

-- byte j is the digit of row j
pub rows_at : (text : List ℕ) (j : ℕ) → j < length (rows_in text) → get_or text j 0 ≡ digit_of (get_or (rows_in text) j false)
unfolding rows_in
rows_at [] j h = absurd (omega arith)
rows_at (byte ∷ text) j h = go (rows_at text) (is_digit byte) refl j h
  where
    go : ((j : ℕ) → j < length (rows_in text) → get_or text j 0 ≡ digit_of (get_or (rows_in text) j false)) → (d : Bool) → is_digit byte ≡ d → (j : ℕ) → j < length (cond d (eqb byte 49 ∷ rows_in text) []) → get_or (byte ∷ text) j 0 ≡ digit_of (get_or (cond d (eqb byte 49 ∷ rows_in text) []) j false)
    go ih true e zero h = digit_byte byte e
    go ih true e (suc j) h = ih j (le_of_suc-le-suc h)
    go ih false e j h = absurd (omega arith)
