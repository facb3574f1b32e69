-- Bytes put one after the other are the list of them laid over what was there; a number by `io`'s digits is the number in decimal;
-- bits as digits, one more each time; and what is shown of an answer. By recursion over the lists, and over the number of digits.
-- Assumes nothing.
use Prim.Native.Nat.{ℕ, zero, suc, ◌+◌, ◌-◌, ◌*◌, ◌/◌, ◌%◌, ◌^◌, ◌≤◌, ◌<◌}
use native.Mathlib.Nat.{pow-suc, mod-eq_of_lt, mod-lt, zero-lt-suc, one-le-pow, pow-le-pow_right}
use native.Mathlib.Decide.{ℕ_discrete, dec_le}
use mathlib.Core.Path.{◌≡◌, refl, sym, ap, ap₂, ◌∙◌}
use mathlib.Core.Bool.{Bool, true, false}
use mathlib.Core.List.{List, [], ◌∷◌, ◌++◌, append_assoc}
use native.Mathlib.Omega.{arith}
use lib.ListN.{length, take, drop, set, length-append}
use lib.Seq.{drop-drop}
use borrow.Author.Tests.{lt-ltb, le-ltb}
use borrow.Rule.Slice.PartMut.{post_of}
use Rattle.io.specs.Digits.{hex_digit_ascii, IsDigitCount}
use Rattle.io.specs.Digits as ioText
use Rattle.rows.specs.Rows.{splice}
use Rattle.rows.specs.Word.{word_of}
use Rattle.rows.specs.Words.{fit, bits_of_all, view}
use Rattle.rows.proofs.SpliceLaws.{splice_one, splice_append, splice_eq}
use Rattle.rows.proofs.WordLaws.{word_of_lt}
use Rattle.rows.proofs.WordsLaws.{fit_length}
use Rattle.rows.proofs.FitLaws.{view_step}
use Rattle.rules.specs.Answer.{Answer}
use Rattle.lines.specs.Text.{digit_of, digits, line, bits_key, decimal_in, decimal, lines, lines_of}
use Rattle.lines.proofs.SaidLaws.{digits_length}
use Rattle.std.specs.Prelude.{Ok, Err}
use Rattle.rows.specs.declared.Refusal.{Refusal}
use Rattle.rows.specs.Table.{number_of}
use Rattle.rows.proofs.TableLaws.{chosen}
use Rattle.rules.specs.declared.Summary.{Summary}
use Rattle.lines.proofs.AnswerLaws.{lines_refused}
use Rattle.rules.specs.Route.{route_number}

-- ---- bytes

-- one more
pub one_more : (at i y : ℕ) (out done : List ℕ) → length done ≡ i → set (splice at out done) (at + i) y ≡ splice at out (done ++ y ∷ [])
one_more at i y out done e = sym (splice_one (at + i) (splice at out done) y) ∙ ap (λ (k : ℕ). splice (at + k) (splice at out done) (y ∷ [])) (sym e) ∙ splice_append at out done (y ∷ [])

-- bytes copied to the part from `at` on that is as long as they are
pub put_part : (at : ℕ) (out bytes copied : List ℕ) → at + length bytes ≤ length out → copied ≡ bytes
    → take at out ++ (copied ++ post_of at (at + length bytes - at) out) ≡ splice at out bytes
put_part at out bytes copied h e =
    let n : at + length bytes - at ≡ length bytes = omega arith in
    rw (e, n, drop-drop) (sym (append_assoc (take at out) bytes (drop (at + length bytes) out)) ∙ sym (splice_eq at out bytes h))

-- parts one after the other: the next part stands where the last one ended
pub put_after : (at next : ℕ) (out xs ys : List ℕ) → next ≡ at + length xs → splice next (splice at out xs) ys ≡ splice at out (xs ++ ys)
put_after at next out xs ys e = ap (λ (k : ℕ). splice k (splice at out xs) ys) e ∙ splice_append at out xs ys

-- ---- a number

low_glyph : (d : ℕ) → d < 10 → hex_digit_ascii d ≡ 48 + d
low_glyph d h = rw (lt-ltb d 10 h)

-- what it is for n to have more than one digit
more_digits : (j n : ℕ) → IsDigitCount 10 1 n (suc (suc j)) → 10 ^ j * 10 ≤ n
more_digits j n f =
    let e : suc (suc j) - 1 ≡ suc j = omega arith in
    rw (e, pow-suc) at (f.2 (omega arith))

fewer : (j n : ℕ) → IsDigitCount 10 1 n (suc (suc j)) → IsDigitCount 10 1 (n / 10) (suc j)
fewer j n f = (
  omega arith,
  omega (arith, rw pow-suc at f.1),
  λ h. let e : suc j - 1 ≡ j = omega arith in rw e (omega (arith, more_digits j n f)),
)

one_place : (n : ℕ) → n < 10 → ◌≡◌ {A = List ℕ} (hex_digit_ascii (n % 10) ∷ []) ((48 + n) ∷ [])
one_place n h = ap (λ (d : ℕ). d ∷ []) (low_glyph (n % 10) (mod-lt n (zero-lt-suc 9)) ∙ ap (λ (d : ℕ). 48 + d) (mod-eq_of_lt h))

-- the fewest digits that hold the number are the number in decimal
digits_are : (k most n : ℕ) → n < 10 ^ suc most → IsDigitCount 10 1 n (suc k) → ioText.last_digits 10 (suc k) n ≡ decimal_in most n
unfolding decimal_in
digits_are zero zero n m f = one_place n f.1
digits_are (suc j) zero n m f = absurd (omega (arith, more_digits j n f, one-le-pow j 10 (zero-lt-suc 9)))
digits_are zero (suc most) n m f = rw (lt-ltb n 10 f.1) (one_place n f.1)
digits_are (suc j) (suc most) n m f =
    rw (le-ltb n 10 (omega (arith, more_digits j n f, one-le-pow j 10 (zero-lt-suc 9))))
    (ap₂ (λ (l : List ℕ) (d : ℕ). l ++ d ∷ [])
    (digits_are j most (n / 10) (omega (arith, rw (pow-suc 10 (suc most)) at m)) (fewer j n f))
    (low_glyph (n % 10) (mod-lt n (zero-lt-suc 9))))

-- n digits are enough for n
enough : (n : ℕ) → n < 10 ^ suc n
enough zero = omega arith
enough (suc n) = omega (arith, enough n, pow-suc 10 (suc n))

pub decimal_is : (k n : ℕ) → IsDigitCount 10 1 n k → ioText.last_digits 10 k n ≡ decimal n
unfolding decimal
decimal_is zero n f = absurd (omega (arith, f.0))
decimal_is (suc k) n f = digits_are k n n (enough n) f

-- a number of 64 bits has at most 20 digits
pub few_places : (n k : ℕ) → n < 2 ^ 64 → IsDigitCount 10 1 n k → k ≤ 20
few_places n k h f = go (dec_le k 20)
  where
    go : Dec (k ≤ 20) → k ≤ 20
    go (yes le) = le
    go (no gt) = absurd (omega (arith, f.2 (omega arith), pow-le-pow_right {n = 10} (zero-lt-suc 9) {i = 20} {j = k - 1} (omega arith)))

-- ---- bits as digits

pub digits_append : (xs ys : List Bool) → digits (xs ++ ys) ≡ digits xs ++ digits ys
digits_append [] ys = refl
digits_append (x ∷ xs) ys = ap (λ (l : List ℕ). digit_of x ∷ l) (digits_append xs ys)

pub bits_line : (rows : List Bool) → length (line bits_key (digits rows)) ≡ 6 + length rows
bits_line rows = length-append (bits_key ++ digits rows) (10 ∷ []) ∙ omega (arith, length-append bits_key (digits rows), digits_length rows)

one_digit : (bits : List Bool) → digits (fit 1 bits) ≡ (48 + word_of (fit 1 bits)) ∷ []
unfolding word_of
one_digit [] = refl
one_digit (false ∷ bits) = refl
one_digit (true ∷ bits) = refl

pub bit_small : (bits : List Bool) → word_of (fit 1 bits) < 2
bit_small bits = rw (fit_length 1 bits) at (word_of_lt (fit 1 bits))

pub digit_next : (i bit : ℕ) (ws : List ℕ) → i + 1 ≤ length ws * 64 → bit ≡ word_of (fit 1 (drop (0 + i) (bits_of_all 64 ws))) → digits (view 0 (i + 1) ws) ≡ digits (view 0 i ws) ++ (48 + bit) ∷ []
digit_next i bit ws h e =
    let bits = fit 1 (drop (0 + i) (bits_of_all 64 ws)) in
    ap digits (view_step 0 i 1 ws (omega arith)) ∙ digits_append (view 0 i ws) bits
    ∙ ap (λ (l : List ℕ). digits (view 0 i ws) ++ l) (one_digit (drop (0 + i) (bits_of_all 64 ws)) ∙ ap (λ (b : ℕ). (48 + b) ∷ []) (sym e))

-- ---- an answer's lines: the rows of what is accepted, and none with a refusal

pub accepted_lines : (a : Answer) (s : Summary) (rows : List Bool) → a ≡ Ok s → lines 0 (route_number s.route) s.count rows ≡ lines_of a rows
unfolding lines_of
accepted_lines a s rows e = rw e (ap (lines 0 (route_number s.route) s.count) (sym (chosen (ℕ_discrete 0 0) rows [] refl)))

pub refused_lines : (a : Answer) (r : Refusal) (rows : List Bool) → a ≡ Err r → lines (number_of r.reason) 0 0 [] ≡ lines_of a rows
refused_lines a r rows e = rw e (sym (lines_refused r.reason r.operand rows))
