-- The two lines against the bytes of an input: where the input says two masks, the keys and the digits stand where they are looked for;
-- and where they do and nothing stands after them, the input says the masks of its digits. Part by part from the front.
-- Assumes nothing.
use Prim.Native.Nat.{ℕ, suc, ◌+◌, ◌≤◌, ◌<◌}
use mathlib.Core.Path.{◌≡◌, refl, sym, ap, ap₂, ◌∙◌}
use mathlib.Core.Bool.{Bool, true, false, true≢false}
use mathlib.Core.List.{List, [], ◌∷◌, ◌++◌, append_assoc}
use native.Mathlib.Omega.{arith}
use lib.ListN.{length, drop, length-drop, length-append, drop_of_length-le}
use lib.Seq.{drop-drop, drop_at}
use Rattle.rows.proofs.TableLaws.{chosen, passed_over}
use Rattle.std.specs.Prelude.{Some, None}
use Rattle.lines.specs.Text.{digits, self_key, rank_key, says, WellFormed, rows_in, self_in, rank_in, dec_well}
use Rattle.lines.specs.Parts.{begins, counted, found_in}
use Rattle.lines.proofs.FindLaws.{begins_with, begins_at, rows_front, rows_said}

pub digits_length : (rows : List Bool) → length (digits rows) ≡ length rows
digits_length [] = refl
digits_length (row ∷ rows) = ap suc (digits_length rows)

-- what stands from the digits of the rank mask on, and from the end of self's on
abbrev last_part : List Bool → List ℕ
last_part rank = digits rank ++ 10 ∷ []

abbrev second_part : List Bool → List ℕ
second_part rank = 10 ∷ rank_key ++ last_part rank

says_parts : (self rank : List Bool) → says self rank ≡ self_key ++ digits self ++ second_part rank
says_parts self rank = ap (λ (l : List ℕ). self_key ++ l) (append_assoc (digits self) (10 ∷ []) (rank_key ++ last_part rank))

module _ (input : List ℕ) (self rank : List Bool) (said : input ≡ says self rank) where
  pub first_key : begins self_key input ≡ true
  first_key = ap (begins self_key) (said ∙ says_parts self rank) ∙ begins_at self_key (digits self ++ second_part rank)

  from_self : drop 5 input ≡ digits self ++ second_part rank
  from_self = ap (drop 5) (said ∙ says_parts self rank)

  pub self_said : self_in input ≡ self
  self_said = ap rows_in from_self ∙ rows_said self (rank_key ++ last_part rank)

  from_newline : drop (5 + length self) input ≡ second_part rank
  from_newline = sym (drop-drop (length self) 5 input) ∙ ap (drop (length self)) from_self ∙ drop_at (digits self) (second_part rank) (length self) (digits_length self)

  pub second_key : begins (10 ∷ rank_key) (drop (5 + length self) input) ≡ true
  second_key = ap (begins (10 ∷ rank_key)) from_newline ∙ begins_at (10 ∷ rank_key) (last_part rank)

  from_rank : drop (11 + length self) input ≡ last_part rank
  from_rank =
      let e : 11 + length self ≡ (5 + length self) + 6 = omega arith in
      ap (λ (k : ℕ). drop k input) e ∙ sym (drop-drop 6 (5 + length self) input) ∙ ap (drop 6) from_newline

  pub rank_said : rank_in input ≡ rank
  rank_said = ap (λ (s : List Bool). rows_in (drop (11 + length s) input)) self_said ∙ ap rows_in from_rank ∙ rows_said rank []

  pub last_newline : begins (10 ∷ []) (drop (11 + length self + length rank) input) ≡ true
  last_newline = ap (begins (10 ∷ [])) (sym (drop-drop (length rank) (11 + length self) input) ∙ ap (drop (length rank)) from_rank ∙ drop_at (digits rank) (10 ∷ []) (length rank) (digits_length rank))

  pub said_length : length input ≡ 12 + length self + length rank
  said_length =
      ap length (said ∙ says_parts self rank)
      ∙ omega (arith, length-append (digits self) (second_part rank), length-append (digits rank) (10 ∷ []), digits_length self, digits_length rank)

pub begins_length : (key text : List ℕ) → begins key text ≡ true → length key ≤ length text
begins_length key text e = omega (arith, ap length (begins_with key text e), length-append key (drop (length key) text))

module _ (input : List ℕ) (one : begins self_key input ≡ true) (two : begins (10 ∷ rank_key) (drop (5 + length (self_in input)) input) ≡ true)
    (three : begins (10 ∷ []) (drop (11 + length (self_in input) + length (rank_in input)) input) ≡ true)
    (long : length input ≡ 12 + length (self_in input) + length (rank_in input)) where
  abbrev s : List Bool
  s = self_in input

  abbrev r : List Bool
  r = rank_in input

  last_is : drop (11 + length s + length r) input ≡ 10 ∷ []
  last_is =
      let rest = drop (11 + length s + length r) input in
      begins_with (10 ∷ []) rest three ∙ ap (λ (l : List ℕ). 10 ∷ l) (drop_of_length-le rest {i = 1} (omega (arith, length-drop (11 + length s + length r) input)))

  rank_is : drop (11 + length s) input ≡ last_part r
  rank_is = rows_front (drop (11 + length s) input) ∙ ap (λ (l : List ℕ). digits r ++ l) (drop-drop (length r) (11 + length s) input ∙ last_is)

  newline_is : drop (5 + length s) input ≡ second_part r
  newline_is =
      let rest = drop (5 + length s) input in
      let e : (5 + length s) + 6 ≡ 11 + length s = omega arith in
      begins_with (10 ∷ rank_key) rest two ∙ ap (λ (l : List ℕ). 10 ∷ rank_key ++ l) (drop-drop 6 (5 + length s) input ∙ ap (λ (k : ℕ). drop k input) e ∙ rank_is)

  self_is : drop 5 input ≡ digits s ++ second_part r
  self_is = rows_front (drop 5 input) ∙ ap (λ (l : List ℕ). digits s ++ l) (drop-drop (length s) 5 input ∙ newline_is)

  pub says_guess : input ≡ says s r
  says_guess = begins_with self_key input one ∙ ap (λ (l : List ℕ). self_key ++ l) self_is ∙ sym (says_parts s r)

-- ---- what is found

pub malformed : (input : List ℕ) → ¬ WellFormed input (self_in input) (rank_in input) → found_in input ≡ None
unfolding found_in
malformed input h = passed_over (dec_well input (self_in input) (rank_in input)) _ _ h

pub masks : (input : List ℕ) → WellFormed input (self_in input) (rank_in input) → found_in input ≡ Some (counted (length (self_in input)) (length (rank_in input)))
unfolding found_in
masks input w = chosen (dec_well input (self_in input) (rank_in input)) _ _ w

-- each way to be malformed, for the lengths n and m of the two masks as they are counted
pub rank_counted : (input : List ℕ) (n m : ℕ) → n ≡ length (self_in input) → m ≡ length (rows_in (drop (11 + n) input)) → m ≡ length (rank_in input)
rank_counted input n m p q = q ∙ ap (λ (k : ℕ). length (rows_in (drop (11 + k) input))) p

module _ (input : List ℕ) where
  pub no_first_key : begins self_key input ≡ false → found_in input ≡ None
  no_first_key h = malformed input (λ w. true≢false (sym (first_key input (self_in input) (rank_in input) w.said) ∙ h))

  module _ (n : ℕ) (p : n ≡ length (self_in input)) where
    pub self_long : 8192 < n → found_in input ≡ None
    self_long h = malformed input (λ w. omega (arith, w.self_short))

    pub no_second_key : begins (10 ∷ rank_key) (drop (5 + n) input) ≡ false → found_in input ≡ None
    no_second_key h = malformed input (λ w. true≢false (sym (second_key input (self_in input) (rank_in input) w.said) ∙ ap (λ (k : ℕ). begins (10 ∷ rank_key) (drop (5 + k) input)) (sym p) ∙ h))

    module _ (m : ℕ) (q : m ≡ length (rank_in input)) where
      pub rank_long : 8192 < m → found_in input ≡ None
      rank_long h = malformed input (λ w. omega (arith, w.rank_short))

      pub no_newline : begins (10 ∷ []) (drop (11 + n + m) input) ≡ false → found_in input ≡ None
      no_newline h =
          malformed input (λ w. true≢false (sym (last_newline input (self_in input) (rank_in input) w.said) ∙ ap₂ (λ (k l : ℕ). begins (10 ∷ []) (drop (11 + k + l) input)) (sym p) (sym q) ∙ h))

      pub other_length : (length input ≡ 12 + n + m → ⊥) → found_in input ≡ None
      other_length h = malformed input (λ w. h (omega (arith, said_length input (self_in input) (rank_in input) w.said)))

      -- and the one way not to be
      pub both_found : begins self_key input ≡ true → begins (10 ∷ rank_key) (drop (5 + n) input) ≡ true → begins (10 ∷ []) (drop (11 + n + m) input) ≡ true
          → length input ≡ 12 + n + m → n ≤ 8192 → m ≤ 8192 → found_in input ≡ Some (counted n m)
      both_found one two three long short_n short-m =
          masks input
          (record {
            said = says_guess input one (ap (λ (k : ℕ). begins (10 ∷ rank_key) (drop (5 + k) input)) (sym p) ∙ two)
                (ap₂ (λ (k l : ℕ). begins (10 ∷ []) (drop (11 + k + l) input)) (sym p) (sym q) ∙ three) (omega arith);
            self_short = omega arith;
            rank_short = omega arith;
          })
          ∙ ap₂ (λ (k l : ℕ). Some (counted k l)) (sym p) (sym q)
