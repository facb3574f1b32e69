-- What the code tells is what the definition tells: the rows shown are the composition's, a mask's words say the mask, and what is
-- found of an input decides its text. By the laws of composition and of whole words, and by the decision itself.
-- Assumes nothing.
use Prim.Native.Nat.{ℕ, zero, suc, ◌+◌, ◌≤◌, ◌<◌}
use native.Mathlib.Nat.{zero-add, le_of_suc-le-suc}
use native.Mathlib.Decide.{ℕ_discrete, dec_le}
use mathlib.Core.Path.{◌≡◌, refl, sym, ap, ap₂, ◌∙◌}
use mathlib.Core.Bool.{Bool}
use mathlib.Core.List.{List, [], ◌∷◌, ◌++◌}
use mathlib.Core.Option.{Option, none, some}
use native.Mathlib.Omega.{arith}
use lib.ListN.{length, take, drop, replicate}
use lib.Seq.{take_at}
use Rattle.std.specs.Prelude.{Ok, Some, None}
use Rattle.std.proofs.lemmas.Option.{none-some, same_Some}
use Rattle.rows.specs.Rows.{count, compose, splice}
use Rattle.rows.specs.Words.{bits_of_all, view, words_of}
use Rattle.rows.specs.Laid.{words_for, written}
use Rattle.rows.specs.Table.{choose, first, number_told}
use Rattle.rows.proofs.LaidLaws.{words_of_length}
use Rattle.rows.proofs.SpliceLaws.{splice_eq}
use Rattle.rows.proofs.WrittenLaws.{written_rows}
use Rattle.rows.proofs.TableLaws.{chosen, passed_over}
use Rattle.rules.specs.Answer.{Answer, summed, summary_told}
use Rattle.rules.specs.declared.Form.TheVariants.{Words}
use Rattle.rules.specs.Operand.{Operand, lent, in_words}
use Rattle.rules.specs.Route.{published, route_by}
use Rattle.rules.specs.Compose.{compose_checks, result, composed, composed_out}
use Rattle.rules.proofs.OperandLaws.{in_words_rows}
use Rattle.rules.proofs.AnswerLaws.{by_fine}
use Rattle.rules.proofs.ComposeLaws.{result_length}
use Rattle.rules.proofs.Compositions.{compose_fine, composed_accepts}
use Rattle.lines.specs.declared.Masks.{Masks}
use Rattle.lines.specs.Text.{WellFormed, rows_in, self_in, rank_in, dec_well, parsed, lines, lines_of, answer_of, result_of, answer_for, text_of, with_text, shorter, written_for, text_out}
use Rattle.lines.specs.Parts.{first_bits, counted, found_in, answer_words, told_words}
use Rattle.rules.specs.Route.{route_number}
use Rattle.rules.specs.Answer.{no_route}

-- ---- the composition of words

-- words ignore the row numbers that are lent
module _ (s c r d : ℕ) (sws rws es fs out : List ℕ) where
  pub rows_ignored : composed published (lent (Words 0 s c) sws es) (lent (Words 0 r d) rws fs) out ≡ composed published (lent (Words 0 s c) sws []) (lent (Words 0 r d) rws []) out
  unfolding composed route_by
  rows_ignored = refl

  pub rows_ignored_out : composed_out (lent (Words 0 s c) sws es) (lent (Words 0 r d) rws fs) out ≡ composed_out (lent (Words 0 s c) sws []) (lent (Words 0 r d) rws []) out
  unfolding composed_out
  rows_ignored_out = refl

module _ (sws : List ℕ) (s : ℕ) (rws : List ℕ) (r : ℕ) (out : List ℕ) where
  abbrev one : Operand
  one = first_bits sws s

  abbrev two : Operand
  two = first_bits rws r

  abbrev after : List ℕ
  after = composed_out one two out

  written_out : first (compose_checks one two (length out)) ≡ Ok tt → written s (result one two) out ≡ after
  unfolding composed_out
  written_out e = (by_fine (first (compose_checks one two (length out))) (summed (result one two) no_route) (written s (result one two) out) out e).1

  shown_rows : (d : Dec (number_told (composed published one two out) ≡ 0)) → choose d (view 0 s after) [] ≡ choose d (compose (view 0 s sws) (view 0 r rws)) []
  shown_rows (no h) = refl
  shown_rows (yes e) =
      let t = (composed_accepts one two published out).0 e in
      ap (λ (ws : List ℕ). take s (bits_of_all 64 ws)) (sym (written_out ((compose_fine one two (length out)).1 t))) ∙ written_rows s (result one two) out (result_length one two t.0)

  pub words_answered : (a : Answer) → a ≡ composed published one two out → a ≡ answer_words sws s rws r out
  unfolding answer_words
  words_answered a e = e

  -- the lines of the answer, with the rows that then stand in the output
  pub words_told : (a : Answer) (ws : List ℕ) → a ≡ composed published one two out → ws ≡ after → lines_of a (view 0 s ws) ≡ told_words sws s rws r out
  unfolding told_words answer_words lines_of
  words_told a ws e w =
      let x = composed published one two out in
      ap₂ (λ (y : Answer) (l : List ℕ). lines_of y (view 0 s l)) e w
      ∙ ap (lines (number_told x) (route_number (summary_told x).route) (summary_told x).count) (shown_rows (ℕ_discrete (number_told x) 0))

-- ---- a mask's words

pub words_front : (rows : List Bool) (n : ℕ) (out : List ℕ) → n ≡ length rows → take (words_for n) (written n rows out) ≡ (in_words rows).words
words_front rows n out e =
    take_at (words_of 64 (words_for n) rows) (drop (words_for n) out) (words_for n) (words_of_length 64 (words_for n) rows) ∙ ap (λ (k : ℕ). words_of 64 (words_for k) rows) e

pub zeros_front : (k n : ℕ) → k ≤ n → take k (replicate n 0) ≡ replicate {A = ℕ} k 0
zeros_front zero n h = refl
zeros_front (suc k) zero h = absurd (omega arith)
zeros_front (suc k) (suc n) h = ap (λ (l : List ℕ). 0 ∷ l) (zeros_front k n (le_of_suc-le-suc h))

-- ---- an input's text, by what is found

pub record Found-masks (input : List ℕ) (s r : ℕ) : Type 0 where
  pub well : WellFormed input (self_in input) (rank_in input)
  pub self_long : s ≡ length (self_in input)
  pub rank_long : r ≡ length (rank_in input)

pub found_masks : (input : List ℕ) (s r : ℕ) → found_in input ≡ Some (counted s r) → Found-masks input s r
unfolding found_in
found_masks input s r e = go (dec_well input (self_in input) (rank_in input)) e
  where
    go : (d : Dec (WellFormed input (self_in input) (rank_in input))) → choose d (Some (counted (length (self_in input)) (length (rank_in input)))) None ≡ Some (counted s r) → Found-masks input s r
    go (yes w) q =
        let same = sym (same_Some (counted (length (self_in input)) (length (rank_in input))) (counted s r) q) in
        record { well = w; self_long = ap (λ (m : Masks). m.s) same; rank_long = ap (λ (m : Masks). m.r) same }
    go (no h) q = absurd (none-some (counted s r) q)

parsed_well : (input : List ℕ) → WellFormed input (self_in input) (rank_in input) → parsed input ≡ some (self_in input, rank_in input)
unfolding parsed
parsed_well input w = chosen (dec_well input (self_in input) (rank_in input)) (some (self_in input, rank_in input)) none w

parsed_ill : (input : List ℕ) → ¬ WellFormed input (self_in input) (rank_in input) → parsed input ≡ none
unfolding parsed
parsed_ill input h = passed_over (dec_well input (self_in input) (rank_in input)) (some (self_in input, rank_in input)) none h

-- the text, by what is parsed
abbrev told_of : Option (List Bool × List Bool) → List ℕ
told_of p = lines_of (answer_of p) (result_of p)

module _ (input : List ℕ) (p : Option (List Bool × List Bool)) (e : parsed input ≡ p) where
  pub answer_parsed : answer_for input ≡ answer_of p
  unfolding answer_for
  answer_parsed = ap answer_of e

  pub text_parsed : text_of input ≡ lines_of (answer_of p) (result_of p)
  unfolding text_of answer_for
  text_parsed = ap told_of e

module _ (input : List ℕ) (h : ¬ WellFormed input (self_in input) (rank_in input)) where
  pub answer_ill : answer_for input ≡ answer_of none
  answer_ill = answer_parsed input none (parsed_ill input h)

  pub text_ill : text_of input ≡ lines_of (answer_of none) []
  text_ill = text_parsed input none (parsed_ill input h)

pub found_ill : (input : List ℕ) → found_in input ≡ None → ¬ WellFormed input (self_in input) (rank_in input)
unfolding found_in
found_ill input e w =
    let found = counted (length (self_in input)) (length (rank_in input)) in
    none-some found (sym e ∙ chosen (dec_well input (self_in input) (rank_in input)) (Some found) None w)

-- two masks that were found, and whatever is made of them: their lengths are those found, and their words say them
module _ (input : List ℕ) (s r : ℕ) (e : found_in input ≡ Some (counted s r)) where
  abbrev sws : List ℕ
  sws = (in_words (self_in input)).words

  abbrev rws : List ℕ
  rws = (in_words (rank_in input)).words

  masks_said : {X : Type 0} (f : ℕ → ℕ → List Bool → List Bool → X) → f s r (view 0 s sws) (view 0 r rws) ≡ f (length (self_in input)) (length (rank_in input)) (self_in input) (rank_in input)
  masks_said f =
      let m = found_masks input s r e in
      ap₂ (λ (k l : ℕ). f k l (view 0 k sws) (view 0 l rws)) m.self_long m.rank_long ∙ ap₂ (f (length (self_in input)) (length (rank_in input))) (in_words_rows (self_in input)) (in_words_rows (rank_in input))

  -- the answer to rows beside the words that have them
  abbrev answer_by : ℕ → ℕ → List Bool → List Bool → Answer
  answer_by k l self rank = composed published (lent (Words 0 k (count self)) sws []) (lent (Words 0 l (count rank)) rws []) (replicate (words_for k) 0)

  answers_masks : answer_words sws s rws r (replicate (words_for s) 0) ≡ answer_for input
  unfolding answer_words
  answers_masks = masks_said answer_by ∙ sym (answer_parsed input (some (self_in input, rank_in input)) (parsed_well input (found_masks input s r e).well))

  told_masks : told_words sws s rws r (replicate (words_for s) 0) ≡ text_of input
  unfolding told_words answer_words
  told_masks =
      masks_said (λ (k l : ℕ) (self rank : List Bool). lines_of (answer_by k l self rank) (compose self rank))
      ∙ sym (text_parsed input (some (self_in input, rank_in input)) (parsed_well input (found_masks input s r e).well))

  -- the same with the words that the digits were packed into, cut to those that have rows
  module _ (k l : ℕ) (p : k ≡ words_for s) (q : l ≡ words_for r) (ss rs from to : List ℕ) (x : ss ≡ written s (rows_in (drop 5 input)) from) (y : rs ≡ written r (rows_in (drop (11 + s) input)) to) where
    packed : {X : Type 0} (f : List ℕ → List ℕ → List ℕ → X) → f (take k ss) (take l rs) (take k (replicate 128 0)) ≡ f sws rws (replicate (words_for s) 0)
    packed f =
        let m = found_masks input s r e in
        let few : words_for s ≤ 128 = omega (arith, m.well.self_short, m.self_long) in
        let self-words : take k ss ≡ sws = ap₂ take p x ∙ words_front (self_in input) s from m.self_long in
        let rank-words : take l rs ≡ rws =
        ap₂ take q (y ∙ ap (λ (n : ℕ). written r (rows_in (drop (11 + n) input)) to) m.self_long) ∙ words_front (rank_in input) r to m.rank_long in
        ap₂ (λ (a b : List ℕ). f a b (take k (replicate 128 0))) self-words rank-words
        ∙ ap (f sws rws) (ap (λ (n : ℕ). take n (replicate 128 0)) p ∙ zeros_front (words_for s) 128 few)

    pub packed_answered : (answer_words (take k ss) s (take l rs) r (take k (replicate 128 0)) ≡ answer_for input) × (told_words (take k ss) s (take l rs) r (take k (replicate 128 0)) ≡ text_of input)
    packed_answered = (packed (λ (a b out : List ℕ). answer_words a s b r out) ∙ answers_masks, packed (λ (a b out : List ℕ). told_words a s b r out) ∙ told_masks)

-- ---- where it is written

pub text_front : (text from : List ℕ) (n : ℕ) → n ≡ length text → n ≤ length from → take n (splice 0 from text) ≡ text
text_front text from n e h = ap (take n) (splice_eq 0 from text (omega arith)) ∙ take_at text (drop (0 + length text) from) n (sym e)

module _ (input out : List ℕ) where
  pub no_room : length out < length (text_of input) → (written_for input (length out) ≡ shorter) × (text_out input out ≡ out)
  unfolding written_for text_out
  no_room h = (passed_over (dec_le (length (text_of input)) (length out)) _ _ (λ k. omega arith), passed_over (dec_le (length (text_of input)) (length out)) _ _ (λ k. omega arith))

  pub room : length (text_of input) ≤ length out → (written_for input (length out) ≡ with_text (answer_for input) (text_of input)) × (text_out input out ≡ splice 0 out (text_of input))
  unfolding written_for text_out
  room h = (
    chosen (dec_le (length (text_of input)) (length out)) _ _ h,
    chosen (dec_le (length (text_of input)) (length out)) _ _ h ∙ sym (splice_eq 0 out (text_of input) (omega arith) ∙ ap (λ (k : ℕ). text_of input ++ drop k out) (zero-add (length (text_of input)))),
  )
