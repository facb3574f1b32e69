-- Document 01's words on the text, as statements that can be held against it: which inputs are well formed, what each input is told, that
-- only 0, 7 and 13 are told, and that no input is too long to be read in part. By the laws of the two lines and of composition.
-- Assumes nothing.
use Prim.Native.Nat.{ℕ, ◌≤◌, ◌<◌}
use native.Mathlib.Decide.{ℕ_discrete, dec_le}
use mathlib.Core.Path.{◌≡◌, refl, sym, ap, ap₂, ◌∙◌}
use mathlib.Core.Logic.{◌↔◌, ◌≢◌, ◌⊎◌, inl, inr}
use mathlib.Core.Bool.{Bool, true}
use mathlib.Core.List.{List, []}
use mathlib.Core.Option.{Option, none, some, some-injective}
use native.Mathlib.Omega.{arith}
use lib.ListN.{length, take, length-take}
use lib.Seq.{take_all}
use Rattle.std.specs.Prelude.{Ok, Err}
use Rattle.rows.specs.Rows.{count, compose}
use Rattle.rows.specs.declared.Reason.TheVariants.{LengthsDiffer, Malformed}
use Rattle.rows.specs.Table.{choose, refusal, no_operand, number_told, numbered}
use Rattle.rows.proofs.RowLaws.{compose_length, count_le_length}
use Rattle.rows.proofs.TableLaws.{chosen, passed_over}
use Rattle.rules.specs.Answer.{Answer, answered}
use Rattle.rules.specs.Route.{published, route_of}
use Rattle.lines.specs.declared.Written.{Written}
use Rattle.rules.specs.Operand.{in_words}
use Rattle.rules.proofs.RouteLaws.{route_small}
use Rattle.lines.specs.Text.{ascii, says, WellFormed, self_in, rank_in, dec_well, parsed, decimal_in, decimal, lines, lines_of, answer_to, answer_for, text_of, with_text, shorter, written_for}
use Rattle.lines.specs.Parts.{begins}
use Rattle.lines.proofs.SaidLaws.{self_said, rank_said, said_length}
use Rattle.lines.proofs.ToldLaws.{answer_parsed, text_parsed, answer_ill, text_ill}
use Rattle.lines.proofs.AnswerLaws.{route_taken, answer_paired, answer_unpaired, lines_paired, lines_refused, decimal_short, lines_length}
use Rattle.rules.specs.Route.{route_number}

-- ---- which inputs are well formed

-- the guess is the masks that the input says, where it says any
guessed : (input : List ℕ) (self rank : List Bool) → WellFormed input self rank → WellFormed input (self_in input) (rank_in input)
guessed input self rank w =
    let p = self_said input self rank w.said in
    let q = rank_said input self rank w.said in
    record { said = w.said ∙ ap₂ says (sym p) (sym q); self_short = omega (arith, ap length p, w.self_short); rank_short = omega (arith, ap length q, w.rank_short) }

pub parsed_exactly : (input : List ℕ) (self rank : List Bool) → (parsed input ≡ some (self, rank)) ↔ WellFormed input self rank
unfolding parsed
parsed_exactly input self rank = (to (dec_well input (self_in input) (rank_in input)), from)
  where
    to : (d : Dec (WellFormed input (self_in input) (rank_in input))) → choose {X = Option (List Bool × List Bool)} d (some (self_in input, rank_in input)) none ≡ some (self, rank) → WellFormed input self rank
    to (yes w) e =
        let both : ◌≡◌ {A = List Bool × List Bool} (self_in input, rank_in input) (self, rank) = some-injective (self_in input, rank_in input) (self, rank) e in
        let p = ap (λ (x : List Bool × List Bool). x.0) both in
        let q = ap (λ (x : List Bool × List Bool). x.1) both in
        record { said = w.said ∙ ap₂ says p q; self_short = omega (arith, ap length p, w.self_short); rank_short = omega (arith, ap length q, w.rank_short) }
    to (no h) e = let z : ◌≡◌ {A = ℕ} 0 1 = cc in absurd (omega arith)

    from : WellFormed input self rank → choose {X = Option (List Bool × List Bool)} (dec_well input (self_in input) (rank_in input)) (some (self_in input, rank_in input)) none ≡ some (self, rank)
    from w =
        chosen {X = Option (List Bool × List Bool)} (dec_well input (self_in input) (rank_in input)) (some (self_in input, rank_in input)) none (guessed input self rank w)
        ∙ ap₂ (λ (s r : List Bool). some (s, r)) (self_said input self rank w.said) (rank_said input self rank w.said)

-- ---- what is answered, and what is told

ill_told : (input : List ℕ) → ¬ WellFormed input (self_in input) (rank_in input) → text_of input ≡ lines 13 0 0 []
ill_told input h = text_ill input h ∙ lines_refused Malformed no_operand []

-- two masks: what composition answers to them, and its four lines
module _ (input : List ℕ) (self rank : List Bool) (w : WellFormed input self rank) where
  pub well_formed_answered : answer_for input ≡ answer_to self rank
  well_formed_answered = answer_parsed input (some (self, rank)) ((parsed_exactly input self rank).1 w)

  pub well_formed_told : text_of input ≡ lines_of (answer_to self rank) (compose self rank)
  well_formed_told = text_parsed input (some (self, rank)) ((parsed_exactly input self rank).1 w)

  -- where the rank mask is as long as self has set rows: 0, the table's route, the rank mask's count and the composition's rows
  pub paired_answered : length rank ≡ count self → answer_for input ≡ answered (Ok tt) (compose self rank) (route_taken self rank)
  paired_answered e = well_formed_answered ∙ answer_paired self rank w.self_short w.rank_short e

  pub paired_told : length rank ≡ count self → text_of input ≡ lines 0 (route_number (route_taken self rank)) (count rank) (compose self rank)
  paired_told e = well_formed_told ∙ ap (λ (a : Answer). lines_of a (compose self rank)) (answer_paired self rank w.self_short w.rank_short e) ∙ lines_paired self rank (route_taken self rank) e

  -- and else 7
  pub unpaired_answered : length rank ≢ count self → answer_for input ≡ Err (refusal (numbered 7 LengthsDiffer refl) no_operand)
  unpaired_answered h = well_formed_answered ∙ answer_unpaired self rank w.self_short w.rank_short h

  pub unpaired_told : length rank ≢ count self → text_of input ≡ lines 7 0 0 []
  unpaired_told h = well_formed_told ∙ ap (λ (a : Answer). lines_of a (compose self rank)) (answer_unpaired self rank w.self_short w.rank_short h) ∙ lines_refused LengthsDiffer no_operand (compose self rank)

-- anything else: 13
module _ (input : List ℕ) (h : (self rank : List Bool) → ¬ WellFormed input self rank) where
  pub ill_formed_answered : answer_for input ≡ Err (refusal (numbered 13 Malformed refl) no_operand)
  ill_formed_answered = answer_ill input (h (self_in input) (rank_in input))

  pub ill_formed_told : text_of input ≡ lines 13 0 0 []
  ill_formed_told = ill_told input (h (self_in input) (rank_in input))

-- no bytes at all: 13
pub nothing_is_13 : text_of [] ≡ lines 13 0 0 []
nothing_is_13 = ill_formed_told [] (λ self rank w. omega (arith, said_length [] self rank w.said))

-- only 0, 7 and 13 are answered, and told: the first line is one of three. And all lines have at most 8,228 bytes
pub record OnlyThese (input : List ℕ) : Type 0 where
  pub number : (number_told (answer_for input) ≡ 0) ⊎ (number_told (answer_for input) ≡ 7) ⊎ (number_told (answer_for input) ≡ 13)
  pub first_line : (begins (ascii "refusal=0\n") (text_of input) ≡ true) ⊎ (begins (ascii "refusal=7\n") (text_of input) ≡ true) ⊎ (begins (ascii "refusal=13\n") (text_of input) ≡ true)
  pub short : length (text_of input) ≤ 8228

first_lines : (route set : ℕ) (rows : List Bool)
    → (begins (ascii "refusal=0\n") (lines 0 route set rows) ≡ true) × (begins (ascii "refusal=7\n") (lines 7 route set rows) ≡ true) × (begins (ascii "refusal=13\n") (lines 13 route set rows) ≡ true)
unfolding lines decimal decimal_in
first_lines route set rows = (refl, refl, refl)

pub only_these : (input : List ℕ) → OnlyThese input
only_these input = go (dec_well input (self_in input) (rank_in input)) (ℕ_discrete (length (rank_in input)) (count (self_in input)))
  where
    number_in : Answer → ℕ
    number_in a = number_told a

    one : (d : ℕ) → d < 10 → length (decimal d) ≤ 1
    one d h = decimal_short 0 d h

    go : Dec (WellFormed input (self_in input) (rank_in input)) → Dec (length (rank_in input) ≡ count (self_in input)) → OnlyThese input
    go (yes w) (yes e) =
        let self = self_in input in
        let rank = rank_in input in
        let t = paired_told input self rank w e in
        record {
          number = inl (ap number_in (paired_answered input self rank w e));
          first_line = inl (ap (begins (ascii "refusal=0\n")) t ∙ (first_lines (route_number (route_taken self rank)) (count rank) (compose self rank)).0);
          short = omega (
            arith,
            ap length t,
            lines_length 0 (route_number (route_taken self rank)) (count rank) (compose self rank),
            one 0 (omega arith),
            decimal_short 1 (route_number (route_taken self rank)) (omega (arith, route_small (route_of published (in_words self) (in_words rank)))),
            decimal_short 3 (count rank) (omega (arith, count_le_length rank, w.rank_short)),
            compose_length self rank,
            w.self_short,
          );
        }
    go (yes w) (no h) =
        let t = unpaired_told input (self_in input) (rank_in input) w h in
        record { number = inr (inl (ap number_in (unpaired_answered input (self_in input) (rank_in input) w h))); first_line = inr (inl (ap (begins (ascii "refusal=7\n")) t ∙ (first_lines 0 0 []).1)); short = omega (arith, ap length t, lines_length 7 0 0 [], one 7 (omega arith), one 0 (omega arith)) }
    go (no h) e =
        let t = ill_told input h in
        record { number = inr (inr (ap number_in (answer_ill input h))); first_line = inr (inr (ap (begins (ascii "refusal=13\n")) t ∙ (first_lines 0 0 []).2)); short = omega (arith, ap length t, lines_length 13 0 0 [], decimal_short 1 13 (omega arith), one 0 (omega arith)) }

-- ---- a long input

-- the longest well formed input has 16,396 bytes
pub too_long : (input : List ℕ) → 16396 < length input → (self rank : List Bool) → ¬ WellFormed input self rank
too_long input h self rank w = omega (arith, said_length input self rank w.said, w.self_short, w.rank_short)

-- so the first 16,397 bytes tell what the whole tells
pub text_cut : (input : List ℕ) → text_of (take 16397 input) ≡ text_of input
text_cut input = go (dec_le (length input) 16397)
  where
    go : Dec (length input ≤ 16397) → text_of (take 16397 input) ≡ text_of input
    go (yes h) = ap text_of (take_all 16397 input h)
    go (no h) = ill_formed_told (take 16397 input) (too_long (take 16397 input) (omega (arith, length-take 16397 input))) ∙ sym (ill_formed_told input (too_long input (omega arith)))

-- ---- what is written has room

pub written_within : (input : List ℕ) (room : ℕ) (w : Written) → w ≡ written_for input room → w.len ≤ room
unfolding written_for
written_within input room w e = go (dec_le (length (text_of input)) room) e
  where
    go : (d : Dec (length (text_of input) ≤ room)) → w ≡ choose d (with_text (answer_for input) (text_of input)) shorter → w.len ≤ room
    go (yes h) q = omega (arith, ap (λ (x : Written). x.len) q)
    go (no h) q = omega (arith, ap (λ (x : Written). x.len) q)

-- 8 is answered where the output is shorter than the text
pub eight_exactly : (input : List ℕ) (room : ℕ) → (number_told (written_for input room).answer ≡ 8) ↔ (room < length (text_of input))
unfolding written_for
eight_exactly input room = (to (dec_le (length (text_of input)) room), from)
  where
    to : (d : Dec (length (text_of input) ≤ room)) → number_told (choose {X = Written} d (with_text (answer_for input) (text_of input)) shorter).answer ≡ 8
        → room < length (text_of input)
    to (no h) e = omega arith
    to (yes h) e = other (only_these input).number
      where
        other : (number_told (answer_for input) ≡ 0) ⊎ (number_told (answer_for input) ≡ 7) ⊎ (number_told (answer_for input) ≡ 13) → room < length (text_of input)
        other (inl z) = absurd (omega (arith, e, z))
        other (inr (inl z)) = absurd (omega (arith, e, z))
        other (inr (inr z)) = absurd (omega (arith, e, z))

    from : room < length (text_of input) → number_told (choose {X = Written} (dec_le (length (text_of input)) room) (with_text (answer_for input) (text_of input)) shorter).answer ≡ 8
    from h = ap (λ (w : Written). number_told w.answer) (passed_over {X = Written} (dec_le (length (text_of input)) room) _ _ (λ k. omega arith))
