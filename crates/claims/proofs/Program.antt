-- Document 01's program, of whatever the contract of `text::answer` allows: x is what it gives and `after` what then stands in the
-- output. Where that has room for the text, two masks are answered by their composition and its lines, anything else by 13 and its lines,
-- and the bytes after the lines stay; where it is shorter than the text, by 8. By the theorems about the text. Assumes nothing.
use mathlib.Core.Path.{◌≡◌, refl, sym, ap, ◌∙◌}
use mathlib.Core.Bool.{Bool, true}
use mathlib.Core.List.{List, [], ◌++◌}
use mathlib.Core.Logic.{◌↔◌, ◌≢◌, ◌⊎◌}
use Prim.Native.Nat.{ℕ, ◌≤◌, ◌<◌}
use native.Mathlib.Decide.{ℕ_discrete, dec_le}
use lib.ListN.{length, take, drop}
use lib.Seq.{take_at, drop_at}
use contract.Lifetimes.{Lfts}
use borrow.Fn.Kinds.{Dens, res_t, ended_of}
use denote.Triple.Clauses.{Lasts, at_exit}
use native.Mathlib.Omega.{arith}
use Rattle.std.specs.Prelude.{Ok, Err}
use Rattle.rows.specs.Rows.{count, compose}
use Rattle.rows.specs.Table.{refusal, numbered}
use Rattle.rows.proofs.TableLaws.{chosen}
use Rattle.rules.specs.Answer.{Answer}
use Rattle.rules.specs.Answer.{answered}
use Rattle.lines.specs.declared.Written.{Written}
use Rattle.lines.specs.Parts.{begins}
use Rattle.lines.specs.Text.{ascii, WellFormed, lines, answer_for, text_of, with_text, written_for, text_out}
use Rattle.lines.proofs.ToldLaws.{no_room}
use Rattle.lines.proofs.AnswerLaws.{route_taken}
use Rattle.lines.proofs.Theorems.{only_these, eight_exactly, ill_formed_answered, ill_formed_told, paired_answered, paired_told, unpaired_answered, unpaired_told}
use Rattle.text.proofs.answer.Kinds as kinds
use Rattle.text.proofs.answer.Reads as reads
use Rattle.rows.specs.declared.Reason.TheVariants.{LengthsDiffer, NoRoom, Malformed}
use Rattle.rows.specs.Table.{no_operand, number_told}
use Rattle.rules.specs.Route.{route_number}

module _ (κs : Lfts 2) (a : Dens κs kinds.ps) (x : (res_t kinds.r κs).Denot) (v : Lasts (ended_of 2 kinds.ps kinds.r) κs a) (allowed : reads.Post κs a x (at_exit (ended_of 2 kinds.ps kinds.r) κs a v)) where
  abbrev input : List ℕ
  input = a.0.now

  abbrev out : List ℕ
  out = a.1.0.now

  abbrev written : Written
  written = x

  abbrev after : List ℕ
  after = v.1.0

  -- 8,228 bytes are room for every text
  pub always_room : 8228 ≤ length out → length (text_of input) ≤ length out
  always_room h = omega (arith, (only_these input).short)

  -- the answer is the input's, and the bytes that it says it wrote are the text of it
  module _ (room : length (text_of input) ≤ length out) where
    gives_whole : written ≡ with_text (answer_for input) (text_of input)
    unfolding written_for
    gives_whole = allowed.0 ∙ chosen (dec_le (length (text_of input)) (length out)) _ _ room

    leaves : after ≡ text_of input ++ drop (length (text_of input)) out
    unfolding text_out
    leaves = allowed.1 ∙ chosen (dec_le (length (text_of input)) (length out)) _ _ room

    text_long : written.len ≡ length (text_of input)
    text_long = ap (λ (w : Written). w.len) gives_whole

    writes_text : take written.len after ≡ text_of input
    writes_text = rw (leaves, text_long) (take_at (text_of input) (drop (length (text_of input)) out) (length (text_of input)) refl)

    -- the bytes after the text stay
    pub later_bytes_stay : drop written.len after ≡ drop written.len out
    later_bytes_stay = rw (leaves, text_long) (drop_at (text_of input) (drop (length (text_of input)) out) (length (text_of input)) refl)

    gives_answer : written.answer ≡ answer_for input
    gives_answer = ap (λ (w : Written). w.answer) gives_whole

    -- two masks that go together: 0, the table's route, the count and the rows of their composition
    pub pair_is_composed : (self rank : List Bool) → WellFormed input self rank → length rank ≡ count self
        → (written.answer ≡ answered (Ok tt) (compose self rank) (route_taken self rank)) × (take written.len after ≡ lines 0 (route_number (route_taken self rank)) (count rank) (compose self rank))
    pair_is_composed self rank w e = (gives_answer ∙ paired_answered input self rank w e, writes_text ∙ paired_told input self rank w e)

    -- two masks that do not: 7
    pub other_pair_is_7 : (self rank : List Bool) → WellFormed input self rank → length rank ≢ count self
        → (written.answer ≡ Err (refusal (numbered 7 LengthsDiffer refl) no_operand)) × (take written.len after ≡ lines 7 0 0 [])
    other_pair_is_7 self rank w h = (gives_answer ∙ unpaired_answered input self rank w h, writes_text ∙ unpaired_told input self rank w h)

    -- anything else: 13
    pub anything_else_is_13 : ((self rank : List Bool) → ¬ WellFormed input self rank) → (written.answer ≡ Err (refusal (numbered 13 Malformed refl) no_operand)) × (take written.len after ≡ lines 13 0 0 [])
    anything_else_is_13 h = (gives_answer ∙ ill_formed_answered input h, writes_text ∙ ill_formed_told input h)

    -- the program takes exactly the well formed inputs: 13 where there are no such masks, and there alone
    pub thirteen_exactly : ((number_told written.answer) ≡ 13) ↔ ((self rank : List Bool) → ¬ WellFormed input self rank)
    thirteen_exactly = (λ e self rank w. told e self rank w (ℕ_discrete (length rank) (count self)), λ h. ap number (anything_else_is_13 h).0)
      where
        number : Answer → ℕ
        number x = (number_told x)

        told : (number_told written.answer) ≡ 13 → (self rank : List Bool) → WellFormed input self rank → Dec (length rank ≡ count self) → ⊥
        told e self rank w (yes p) = omega (arith, e, ap number (pair_is_composed self rank w p).0)
        told e self rank w (no h) = omega (arith, e, ap number (other_pair_is_7 self rank w h).0)

    -- and tells nothing else than 0, 7 or 13: in the answer, and in the first line
    pub only_these_numbers : ((number_told written.answer) ≡ 0) ⊎ ((number_told written.answer) ≡ 7) ⊎ ((number_told written.answer) ≡ 13)
    only_these_numbers = rw gives_answer (only_these input).number

    pub only_these_lines : let text = take written.len after in
        (begins (ascii "refusal=0\n") text ≡ true) ⊎ (begins (ascii "refusal=7\n") text ≡ true) ⊎ (begins (ascii "refusal=13\n") text ≡ true)
    only_these_lines = rw writes_text (only_these input).first_line

  -- an output that is shorter than the text, and no other: 8, no text, and the output as it was
  pub shorter_is_8 : ((number_told written.answer) ≡ 8) ↔ (length out < length (text_of input))
  shorter_is_8 = (λ e. (eight_exactly input (length out)).0 (sym (ap eight allowed.0) ∙ e), λ h. ap eight allowed.0 ∙ (eight_exactly input (length out)).1 h)
    where
      eight : Written → ℕ
      eight w = (number_told w.answer)

  pub shorter_is_untouched : length out < length (text_of input) → (written ≡ with_text (Err (refusal (numbered 8 NoRoom refl) no_operand)) []) × (after ≡ out)
  shorter_is_untouched h = let n = no_room input out h in (allowed.0 ∙ n.0, allowed.1 ∙ n.1)
