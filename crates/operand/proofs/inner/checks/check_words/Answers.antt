-- `operand::inner::checks::check_words` meets its contract: each return is one line of the table, the lines before it met.
-- By the table's law. Assumes nothing.
use Prim.Native.Nat.{ℕ}
use mathlib.Core.Path.{◌≡◌, refl, sym, ap, ◌∙◌, subst}
use mathlib.Core.Logic.{inl, inr}
use native.Mathlib.Omega.{arith}
use lib.Dec.{T, eqb, eqb→eq, eqb_refl}
use Rattle.std.specs.Prelude.{Ok, Err, Some}
use Rattle.rows.specs.Rows.{count}
use Rattle.rows.specs.Words.{view}
use Rattle.rows.specs.declared.Reason.TheVariants.{LengthOverLimit, StartOver63, TooFewWords, CountDiffers}
use Rattle.rows.specs.Table.{refusal}
use Rattle.rows.proofs.TableLaws.{first_is, is_true, is_false}
use Rattle.rules.specs.Operand.{words_checks}
use Rattle.operand.proofs.inner.checks.check_words.Goals as goal

pub returns-then-length-gt1048576 : goal.returns-then-length-gt1048576
returns-then-length-gt1048576 c =
    let a = c.args in
    ap Err c.refusal_of.ensures ∙ sym (first_is (words_checks (Some a.operand) a.start a.length a.claimed a.words.now) (Err (refusal LengthOverLimit (Some a.operand))) (inr (λ h. omega arith, refl)))

pub returns-then-start-gt63 : goal.returns-then-start-gt63
returns-then-start-gt63 c =
    let a = c.args in
    ap Err c.refusal_of-then-start-gt63.ensures ∙ sym (first_is (words_checks (Some a.operand) a.start a.length a.claimed a.words.now) (Err (refusal StartOver63 (Some a.operand))) (inl (omega arith, inr (λ h. omega arith, refl))))

pub returns-then-words-words_for : goal.returns-then-words-words_for
returns-then-words-words_for c =
    let a = c.args in
    ap Err c.refusal_of-then-words-words_for.ensures ∙ sym (first_is (words_checks (Some a.operand) a.start a.length a.claimed a.words.now) (Err (refusal TooFewWords (Some a.operand))) (inl (omega arith, inl (omega arith, inr (λ h. omega arith, refl)))))

pub returns-then-not-has_count : goal.returns-then-not-has_count
returns-then-not-has_count c =
    let a = c.args in
    let e = is_false (sym c.has_count.ensures ∙ c.if-not-has_count.true) in
    let other : ¬ (a.claimed ≡ count (view a.start a.length a.words.now)) = λ h. e (subst (λ (k : ℕ). T (eqb a.claimed k)) h (eqb_refl a.claimed)) in
    ap Err c.refusal_of-then-not-has_count.ensures ∙ sym (first_is (words_checks (Some a.operand) a.start a.length a.claimed a.words.now) (Err (refusal CountDiffers (Some a.operand))) (inl (omega arith, inl (omega arith, inl (omega arith, inr (other, refl))))))

pub returns : goal.returns
returns c =
    let a = c.args in
    let same : a.claimed ≡ count (view a.start a.length a.words.now) = eqb→eq a.claimed (count (view a.start a.length a.words.now)) (is_true (sym c.has_count.ensures ∙ c.if-not-has_count.false)) in
    sym (first_is (words_checks (Some a.operand) a.start a.length a.claimed a.words.now) (Ok tt) (inl (omega arith, inl (omega arith, inl (omega arith, inl (same, refl))))))
