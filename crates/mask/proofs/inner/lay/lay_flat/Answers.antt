-- `mask::inner::lay::lay_flat` meets its contract: words from bit 0 at a word's first bit are copied, all else goes chunk by chunk.
-- By the contracts of the two ways; what the match tells of the form is put into each. Assumes nothing.
use Prim.Native.Nat.{ℕ}
use mathlib.Core.Path.{◌≡◌, ap, subst, ◌∙◌}
use mathlib.Core.List.{List, []}
use native.Mathlib.Omega.{arith}
use Rattle.rows.specs.Words.{view}
use Rattle.rows.specs.Laid.{laid}
use Rattle.rows.specs.Asks.{InView, Room}
use Rattle.rules.specs.declared.Form.{Form}
use Rattle.rules.specs.declared.Form.TheVariants.{Words}
use Rattle.rules.specs.Operand.{lent, length_of}
use Rattle.operand.specs.Flat.{Flat}
use Rattle.mask.proofs.inner.lay.lay_flat.Goals as goal

-- what is asked of words
asked : (form : Form) (first len claimed at : ℕ) (words out : List ℕ) → form ≡ Words first len claimed → Flat (lent form words []) × Room at (length_of form) out
    → InView first len words × Room at len out
asked form first len claimed at words out e = subst (λ (f : Form). Flat (lent f words []) × Room at (length_of f) out) e

pub overflow_add-start : goal.overflow_add-start
overflow_add-start c =
    let a = c.args in
    omega (arith, (asked a.form c.in-Words.start c.in-Words.length c.in-Words.claimed a.at a.words.now a.out.now c.in-Words.is c.requires).0.1)

pub lay_words-requires : goal.lay_words-requires
lay_words-requires c =
    let a = c.args in
    let w = asked a.form c.in-Words.start c.in-Words.length c.in-Words.claimed a.at a.words.now a.out.now c.in-Words.is c.requires in
    (omega (arith, c.if-start-at-ne0.false), omega (arith, w.0.2), w.1)

pub returns : goal.returns
returns c =
    let a = c.args in
    let none : 0 ≡ c.in-Words.start = omega (arith, c.if-start-at-ne0.false) in
    rw c.in-Words.is (c.lay_words.ensures ∙ ap (λ (k : ℕ). laid a.at (view k c.in-Words.length a.words.now) a.out.now) none)
