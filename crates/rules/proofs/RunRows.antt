-- What rows an operand of runs has, as a statement that can be held against document 02's P1: row i is set exactly if some run holds it, from
-- the run's first row to the row before the one past its last. By recursion over the runs.
-- Assumes nothing.
use Prim.Native.Nat.{ℕ, ◌≤◌, ◌<◌}
use native.Mathlib.Nat.{zero-add}
use mathlib.Core.Path.{◌≡◌, ap, sym, ◌∙◌}
use mathlib.Core.Logic.{◌↔◌, ◌⊎◌, inl, inr}
use mathlib.Core.Bool.{true, false, ◌&&◌, false≢true}
use mathlib.Core.List.{List, [], ◌∷◌}
use borrow.Author.Tests.{leb-true, ltb-true, le-leb, lt-ltb}
use lib.Dec.{leb, ltb}
use lib.ListN.{get_or}
use Rattle.rows.specs.Runs.{held}
use Rattle.rows.proofs.ListLaws.{tab_at}
use Rattle.rules.specs.declared.Form.{Form}
use Rattle.rules.specs.declared.Form.TheVariants.{Runs}
use Rattle.rules.specs.Operand.{Operand, rows_by}
use Rattle.rules.proofs.Writes.{row, in_both, in_either}

-- some run holds row i
abbrev pub Held : ℕ → List ℕ → Type 0
Held i [] = ⊥
Held i (first ∷ []) = ⊥
Held i (first ∷ past ∷ ns) = ((first ≤ i) × (i < past)) ⊎ Held i ns

in_run_lem : (i first past : ℕ) → ((leb first i && ltb i past) ≡ true) ↔ ((first ≤ i) × (i < past))
in_run_lem i first past =
    let b = in_both (leb first i) (ltb i past) in
    (λ e. (leb-true first i (b.0 e).0, ltb-true i past (b.0 e).1), λ h. b.1 (le-leb first i h.0, lt-ltb i past h.1))

one_or_other : {A B C D : Type 0} → A ↔ B → C ↔ D → (A ⊎ C) ↔ (B ⊎ D)
one_or_other {A} {B} {C} {D} f g = (to, from)
  where
    to : A ⊎ C → B ⊎ D
    to (inl a) = inl (f.0 a)
    to (inr c) = inr (g.0 c)

    from : B ⊎ D → A ⊎ C
    from (inl b) = inl (f.1 b)
    from (inr d) = inr (g.1 d)

held_exactly : (i : ℕ) (ns : List ℕ) → (held i ns ≡ true) ↔ Held i ns
held_exactly i [] = (λ e. false≢true e, λ h. absurd h)
held_exactly i (first ∷ []) = (λ e. false≢true e, λ h. absurd h)
held_exactly i (first ∷ past ∷ ns) =
    let test = in_either (leb first i && ltb i past) (held i ns) in
    let runs = one_or_other (in_run_lem i first past) (held_exactly i ns) in
    (λ e. runs.0 (test.0 e), λ h. test.1 (runs.1 h))

pub runs_row : (o : Operand) (len : ℕ) → o.form ≡ Runs len → (i : ℕ) → i < len → (row o i ≡ true) ↔ Held i o.numbers
runs_row o len e i h =
    let is : row o i ≡ held i o.numbers =
    ap (λ (f : Form). get_or (rows_by f o) i false) e ∙ tab_at 0 len (λ k. held k o.numbers) i h ∙ ap (λ (k : ℕ). held k o.numbers) (zero-add i) in
    let t = held_exactly i o.numbers in
    (λ q. t.0 (sym is ∙ q), λ q. is ∙ t.1 q)
