-- `outside::inner::first_outside` meets its contract.
-- The first row outside is select's at rank 0. Acceptance gives what each walk asks. Assumes nothing.
use Prim.Native.Nat.{ℕ}
use mathlib.Core.Path.{◌≡◌, sym, subst, ◌∙◌}
use mathlib.Core.Bool.{Bool}
use mathlib.Core.List.{List}
use Rattle.rows.specs.Rows.{outside}
use Rattle.rows.specs.Words.{view}
use Rattle.rows.specs.Lists.{select}
use Rattle.rows.proofs.RecoverLaws.{outside_length}
use Rattle.rules.specs.declared.Form.{Form}
use Rattle.rules.specs.declared.Form.TheVariants.{Words}
use Rattle.rules.specs.Operand.{lent, rows_of, length_of, Accepted}
use Rattle.rules.proofs.OperandLaws.{accepted_length}
use Rattle.outside.specs.First.{has, First}
use Rattle.outside.specs.Walks.{Walks}
use Rattle.outside.proofs.FirstLaws.{first_select}
use Rattle.outside.proofs.WalkLaws.{accepted_walks}
use Rattle.outside.proofs.inner.first_outside.Goals as goal

-- both masks: what the walks ask of them, and what the first row outside is
module _ (f g : Form) (sws ses kws kes : List ℕ) (h : Accepted (lent f sws ses) × Accepted (lent g kws kes) × (length_of g ≡ length_of f)) where
  asked : Walks f sws ses 0 0 × Walks g kws kes 0 0 × (length_of g ≡ length_of f)
  asked = (accepted_walks f sws ses h.0, accepted_walks g kws kes h.1, h.2)

  answered : (r : ℕ) → First (has (outside (rows_of (lent f sws ses)) (rows_of (lent g kws kes)))) 0 (length_of g) r → r ≡ select (outside (rows_of (lent f sws ses)) (rows_of (lent g kws kes))) 0
  answered r w =
      let rows = outside (rows_of (lent f sws ses)) (rows_of (lent g kws kes)) in
      let long = outside_length (rows_of (lent f sws ses)) (rows_of (lent g kws kes)) ∙ accepted_length (lent g kws kes) h.1 in
      first_select rows r (subst (λ (n : ℕ). First (has rows) 0 n r) (sym long) w)

pub leap-requires : goal.leap-requires
leap-requires c = asked c.args.s c.args.k _ _ _ _ c.requires

pub returns-in_default : goal.returns-in_default
returns-in_default c = answered c.args.s c.args.k _ _ _ _ c.requires _ c.leap.ensures

pub leap-requires-in_default-k : goal.leap-requires-in_default-k
leap-requires-in_default-k c =
    let f = Words c.in-Words.sstart c.in-Words.length c.in-Words.claimed in
    asked f c.args.k c.args.swords.now c.args.srows.now c.args.kwords.now c.args.krows.now (rw c.in-Words.is at c.requires)

pub returns-in_default-k : goal.returns-in_default-k
returns-in_default-k c =
    let f = Words c.in-Words.sstart c.in-Words.length c.in-Words.claimed in
    let e = c.in-Words.is in
    rw e (answered f c.args.k c.args.swords.now c.args.srows.now c.args.kwords.now c.args.krows.now (rw e at c.requires) _ c.leap-in_default-k.ensures)

pub returns : goal.returns
returns c =
    let f = Words c.in-Words.sstart c.in-Words.length c.in-Words.claimed in
    let g = Words c.in-Words-k.kstart c.in-Words-k.length c.in-Words-k.claimed in
    let e = c.in-Words.is in
    let d = c.in-Words-k.is in
    let h = rw d at (rw e at c.requires) in
    let rows : ℕ → List Bool = λ n. outside (view c.in-Words.sstart n c.args.swords.now) (view c.in-Words-k.kstart c.in-Words-k.length c.args.kwords.now) in
    rw e (rw d (answered f g c.args.swords.now c.args.srows.now c.args.kwords.now c.args.krows.now h _
    (subst (λ (n : ℕ). First (has (rows n)) 0 c.in-Words-k.length c.first_in_words.result) h.2 c.first_in_words.ensures)))
