-- `runs::search::find` meets its contract: each form's next run is found as it has its rows.
-- By the case that the match tells, and where a search stands that has a run left. Assumes nothing.
use Rattle.std.proofs.Common.{ℕ, ◌≡◌, ◌≤◌, List, [], ◌∷◌, length, refl, subst, arith}
use Rattle.rows.specs.Words.{Below}
use Rattle.rows.proofs.MarkLaws.{ascending_below}
use Rattle.rules.specs.declared.Form.{Form}
use Rattle.rules.specs.declared.Form.TheVariants.{List as Listed}
use Rattle.rules.specs.Operand.{lent, Accepted}
use Rattle.rules.proofs.OperandLaws.{accepted_limit}
use Rattle.operand.proofs.NumberLaws.{accepted_list}
use Rattle.runs.specs.Searched.{left_by}
use Rattle.runs.proofs.FoundLaws.{list_at}
use Rattle.runs.proofs.search.find.Goals as goal

below_more : (m k : ℕ) (xs : List ℕ) → m ≤ k → Below m xs → Below k xs
below_more m k [] h b = tt
below_more m k (x ∷ xs) h b = (omega (arith, b.0), below_more m k xs h b.1)

-- what is asked, by what an arm tells of the form
module _ (f g : Form) (ws es : List ℕ) (at : ℕ) (e : f ≡ g) (h : Accepted (lent f ws es) × (2 ≤ length (left_by f (lent f ws es) at))) where
  well : Accepted (lent g ws es)
  well = subst (λ (x : Form). Accepted (lent x ws es)) e h.0

  left : 2 ≤ length (left_by g (lent g ws es) at)
  left = subst (λ (x : Form). 2 ≤ length (left_by x (lent x ws es) at)) e h.1

pub find_in_list-requires : goal.find_in_list-requires
find_in_list-requires c =
    let a = c.args in
    let ws = a.words.now in
    let es = a.rows.now in
    let len = c.in-List.length in
    let o = lent (Listed len) ws es in
    let m = well a.form (Listed len) ws es a.at c.in-List.is c.requires in
    let few = left a.form (Listed len) ws es a.at c.in-List.is c.requires in
    (list_at len a.at es few, below_more len 1048576 es (accepted_limit o m) (ascending_below 0 len es (accepted_list o refl m)))
