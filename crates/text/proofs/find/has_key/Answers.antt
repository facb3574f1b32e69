-- `text::find::has_key` meets its contract: what `starts_with` answers, byte for byte, is whether the key begins the rest.
-- By recursion over the key and the text. Assumes nothing.
use Rattle.std.proofs.Common.{◌≡◌, refl, ap, ap₂, ◌∙◌, ℕ, ◌-◌, Bool, ◌&&◌, List, [], ◌∷◌, length, take, drop, nat_eq, arith, take_all, length-drop}
use Rattle.std.specs.List.{starts_with}
use Rattle.lines.specs.Parts.{begins}
use Rattle.text.proofs.find.has_key.Goals as goal

eq_turned : (k t : ℕ) → nat_eq k t ≡ nat_eq t k
eq_turned k t = grind arith

started : (key text : List ℕ) → starts_with nat_eq text key ≡ begins key text
started [] text = refl
started (k ∷ key) [] = refl
started (k ∷ key) (t ∷ text) = ap₂ (λ (a b : Bool). a && b) (eq_turned k t) (started key text)

pub returns : goal.returns
returns c =
    let input = c.args.input.now in
    let whole : take (length input - c.args.at) (drop c.args.at input) ≡ drop c.args.at input = take_all _ _ (omega (arith, length-drop c.args.at input)) in
    c.starts_with.ensures.value ∙ ap (λ (text : List ℕ). starts_with nat_eq text c.args.key.now) whole ∙ started c.args.key.now (drop c.args.at input)
