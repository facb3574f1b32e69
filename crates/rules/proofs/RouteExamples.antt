-- Document 01's route table line by line: one statement over one list, by computation on the definition that the contracts cite. The
-- numbers around 16 and 32 times a count are its boundaries.
-- Assumes nothing.
use Prim.Native.Nat.{ℕ}
use mathlib.Core.Path.{◌≡◌, refl}
use mathlib.Core.List.{List, [], ◌∷◌}
use Rattle.rules.specs.declared.Form.TheVariants.{All, None, Words, List as Listed, Runs}
use Rattle.rules.specs.Operand.{Operand, lent}
use Rattle.rules.specs.Route.{route_of, number_of, published, route_by}

-- self, the rank mask, and the route. No words are lent: they decide no route
pub data Line : Type 0 where
  takes : (s r : Operand) (number : ℕ) → Line

abbrev pub Lines : List Line → Type 0
Lines [] = Unit {0}
Lines (takes s r n ∷ ls) = (number_of (route_of published s r) ≡ n) × Lines ls

abbrev pub table : List Line
table =
    takes (lent (All 3) [] []) (lent (None 3) [] []) 1
    ∷ takes (lent (Words 0 3 3) [] []) (lent (All 3) [] []) 1
    ∷ takes (lent (Words 0 5 2) [] []) (lent (All 2) [] []) 2
    ∷ takes (lent (Listed 5) [] (0 ∷ 4 ∷ [])) (lent (Listed 2) [] (0 ∷ 1 ∷ [])) 2
    ∷ takes (lent (All 0) [] []) (lent (All 0) [] []) 3
    ∷ takes (lent (None 4) [] []) (lent (All 0) [] []) 3
    ∷ takes (lent (Words 0 5 2) [] []) (lent (None 2) [] []) 3
    ∷ takes (lent (Listed 9) [] (1 ∷ 4 ∷ [])) (lent (Words 0 2 0) [] []) 3
    ∷ takes (lent (Listed 9) [] (1 ∷ 4 ∷ [])) (lent (Listed 2) [] (1 ∷ [])) 4
    ∷ takes (lent (Listed 9) [] (1 ∷ 4 ∷ [])) (lent (Words 0 2 1) [] []) 5
    ∷ takes (lent (Runs 9) [] (1 ∷ 3 ∷ [])) (lent (Listed 2) [] (1 ∷ [])) 4
    ∷ takes (lent (Listed 9) [] (1 ∷ 4 ∷ [])) (lent (Runs 2) [] (1 ∷ 2 ∷ [])) 4
    ∷ takes (lent (Runs 9) [] (1 ∷ 3 ∷ [])) (lent (Words 0 2 1) [] []) 5
    ∷ takes (lent (Runs 9) [] (0 ∷ 9 ∷ [])) (lent (Words 0 9 1) [] []) 1
    ∷ takes (lent (Words 0 9 4) [] []) (lent (Runs 4) [] (0 ∷ 4 ∷ [])) 2
    ∷ takes (lent (Runs 9) [] []) (lent (All 0) [] []) 3
    ∷ takes (lent (Words 0 200 97) [] []) (lent (Runs 97) [] (5 ∷ 8 ∷ [])) 6
    ∷ takes (lent (Words 0 32 2) [] []) (lent (Runs 2) [] (1 ∷ 2 ∷ [])) 7
    ∷ takes (lent (Words 0 33 2) [] []) (lent (Runs 2) [] (1 ∷ 2 ∷ [])) 8
    ∷ takes (lent (Words 0 200 97) [] []) (lent (Words 0 97 3) [] []) 6
    ∷ takes (lent (Words 0 200 97) [] []) (lent (Listed 97) [] (0 ∷ 1 ∷ 2 ∷ [])) 6
    ∷ takes (lent (Words 0 200 96) [] []) (lent (Words 0 96 3) [] []) 9
    ∷ takes (lent (Words 0 32 2) [] []) (lent (Listed 2) [] (1 ∷ [])) 7
    ∷ takes (lent (Words 0 33 2) [] []) (lent (Listed 2) [] (1 ∷ [])) 8
    ∷ takes (lent (Words 0 32 2) [] []) (lent (Words 0 2 1) [] []) 9
    ∷ takes (lent (Words 0 33 2) [] []) (lent (Words 0 2 1) [] []) 10
    ∷ []

pub routes : Lines table
unfolding route_by
routes = (refl, (refl, (refl, (refl, (refl, (refl, (refl, (refl, (refl, (refl, (refl, (refl, (refl, (refl, (refl, (refl, (refl, (refl, (refl, (refl, (refl, (refl, (refl, (refl, (refl, (refl, tt))))))))))))))))))))))))))
