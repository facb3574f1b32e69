-- `text::find::count_digits` meets its contract: the bytes that are taken while they are digits are as many as the rows that they say.
-- By what the chain gives, and by recursion over the text. Assumes nothing.
use Rattle.std.proofs.Common.{◌≡◌, refl, ◌∙◌, ℕ, ◌-◌, Bool, true, false, List, [], ◌∷◌, length, take, drop, rules, tests, arith, take_all, length-drop}
use Rattle.std.specs.List.{prefix_len}
use Rattle.std.proofs.lemmas.List.Folds.{length-prefix_len}
use Rattle.std.proofs.lemmas.Iterator.{YieldsList-from_slice}
use Rattle.std.proofs.lemmas.Iterator.Consumers.{YieldsList-at, count_from_yields_List}
use Rattle.std.proofs.lemmas.Iterator.Search.{YieldsList-from_take_while}
use Rattle.lines.specs.Text.{is_digit, rows_in}
use Rattle.text.proofs.find.count_digits.Goals as goal

digits_counted : (text : List ℕ) → prefix_len is_digit text ≡ length (rows_in text)
unfolding rows_in
digits_counted [] = refl
digits_counted (byte ∷ text) = go (digits_counted text) (is_digit byte) refl
  where
    go : prefix_len is_digit text ≡ length (rows_in text) → (b : Bool) → is_digit byte ≡ b → prefix_len is_digit (byte ∷ text) ≡ length (rows_in (byte ∷ text))
    go ih true e = rw e (omega (arith, ih))
    go ih false e = rw e refl

pub returns : goal.returns
returns c =
    let input = c.args.input.now in
    let rest = drop c.args.at input in
    let whole : take (length input - c.args.at) rest ≡ rest = take_all _ _ (omega (arith, length-drop c.args.at input)) in
    count_from_yields_List c.take_while.result _ c.count.ensures.ran
    (YieldsList-from_take_while _ is_digit (YieldsList-at c.take_while.ensures.source (YieldsList-from_slice rest (c.iter.ensures.rest ∙ whole)))
    c.take_while.ensures.closure c.take_while.ensures.done (λ x b q k. search (rules, tests)))
    ∙ length-prefix_len is_digit rest
    ∙ digits_counted rest
