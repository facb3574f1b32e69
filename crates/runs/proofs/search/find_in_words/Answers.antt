-- `runs::search::find_in_words` meets its contract: the next set row, and from there the next that is not.
-- By what `seek` finds, the first row sought. Assumes nothing.
use Rattle.std.proofs.Common.{ℕ, ◌≡◌, subst, sym, ap, ap₂, ◌∙◌}
use Rattle.rows.specs.Words.{view}
use Rattle.rows.proofs.WordsLaws.{view_length}
use Rattle.outside.specs.declared.inner.Sought.TheVariants.{Set, Unset}
use Rattle.outside.specs.First.{has, sought, First}
use Rattle.runs.specs.Searched.{seek_row, found}
use Rattle.runs.proofs.SearchLaws.{seek_first}
use Rattle.runs.proofs.search.find_in_words.Goals as goal

pub returns : goal.returns
returns c =
    let a = c.args in
    let s = view a.start a.len a.words.now in
    let long = sym (view_length a.start a.len a.words.now c.requires.0.2) in
    let first : c.seek-first.result ≡ seek_row Set a.at s =
    seek_first Set a.at s _ (subst (λ (e : ℕ). First (λ i. sought Set (has s i)) a.at e c.seek-first.result) long c.seek-first.ensures) in
    let past : c.seek-past.result ≡ seek_row Unset c.seek-first.result s =
    seek_first Unset c.seek-first.result s _
    (subst (λ (e : ℕ). First (λ i. sought Unset (has s i)) c.seek-first.result e c.seek-past.result) long c.seek-past.ensures) in
    ap₂ (λ (f p : ℕ). found f p p) first (past ∙ ap (λ (f : ℕ). seek_row Unset f s) first)
