-- `laid::inner::lay_some` meets its contract: no bits laid change nothing, and the low bits of a word of one bit are that bit.
-- By the contract of `put`. Assumes nothing.
use Prim.Native.Nat.{◌^◌}
use mathlib.Core.Path.{◌≡◌, sym, ap, ◌∙◌}
use mathlib.Core.Bool.{Bool}
use mathlib.Core.List.{List}
use borrow.Author.Rules.{rules}
use Rattle.rows.specs.Laid.{laid}
use Rattle.rows.proofs.LaidLaws.{below_all, laid_nil}
use Rattle.laid.proofs.inner.lay_some.Statement.{statement}
use Rattle.laid.proofs.inner.lay_some.Tie as tie

-- ---- the places, each from the one after it

abbrev start : tie.After-put-arg-1 → tie.Start
start c = c.before.before.before

abbrev asked : tie.After-put → tie.After-put-arg-1
asked c = c.before.before

-- ---- the answers

returns : tie.Need-returns-then-n-eq0
returns c =
    let a = c.before.before.args in
    let out = a.out.now in
    let none : a.n ≡ 0 = c.if-n-eq0.true in
    rw none (sym (laid_nil 64 a.at out (below_all (2 ^ 64) out (λ i. (c.before.slice_known-1.given i).fits))))

same-word-requires : tie.Need-same_word-requires
same-word-requires c κs = search rules

put-requires : tie.Need-put-requires
put-requires c κs = search rules

same_length : tie.Need-shape_of-out
same_length c = search rules

returns-2 : tie.Need-returns
returns-2 c =
    let put = c.before.before in
    let s = start (asked put) in
    let a = s.args in
    put.put.ensures ∙ ap (λ (z : List Bool). laid a.at z a.out.now) (put.before.same_word.ensures a.n s.requires.0)

pub lay_some_spec : {M : Type 1} → statement M
lay_some_spec = tie.close (tie.spec returns same-word-requires put-requires same_length returns-2)
