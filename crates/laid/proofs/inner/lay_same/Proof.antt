-- `laid::inner::lay_same` meets its contract: in one word, or to the first word's end, in whole words and in what is left.
-- By the law of the same bit laid so often, and then so often. Assumes nothing.
use Prim.Native.Nat.{ℕ, ◌+◌, ◌-◌, ◌*◌, ◌/◌, ◌%◌, ◌^◌}
use mathlib.Core.Path.{◌≡◌, ap, ◌∙◌}
use native.Mathlib.Omega.{arith}
use lib.ListN.{replicate}
use borrow.Author.Rules.{rules}
use Rattle.rows.specs.Laid.{laid}
use Rattle.rows.proofs.LaidLaws.{below_all, laid_same}
use Rattle.laid.proofs.inner.lay_same.Statement.{statement}
use Rattle.laid.proofs.inner.lay_same.Tie as tie

-- ---- the places, each from the one after it

abbrev start : tie.After-lay_some-arg-2-1 → tie.Start
start c = c.before.before.before

abbrev head : tie.After-lay_some-2 → tie.After-lay_some-arg-2-1
head c = c.before

abbrev first : tie.After-same_words-arg-1 → tie.After-lay_some-2
first c = c.before.before.before

abbrev middle : tie.After-same_words → tie.After-same_words-arg-1
middle c = c.before

abbrev whole : tie.After-lay_some-arg-3-1 → tie.After-same_words
whole c = c.before.before.before

abbrev last : tie.After-slice_known-4-1 → tie.After-lay_some-3
last c = c.before.before

-- ---- the answers

add-if1 : tie.Need-overflow_add-shift
add-if1 c = search rules

lay-some-requires : tie.Need-lay_some-requires
lay-some-requires c κs = search rules

same_length : tie.Need-shape_of-out-then-shift-n-le64
same_length c = search rules

returns : tie.Need-returns-then-shift-n-le64
returns c = search rules

add-end : tie.Need-overflow_add-end
add-end c = search rules

sub-lay-some : tie.Need-overflow_sub-shift
sub-lay-some c = search rules

lay-some-requires-2 : tie.Need-lay_some-requires-2
lay-some-requires-2 c κs = search rules

add-same-words : tie.Need-overflow_add-at
add-same-words c = search rules

same-words-requires : tie.Need-same_words-requires
same-words-requires c κs = (omega arith, omega arith, below_all (2 ^ 64) (first c).lay_some-2.new.out (λ i. (c.before.slice_known-2-1.given i).fits))

sub-lay-some-2 : tie.Need-overflow_sub-end
sub-lay-some-2 c = search rules

lay-some-requires-3 : tie.Need-lay_some-requires-3
lay-some-requires-3 c κs = search rules

same-length-2 : tie.Need-shape_of-out
same-length-2 c = search rules

returns-2 : tie.Need-returns
returns-2 c =
    let end = last c in
    let words = whole end.before in
    let from = first (middle words) in
    let a = (start (head from)).args in
    let out = a.out.now in
    let next : ℕ = a.at / 64 + 1 in
    let in_first : ℕ = 64 - a.at % 64 in
    let in_words : ℕ = ((a.at + a.n) / 64 - next) * 64 in
    let left : ℕ = (a.at + a.n) % 64 in
    let all : in_first + in_words + left ≡ a.n = omega arith in
    end.lay_some-3.ensures
    ∙ ap (laid (a.at + a.n - left) (replicate left a.set))
    (words.same_words.ensures ∙ ap (laid (next * 64) (replicate in_words a.set)) from.lay_some-2.ensures
    ∙ laid_same 64 a.at (next * 64) in_first in_words a.set out (omega arith))
    ∙ laid_same 64 a.at (a.at + a.n - left) (in_first + in_words) left a.set out (omega arith)
    ∙ ap (λ (x : ℕ). laid a.at (replicate x a.set) out) all

pub lay_same_spec : {M : Type 1} → statement M
lay_same_spec =
    tie.close
    (tie.spec
    add-if1
    lay-some-requires
    same_length
    returns
    add-end
    sub-lay-some
    lay-some-requires-2
    add-same-words
    same-words-requires
    sub-lay-some-2
    lay-some-requires-3
    same-length-2
    returns-2)
