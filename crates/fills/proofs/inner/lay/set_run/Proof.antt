-- `fills::inner::lay::set_run` meets its contract: one bit, or the low bits of the largest word, which are ones.
-- By the contracts of `put` and `fill`, and the law of a word of one bit. Assumes nothing.
use Prim.Native.Nat.{ℕ, ◌+◌, ◌-◌, ◌^◌}
use mathlib.Core.Path.{sym, ap, ◌∙◌}
use mathlib.Core.Bool.{Bool, true}
use mathlib.Core.List.{List}
use lib.ListN.{replicate}
use borrow.Author.Rules.{rules}
use Rattle.rows.specs.Laid.{laid}
use Rattle.laid.proofs.LayLaws.{ones_bits}
use Rattle.laid.proofs.SameLaws.{low_same}
use Rattle.fills.proofs.inner.lay.set_run.Statement.{statement}
use Rattle.fills.proofs.inner.lay.set_run.Tie as tie

-- ---- the places, each from the one after it

abbrev marked : tie.After-slice_known-then-n-eq1-1 → tie.After-set_bit
marked c = c.before.before

abbrev start : tie.Then-n-le64 → tie.Start
start c = c.before.before.before

abbrev written : tie.After-slice_known-then-n-le64-1 → tie.After-put
written c = c.before.before

-- ---- the answers

sub-n : tie.Need-overflow_sub-n
sub-n c = search rules

add-bit : tie.Need-overflow_add-bit
add-bit c = search rules

set-bit-requires : tie.Need-set_bit-requires
set-bit-requires c κs = search rules

same_length : tie.Need-shape_of-out-then-n-eq1
same_length c = search rules

returns : tie.Need-returns-then-n-eq1
returns c =
    let m = marked c in
    let one = m.before.before in
    let a = one.before.before.args in
    m.set_bit.ensures ∙ ap (λ (n : ℕ). laid (a.at + a.first) (replicate n true) a.out.now) (sym one.if-n-eq1.true)

put-requires : tie.Need-put-requires
put-requires c κs = search rules

same-length-2 : tie.Need-shape_of-out-then-n-le64
same-length-2 c = search rules

returns-2 : tie.Need-returns-then-n-le64
returns-2 c =
    let w = written c in
    let few = w.before.before in
    let a = (start few).args in
    w.put.ensures
    ∙ ap (λ (l : List Bool). laid (a.at + a.first) l a.out.now) (low_same (a.past - a.first) 64 (2 ^ 64 - 1) true few.if-n-le64.true (ones_bits 64))

fill-requires : tie.Need-fill-requires
fill-requires c κs = search rules

same-length-3 : tie.Need-shape_of-out
same-length-3 c = search rules

returns-3 : tie.Need-returns
returns-3 c = search rules

pub set_run_spec : {M : Type 1} → statement M
set_run_spec =
    tie.close
    (tie.spec
    sub-n
    add-bit
    set-bit-requires
    same_length
    returns
    put-requires
    same-length-2
    returns-2
    fill-requires
    same-length-3
    returns-3)
