-- `extracts::stores::store_ranks` meets its contract: both words are stored where both are to be written yet, and else the ranks alone.
-- By the contracts of the stores. Assumes nothing.
use Prim.Native.Nat.{ℕ, ◌+◌, ◌-◌, ◌%◌, ◌^◌}
use native.Mathlib.Omega.{arith}
use mathlib.Core.Path.{refl, sym}
use borrow.Author.Rules.{rules}
use Rattle.rows.specs.Word.{bits_of}
use Rattle.rows.proofs.LaidLaws.{laid_nil, below_all}
use Rattle.extracts.proofs.stores.store_ranks.Statement.{statement}
use Rattle.extracts.proofs.stores.store_ranks.Tie as tie

-- ---- the places, each from the one after it

abbrev entry : tie.After-struct_known-2-1 → tie.After-slice_known-1
entry c = c.before.before

abbrev a : tie.After-struct_known-2-1 → tie.Start
a c = (entry c).before

abbrev over : tie.After-slice_known-then-place-end-1 → tie.After-put_over
over c = c.before.before

abbrev put : tie.After-slice_known-2-1 → tie.After-put_ranks
put c = c.before.before

abbrev place : tie.After-struct_known-2-1 → ℕ
place c = (a c).args.at + (a c).args.rank.0

-- ---- the answers

add-past : tie.Need-overflow_add-past
add-past c = omega (arith, c.before.before.requires)

add-place : tie.Need-overflow_add-place
add-place c = omega (arith, (a c).requires)

add-if1 : tie.Need-overflow_add-place-2
add-if1 c = omega (arith, (a c).requires)

put-over-requires : tie.Need-put_over-requires
put-over-requires c κs =
    let t = c.before.before in
    omega (arith, (a t).requires.2, c.before.if-place-end.true)

same_length : tie.Need-shape_of-out-then-place-end
same_length c = search rules

returns : tie.Need-returns-then-place-end
returns c =
    let w = over c in
    let t = w.before.before.before in (
      refl,
      record {
        many = 64 - place t % 64 + 64;
        enough = omega (arith, (a t).requires.0);
        within = omega (arith, w.before.before.if-place-end.true);
        lies = w.put_over.ensures;
      },
    )

returns-2 : tie.Need-returns-then-n-eq0
unfolding bits_of
returns-2 c =
    let t = c.before.before in
    let out = (a t).args.out.now in (
      refl,
      record {
        many = 0;
        enough = omega (arith, c.if-n-eq0.true);
        within = omega (arith, (a t).requires.1);
        lies = sym (laid_nil 64 (place t) out (below_all (2 ^ 64) out (λ i. ((entry t).slice_known-1.given i).fits)));
      },
    )

put-ranks-requires : tie.Need-put_ranks-requires
put-ranks-requires c κs =
    let t = c.before.before.before in
    let p = (a t).requires in
    ((omega (arith, c.before.if-n-eq0.false), p.0), (omega (arith, p.1, p.2), omega (arith, p.1, p.3)))

same-length-2 : tie.Need-shape_of-out
same-length-2 c = search rules

returns-3 : tie.Need-returns
returns-3 c =
    let w = put c in
    let t = w.before.before.before.before in
    (refl, record { many = (a t).args.n; enough = omega arith; within = (a t).requires.1; lies = w.put_ranks.ensures })

pub store_ranks_spec : {M : Type 1} → statement M
store_ranks_spec =
    tie.close
    (tie.spec
    add-past
    add-place
    add-if1
    put-over-requires
    same_length
    returns
    returns-2
    put-ranks-requires
    same-length-2
    returns-3)
