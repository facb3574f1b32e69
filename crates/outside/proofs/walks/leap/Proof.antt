-- `outside::walks::leap` meets its contract.
-- The invariant: both walks have come to the row, and before it no row is outside. The measure is what is left of the length. Assumes nothing.
use Prim.Native.Nat.{ℕ, ◌-◌, ◌≤◌}
use native.Mathlib.Omega.{arith}
use mathlib.Core.Path.{◌≡◌, sym, subst, ◌∙◌}
use mathlib.Core.Bool.{Bool}
use mathlib.Core.List.{List}
use borrow.Author.Rules.{rules}
use Rattle.rows.specs.Rows.{outside}
use Rattle.rules.specs.declared.Form.{Form}
use Rattle.rules.specs.Operand.{lent, rows_of, length_of}
use Rattle.outside.specs.First.{has, Clear, First, Reach}
use Rattle.outside.specs.Walks.{Walks}
use Rattle.outside.proofs.FirstLaws.{clear_none, first_none, leap_on, leap_found, leap_none}
use Rattle.outside.proofs.WalkLaws.{walks_later}
use Rattle.outside.proofs.walks.leap.Statement.{statement}
use Rattle.outside.proofs.walks.leap.Tie as tie

-- a mask's rows
abbrev rows : Form → List ℕ → List ℕ → List Bool
rows f ws es = rows_of (lent f ws es)

abbrev invariant-loop : tie.invariant-loop-row
invariant-loop s swords srows k kwords krows len snext₀ knext₀ row₀ snext knext row =
    (row ≤ len) × Walks s swords srows snext row × Walks k kwords krows knext row
    × Clear (has (outside (rows s swords srows) (rows k kwords krows))) 0 row

abbrev decreases-loop : tie.decreases-loop-row
decreases-loop s swords srows k kwords krows len snext₀ knext₀ row₀ snext knext row = len - row

-- ---- the places, each from the one after it
abbrev entry : tie.After-shared_slice_known-3-1 invariant-loop decreases-loop → tie.Start invariant-loop decreases-loop
entry c = c.before.before.before

abbrev start : tie.At-loop-row invariant-loop decreases-loop → tie.Start invariant-loop decreases-loop
start c = entry c.before.before.before

abbrev head : tie.After-next_set-set invariant-loop decreases-loop → tie.At-loop-row invariant-loop decreases-loop
head c = c.before.before

abbrev stood : tie.After-reach-full invariant-loop decreases-loop → tie.After-next_set-set invariant-loop decreases-loop
stood c = c.before.before

-- ---- both masks, and the length
module _ (c : tie.At-loop-row invariant-loop decreases-loop) where
  abbrev a : tie.Start invariant-loop decreases-loop
  a = start c

  abbrev S : List Bool
  S = rows a.args.s a.args.swords.now a.args.srows.now

  abbrev K : List Bool
  K = rows a.args.k a.args.kwords.now a.args.krows.now

  abbrev len : ℕ
  len = length_of a.args.k

  measured : c.before.length_of-len.result ≡ len
  measured = c.before.length_of-len.ensures

-- ---- a turn: the second mask's next row, and how far self has all from there on
module _ (c : tie.After-next_set-set invariant-loop decreases-loop) where
  abbrev here : ℕ
  here = c.next_set-set.result.row

  next : First (has (K (head c))) (head c).loop-row.row (len (head c)) here
  next = c.next_set-set.ensures.1

  behind : Clear (has (outside (S (head c)) (K (head c)))) 0 (head c).loop-row.row
  behind = (head c).loop-row.invariant.3

module _ (c : tie.After-reach-full invariant-loop decreases-loop) where
  abbrev h : tie.At-loop-row invariant-loop decreases-loop
  h = head (stood c)

  abbrev there : ℕ
  there = c.reach-full.result.row

  full : Reach (has (S h)) (here (stood c)) (length_of (a h).args.s) there
  full = c.reach-full.ensures.1

  ends : there ≤ len h
  ends = omega (arith, full.within, (a h).requires.2)

-- ---- the answers
length-of-requires : tie.Need-length_of-len-requires invariant-loop decreases-loop
length-of-requires c κs = search rules

loop-holds : tie.Need-loop-row-init invariant-loop decreases-loop
loop-holds c = let p = (entry c.before.before).requires in (omega arith, p.0, p.1, clear_none _ 0)

next-set-requires : tie.Need-next_set-set-requires invariant-loop decreases-loop
next-set-requires c κs = let i = c.before.loop-row.invariant in (i.2, omega (arith, i.0, measured c.before))

returns : tie.Need-returns-then-here-len invariant-loop decreases-loop
returns c =
    let s = c.before in
    let t = head s in
    subst (λ (r : ℕ). First (has (outside (S t) (K t))) 0 (len t) r) (sym (measured t))
    (leap_none (S t) (K t) t.loop-row.row (here s) (len t) (behind s) (next s) (c.if-here-len.true ∙ measured t))

reach-requires : tie.Need-reach-full-requires invariant-loop decreases-loop
reach-requires c κs =
    let s = c.before in
    let t = head s in (
      walks_later (a t).args.s (a t).args.swords.now (a t).args.srows.now t.loop-row.snext t.loop-row.row (here s) (next s).on t.loop-row.invariant.1,
      omega (arith, (next s).within, c.if-here-len.false, measured t, (a t).requires.2),
    )

returns-2 : tie.Need-returns-then-there-here invariant-loop decreases-loop
returns-2 c =
    let s = stood c.before in
    let t = head s in
    leap_found (S t) (K t) t.loop-row.row (here s) (len t) (behind s) (next s)
    (omega (arith, (next s).within, c.before.before.if-here-len.false, measured t))
    ((full c.before).stuck c.if-there-here.true)

loop-less : tie.Need-loop-row-smaller invariant-loop decreases-loop
loop-less c =
    let s = stood c.before in
    omega (arith, (next s).on, (full c.before).on, c.if-there-here.false, ends c.before, measured (head s))

loop-again : tie.Need-loop-row-preserved invariant-loop decreases-loop
loop-again c =
    let r = c.before in
    let s = stood r in
    let t = head s in (
      omega (arith, ends r, measured t),
      r.reach-full.ensures.0,
      walks_later (a t).args.k (a t).args.kwords.now (a t).args.krows.now _ (here s) (there r) (full r).on s.next_set-set.ensures.0,
      leap_on (S t) (K t) t.loop-row.row (here s) (len t) (behind s) (next s) (length_of (a t).args.s) (there r) (full r),
    )

returns-3 : tie.Need-returns invariant-loop decreases-loop
returns-3 c =
    let t = c.before in
    let i = t.loop-row.invariant in
    subst (λ (r : ℕ). First (has (outside (S t) (K t))) 0 (len t) r) (sym (measured t))
    (first_none (has (outside (S t) (K t))) 0 (len t) (omega arith) (λ k h l. i.3 k h (omega (arith, measured t, c.loop-row-test.false))))

pub leap_spec : {M : Type 1} → statement M
leap_spec =
    tie.close
    (tie.spec
    invariant-loop
    decreases-loop
    length-of-requires
    loop-holds
    next-set-requires
    returns
    reach-requires
    returns-2
    loop-less
    loop-again
    returns-3)
