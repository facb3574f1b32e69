-- `by_route::words::keep_in_words` meets its contract: of self's rows the runs of ranks are kept.
-- Self's rows are those of its words in view. Assumes nothing.
use Prim.Native.Nat.{ℕ}
use mathlib.Core.Path.{◌≡◌, sym, ap, ap₂, ◌∙◌, subst}
use mathlib.Core.Bool.{Bool}
use mathlib.Core.List.{List}
use native.Mathlib.Omega.{arith}
use borrow.Author.Rules.{rules}
use Rattle.rows.specs.Rows.{count, compose}
use Rattle.rows.specs.Words.{view}
use Rattle.rows.specs.Runs.{in_runs, Apart}
use Rattle.rows.specs.Laid.{laid}
use Rattle.rows.specs.Asks.{Room, InView}
use Rattle.rules.specs.Operand.{Operand, lent, rows_of, length_of, count_of, Accepted}
use Rattle.rules.proofs.OperandLaws.{accepted_count}
use Rattle.operand.specs.Flat.{start_of}
use Rattle.by_route.proofs.FitsLaws.{in_words}
use Rattle.by_route.proofs.words.keep_in_words.Statement.{statement}
use Rattle.by_route.proofs.words.keep_in_words.Tie as tie

-- ---- the places, each from the one after it: self's start asked, its length, and its rows kept

abbrev entry : tie.After-slice_known-1 → tie.Start
entry c = c.before.before.before.before

abbrev started : tie.After-length_of → tie.After-start_of
started c = c.before

abbrev measured : tie.After-keep_words → tie.After-length_of
measured c = c.before.before

abbrev kept : tie.After-slice_known-2-1 → tie.After-keep_words
kept c = c.before.before

-- ---- self

module _ (c : tie.After-length_of) where
  abbrev s : tie.Start
  s = entry (started c).before

  abbrev self : Operand
  self = lent s.args.s s.args.swords.now s.args.srows.now

  abbrev well : Accepted self
  well = s.requires.0

  abbrev len : ℕ
  len = c.length_of.result

  abbrev runs : List ℕ
  runs = s.args.rruns.now

  abbrev from : ℕ
  from = (started c).start_of.result

  long : len ≡ length_of self.form
  long = c.length_of.ensures

  begins : from ≡ start_of self.form
  begins = (started c).start_of.ensures

  -- its rows are those of its words in view
  shown : view from len self.words ≡ rows_of self
  shown = ap₂ (λ (k n : ℕ). view k n self.words) begins long ∙ sym (in_words self s.requires.1 well).rows

  in_view_lem : InView from len self.words
  in_view_lem =
      let v = (in_words self s.requires.1 well).in_view in
      (omega (arith, long, v.0), omega (arith, begins, v.1), omega (arith, long, begins, v.2))

  counted : count (view from len self.words) ≡ count_of self
  counted = ap count shown ∙ accepted_count self well

  room : Room s.args.at len s.args.out.now
  room = (omega (arith, long, s.requires.3.0), omega (arith, long, s.requires.3.1))

-- ---- the answers

start-of-requires : tie.Need-start_of-requires
start-of-requires c κs = search rules

length-of-requires : tie.Need-length_of-requires
length-of-requires c κs = search rules

keep-words-requires : tie.Need-keep_words-requires
keep-words-requires c κs =
    let m = c.before in
    (in_view_lem m, room m, subst (λ (k : ℕ). Apart 0 k (runs m)) (sym (counted m)) (s m).requires.2)

same_length : tie.Need-shape_of-out
same_length c = search rules

returns : tie.Need-returns
returns c =
    let k = kept c in
    let m = measured k in
    k.keep_words.ensures.1
    ∙ ap₂ (λ (v : List Bool) (n : ℕ). laid (s m).args.at (compose v (in_runs n (runs m))) (s m).args.out.now) (shown m) (counted m)

pub keep_in_words_spec : {M : Type 1} → statement M
keep_in_words_spec = tie.close (tie.spec start-of-requires length-of-requires keep-words-requires same_length returns)
