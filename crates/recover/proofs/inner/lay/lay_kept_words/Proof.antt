-- `recover::inner::lay::lay_kept_words` meets its contract: each kernel's rows are the operands'.
-- By what acceptance gives for an operand in words and for one in runs. Assumes nothing.
use Prim.Native.Nat.{ℕ}
use mathlib.Core.Path.{◌≡◌, sym, ap, ap₂, subst, ◌∙◌}
use mathlib.Core.Bool.{Bool}
use mathlib.Core.List.{List}
use borrow.Author.Rules.{rules}
use Rattle.rows.specs.Rows.{count, recover}
use Rattle.rows.specs.Words.{view}
use Rattle.rows.specs.Runs.{Apart, in_runs, run_lengths}
use Rattle.rows.specs.Laid.{laid}
use Rattle.rows.specs.Asks.{InView, Room}
use Rattle.rules.specs.Operand.{Operand, lent, rows_of, length_of, count_of}
use Rattle.rules.proofs.OperandLaws.{accepted_count}
use Rattle.operand.specs.Flat.{start_of}
use Rattle.operand.proofs.FlatLaws.{accepted_words, accepted_runs}
use Rattle.recover.proofs.inner.lay.lay_kept_words.Statement.{statement}
use Rattle.recover.proofs.inner.lay.lay_kept_words.Tie as tie

-- ---- the places, each from the one after it

abbrev words-lent : tie.After-slice_known-1 → tie.After-shared_slice_known-2-1
words-lent c = c.before.before.before

abbrev measured : tie.After-has_words → tie.After-start_of-from
measured c = c.before

abbrev start : tie.After-has_words → tie.Start
start c = (words-lent (measured c).before.before).before.before

abbrev asked : tie.After-has_runs → tie.After-has_words
asked c = c.before.before

-- ---- the operands, and the second mask as it is read: so many rows from a bit of its words on

module _ (c : tie.After-has_words) where
  abbrev s : tie.Start
  s = start c

  abbrev self : Operand
  self = lent s.args.s.form s.args.swords.now s.args.srows.now

  abbrev other : Operand
  other = lent s.args.k s.args.kwords.now s.args.krows.now

  abbrev len : ℕ
  len = (measured c).before.length_of-len.result

  abbrev from : ℕ
  from = (measured c).start_of-from.result

  long : len ≡ length_of s.args.s.form
  long = (measured c).before.length_of-len.ensures

  his : InView (start_of s.args.k) (length_of s.args.k) s.args.kwords.now × (rows_of other ≡ view (start_of s.args.k) (length_of s.args.k) s.args.kwords.now)
  his = accepted_words other s.requires.1 s.requires.0.kept

  other_rows : view from len s.args.kwords.now ≡ rows_of other
  other_rows =
      ap₂ (λ (x y : ℕ). view x y s.args.kwords.now) (measured c).start_of-from.ensures (long ∙ sym s.requires.0.lengths) ∙ sym his.1

  other_view : InView from len s.args.kwords.now
  other_view =
      subst (λ (p : ℕ × ℕ). InView p.0 p.1 s.args.kwords.now)
      (λ i. (sym (measured c).start_of-from.ensures i, (s.requires.0.lengths ∙ sym long) i)) his.0

-- ---- self in words

module _ (c : tie.After-start_of-start) where
  abbrev t : tie.After-has_words
  t = c.before.before

  own : InView (start_of (s t).args.s.form) (length_of (s t).args.s.form) (s t).args.swords.now × (rows_of (self t) ≡ view (start_of (s t).args.s.form) (length_of (s t).args.s.form) (s t).args.swords.now)
  own = accepted_words (self t) (sym t.has_words.ensures ∙ c.before.if-has_words.true) (s t).requires.0.self

  own_rows : view c.start_of-start.result (len t) (s t).args.swords.now ≡ rows_of (self t)
  own_rows = ap₂ (λ (x y : ℕ). view x y (s t).args.swords.now) c.start_of-start.ensures (long t) ∙ sym own.1

  own_view : InView c.start_of-start.result (len t) (s t).args.swords.now
  own_view =
      subst (λ (p : ℕ × ℕ). InView p.0 p.1 (s t).args.swords.now) (λ i. (sym c.start_of-start.ensures i, sym (long t) i)) own.0

  counted : (s t).args.s.count ≡ count (view c.start_of-start.result (len t) (s t).args.swords.now)
  counted = (s t).requires.2 ∙ sym (ap count own_rows ∙ accepted_count (self t) (s t).requires.0.self)

  room : Room (s t).args.at (count (view c.start_of-start.result (len t) (s t).args.swords.now)) (s t).args.out.now
  room =
      subst (λ (n : ℕ). Room (s t).args.at n (s t).args.out.now)
      (sym (ap count own_rows ∙ accepted_count (self t) (s t).requires.0.self)) (s t).requires.3

-- ---- self in runs

module _ (c : tie.Then-has_runs) where
  abbrev u : tie.After-has_words
  u = asked c.before

  abbrev runs : List ℕ
  runs = (s u).args.srows.now

  in_runs_lem : Apart 0 (length_of (s u).args.s.form) runs × (rows_of (self u) ≡ in_runs (length_of (s u).args.s.form) runs) × (count_of (self u) ≡ run_lengths runs)
  in_runs_lem = accepted_runs (self u) (sym c.before.has_runs.ensures ∙ c.if-has_runs.true) (s u).requires.0.self

  runs_rows : in_runs (len u) runs ≡ rows_of (self u)
  runs_rows = ap (λ (n : ℕ). in_runs n runs) (long u) ∙ sym in_runs_lem.1

-- ---- the answers

length-of-requires : tie.Need-length_of-len-requires
length-of-requires c κs = search rules

start-of-requires : tie.Need-start_of-from-requires
start-of-requires c κs = search rules

has-words-requires : tie.Need-has_words-requires
has-words-requires c κs = search rules

start-of-requires-2 : tie.Need-start_of-start-requires
start-of-requires-2 c κs = search rules

way-requires : tie.Need-way-requires
way-requires c κs = search rules

recover-words-requires : tie.Need-recover_words-requires
recover-words-requires c κs =
    let k = c.before.before in
    (own_view k, other_view (t k), counted k, room k)

same_length : tie.Need-shape_of-out-then-has_words
same_length c = search rules

returns : tie.Need-returns-then-has_words
returns c =
    let w = c.before.before in
    let k = w.before.before.before in
    let a = (s (t k)).args in
    w.recover_words.ensures ∙ ap₂ (λ (x y : List Bool). laid a.at (recover x y) a.out.now) (own_rows k) (other_rows (t k))

has-runs-requires : tie.Need-has_runs-requires
has-runs-requires c κs = search rules

recover-under-runs-requires : tie.Need-recover_under_runs-requires
recover-under-runs-requires c κs =
    let k = c.before in
    let b = s (u k) in (
      subst (λ (n : ℕ). Apart 0 n (runs k)) (sym (long (u k))) (in_runs_lem k).0,
      other_view (u k),
      subst (λ (n : ℕ). Room b.args.at n b.args.out.now) (in_runs_lem k).2 b.requires.3,
    )

same-length-2 : tie.Need-shape_of-out-then-has_runs
same-length-2 c = search rules

returns-2 : tie.Need-returns-then-has_runs
returns-2 c =
    let w = c.before.before in
    let k = w.before.before in
    let a = (s (u k)).args in
    w.recover_under_runs.ensures ∙ ap₂ (λ (x y : List Bool). laid a.at (recover x y) a.out.now) (runs_rows k) (other_rows (u k))

recover-chunks-requires : tie.Need-recover_chunks-requires
recover-chunks-requires c κs =
    let p = (s (asked c.before.before)).requires in
    (p.0.self, p.0.kept, p.0.lengths, p.2, p.3)

same-length-3 : tie.Need-shape_of-out
same-length-3 c = search rules

returns-3 : tie.Need-returns
returns-3 c = c.before.before.recover_chunks.ensures

pub lay_kept_words_spec : {M : Type 1} → statement M
lay_kept_words_spec =
    tie.close
    (tie.spec
    length-of-requires
    start-of-requires
    has-words-requires
    start-of-requires-2
    way-requires
    recover-words-requires
    same_length
    returns
    has-runs-requires
    recover-under-runs-requires
    same-length-2
    returns-2
    recover-chunks-requires
    same-length-3
    returns-3)
