-- `recover::inner::lay::lay_recovery` meets its contract: by the form of the second mask.
-- By the contracts of what is called, and what acceptance gives for an operand in runs. Assumes nothing.
use Prim.Native.Nat.{ℕ}
use mathlib.Core.Path.{◌≡◌, sym, ap, subst, ◌∙◌}
use mathlib.Core.Bool.{Bool}
use mathlib.Core.List.{List}
use borrow.Author.Rules.{rules}
use Rattle.rows.specs.Rows.{count, recover, outside}
use Rattle.rows.specs.Runs.{Apart, in_runs, run_lengths}
use Rattle.rows.specs.Laid.{laid}
use Rattle.rules.specs.Operand.{Operand, lent, rows_of, length_of, count_of}
use Rattle.operand.proofs.FlatLaws.{accepted_runs}
use Rattle.recover.proofs.inner.lay.lay_recovery.Statement.{statement}
use Rattle.recover.proofs.inner.lay.lay_recovery.Tie as tie

-- ---- the places, each from the one after it

abbrev words-lent : tie.After-slice_known-1 → tie.After-shared_slice_known-2-1
words-lent c = c.before.before.before

abbrev start : tie.After-has_words → tie.Start
start c = (words-lent c.before).before.before

abbrev asked : tie.After-has_runs → tie.Start
asked c = start c.before.before

-- ---- the second mask in runs

module _ (c : tie.Then-has_runs) where
  abbrev s : tie.Start
  s = asked c.before

  abbrev self : Operand
  self = lent s.args.s.form s.args.swords.now s.args.srows.now

  abbrev other : Operand
  other = lent s.args.k s.args.kwords.now s.args.krows.now

  abbrev runs : List ℕ
  runs = s.args.krows.now

  in_runs_lem : Apart 0 (length_of s.args.k) runs × (rows_of other ≡ in_runs (length_of s.args.k) runs) × (count_of other ≡ run_lengths runs)
  in_runs_lem = accepted_runs other (sym c.before.has_runs.ensures ∙ c.if-has_runs.true) s.requires.0.kept

  -- of self's length
  runs_rows : rows_of other ≡ in_runs (length_of s.args.s.form) runs
  runs_rows = in_runs_lem.1 ∙ ap (λ (n : ℕ). in_runs n runs) s.requires.0.lengths

-- ---- the answers

has-words-requires : tie.Need-has_words-requires
has-words-requires c κs = search rules

lay-kept-words-requires : tie.Need-lay_kept_words-requires
lay-kept-words-requires c κs =
    let t = c.before in
    let p = (start t.before).requires in
    (p.0, sym t.before.has_words.ensures ∙ t.if-has_words.true, p.1, p.2)

same_length : tie.Need-shape_of-out-then-has_words
same_length c = search rules

returns : tie.Need-returns-then-has_words
returns c = c.before.before.lay_kept_words.ensures

has-runs-requires : tie.Need-has_runs-requires
has-runs-requires c κs = search rules

recover-runs-requires : tie.Need-recover_runs-requires
recover-runs-requires c κs =
    let k = c.before in
    let p = (s k).requires in (
      p.0.self,
      p.1,
      subst (λ (n : ℕ). Apart 0 n (runs k)) p.0.lengths (in_runs_lem k).0,
      ap (λ (l : List Bool). count (outside (rows_of (self k)) l)) (sym (runs_rows k)) ∙ p.0.inside,
      p.2,
    )

same-length-2 : tie.Need-shape_of-out-then-has_runs
same-length-2 c = search rules

returns-2 : tie.Need-returns-then-has_runs
returns-2 c =
    let w = c.before.before in
    let k = w.before.before in
    let a = (s k).args in
    w.recover_runs.ensures ∙ ap (λ (l : List Bool). laid a.at (recover (rows_of (self k)) l) a.out.now) (sym (runs_rows k))

recover-chunks-requires : tie.Need-recover_chunks-requires
recover-chunks-requires c κs =
    let p = (asked c.before.before).requires in
    (p.0.self, p.0.kept, p.0.lengths, p.1, p.2)

same-length-3 : tie.Need-shape_of-out
same-length-3 c = search rules

returns-3 : tie.Need-returns
returns-3 c = c.before.before.recover_chunks.ensures

pub lay_recovery_spec : {M : Type 1} → statement M
lay_recovery_spec =
    tie.close
    (tie.spec
    has-words-requires
    lay-kept-words-requires
    same_length
    returns
    has-runs-requires
    recover-runs-requires
    same-length-2
    returns-2
    recover-chunks-requires
    same-length-3
    returns-3)
