-- `extracts::chunks::rows_in_chunk` meets its contract: a list's entries, runs, or what is read of the other forms.
-- By what each form's walk tells of its rows. Assumes nothing.
use Prim.Native.Nat.{◌+◌, ◌^◌, ◌<◌}
use native.Mathlib.Omega.{arith}
use mathlib.Core.Path.{◌≡◌, sym, ◌∙◌}
use mathlib.Core.Bool.{true, false}
use borrow.Author.Rules.{rules}
use Rattle.rules.specs.Operand.{Operand, lent}
use Rattle.rules.proofs.OperandLaws.{accepted_limit}
use Rattle.operand.specs.Flat.{has_row_numbers, has_runs, Flat}
use Rattle.operand.proofs.FlatLaws.{accepted_flat}
use Rattle.extracts.proofs.WalkLaws.{list_told, runs_told_lem, flat_told, list_came, runs_came}
use Rattle.extracts.proofs.chunks.rows_in_chunk.Statement.{statement}
use Rattle.extracts.proofs.chunks.rows_in_chunk.Tie as tie

-- ---- the places, each from the one after it

abbrev start : tie.After-has_row_numbers → tie.Start
start c = c.before.before.before

abbrev other : tie.After-has_runs → tie.After-has_row_numbers
other c = c.before.before

-- ---- the operand

module _ (c : tie.Start) where
  abbrev o : Operand
  o = lent c.args.form c.args.words.now c.args.numbers.now

  far : c.args.row.0 + c.args.n < 2 ^ 64
  far = omega (arith, accepted_limit o c.requires.0, c.requires.2)

listed : (c : tie.Then-has_row_numbers) → has_row_numbers (start c.before).args.form ≡ true
listed c = sym c.before.has_row_numbers.ensures ∙ c.if-has_row_numbers.true

unlisted : (c : tie.Else-has_row_numbers) → has_row_numbers (start c.before).args.form ≡ false
unlisted c = sym c.before.has_row_numbers.ensures ∙ c.if-has_row_numbers.false

in_runs_lem : (c : tie.Then-has_runs) → has_runs (start (other c.before)).args.form ≡ true
in_runs_lem c = sym c.before.has_runs.ensures ∙ c.if-has_runs.true

no_runs_lem : (c : tie.Else-has_runs) → has_runs (start (other c.before)).args.form ≡ false
no_runs_lem c = sym c.before.has_runs.ensures ∙ c.if-has_runs.false

read : (c : tie.Else-has_runs) → Flat (o (start (other c.before)))
read c =
    let s = start (other c.before) in
    accepted_flat (o s) (unlisted c.before.before) (no_runs_lem c) s.requires.0

-- ---- the answers

has-row-numbers-requires : tie.Need-has_row_numbers-requires
has-row-numbers-requires c κs = search rules

entry-bits-requires : tie.Need-entry_bits-requires
entry-bits-requires c κs =
    let s = start c.before in
    let a = s.args in
    (omega (arith, s.requires.1), far s, list_came (o s) a.next a.row.0 (listed c) s.requires.3)

returns : tie.Need-returns-then-has_row_numbers
returns c =
    let t = c.before in
    let s = start t.before in
    let a = s.args in
    list_told (o s) a.row.0 a.n s.requires.2 _ _ (listed t) c.entry_bits.ensures

has-runs-requires : tie.Need-has_runs-requires
has-runs-requires c κs = search rules

run-bits-requires : tie.Need-run_bits-requires
run-bits-requires c κs =
    let s = start (other c.before) in
    let a = s.args in
    (s.requires.1.1, far s, runs_came (o s) a.next a.row.0 (in_runs_lem c) s.requires.3)

returns-2 : tie.Need-returns-then-has_runs
returns-2 c =
    let t = c.before in
    let s = start (other t.before) in
    let a = s.args in
    let e = c.run_bits.ensures in
    runs_told_lem (o s) a.row.0 a.n s.requires.2 _ _ (in_runs_lem t) e.0 e.1

chunk-of-requires : tie.Need-chunk_of-bits-requires
chunk-of-requires c κs =
    let s = start (other c.before) in
    (read c, s.requires.1, s.requires.2)

returns-3 : tie.Need-returns
returns-3 c =
    let t = c.before in
    let s = start (other t.before) in
    let a = s.args in
    flat_told (o s) a.row.0 a.n s.requires.2 _ _ (unlisted t.before.before) (no_runs_lem t) (read t) c.chunk_of-bits.ensures

pub rows_in_chunk_spec : {M : Type 1} → statement M
rows_in_chunk_spec =
    tie.close
    (tie.spec
    has-row-numbers-requires
    entry-bits-requires
    returns
    has-runs-requires
    run-bits-requires
    returns-2
    chunk-of-requires
    returns-3)
