-- `in_runs::counts::count_rows` meets its contract: each form's rows are all set, none, or bits of its view; a list and runs are ruled out.
-- By the count of the form that the match tells. Assumes nothing.
use Prim.Native.Nat.{ℕ, ◌+◌, ◌≤◌}
use mathlib.Core.Path.{◌≡◌, sym, ap, subst, ◌∙◌}
use mathlib.Core.List.{[]}
use native.Mathlib.Omega.{arith}
use lib.ListN.{take, drop}
use borrow.Author.Rules.{rules}
use Rattle.rows.specs.Rows.{count}
use Rattle.rows.specs.Asks.{InView}
use Rattle.rules.specs.declared.Form.{Form}
use Rattle.rules.specs.Operand.{lent, rows_of, length_of}
use Rattle.operand.specs.Flat.{Flat}
use Rattle.in_runs.proofs.CountLaws.{all_count, none_count}
use Rattle.in_runs.proofs.UnderRunLaws.{read_under}
use Rattle.in_runs.proofs.counts.count_rows.Statement.{statement}
use Rattle.in_runs.proofs.counts.count_rows.Tie as tie

-- ---- the places, each from the one after it

abbrev start : tie.In-Words → tie.Start
start c = c.before.before

abbrev told : tie.After-struct_known-1 → tie.In-Words
told c = c.before

-- ---- what is asked of the operand, and what is to be counted, by what is known of its form

abbrev Asked : tie.Start → Form → Type 0
Asked s f = Flat (lent f s.args.words.now []) × (s.args.row.0 + s.args.n ≤ length_of f)

asked : (s : tie.Start) {f : Form} → s.args.form ≡ f → Asked s f
asked s e = subst (Asked s) e s.requires

abbrev counted : tie.Start → Form → ℕ
counted s f = count (take s.args.n (drop s.args.row.0 (rows_of (lent f s.args.words.now []))))

module _ (c : tie.In-Words) where
  abbrev first : ℕ
  first = c.in-Words.start

  abbrev len : ℕ
  len = c.in-Words.length

  required : InView first len (start c).args.words.now × ((start c).args.row.0 + (start c).args.n ≤ len)
  required = asked (start c) c.in-Words.is

-- ---- the answers

enum_told : tie.Need-enum_told-1
enum_told c = search rules

enum-told-2 : tie.Need-enum_told-in-None
enum-told-2 c = search rules

enum-known-form : tie.Need-enum_known-form
enum-known-form c = search rules

add-count-from : tie.Need-overflow_add-start
add-count-from c =
    let q = required (told c) in
    omega (arith, q.0.0, q.0.1, q.1)

count-from-requires : tie.Need-count_from-requires
count-from-requires c κs =
    let q = required (told c) in
    (omega (arith, q.0.0, q.1), omega (arith, q.0.2, q.1))

enum-told-3 : tie.Need-enum_told-in-List
enum-told-3 c = search rules

enum-told-4 : tie.Need-enum_told-in-Runs
enum-told-4 c = search rules

returns : tie.Need-returns-in-All
returns c =
    let s = c.before.before in
    let e = c.in-All.is in
    all_count s.args.row.0 s.args.n _ (asked s e).1 ∙ sym (ap (counted s) e)

returns-2 : tie.Need-returns-in-None
returns-2 c =
    let s = c.before.before in
    none_count s.args.row.0 s.args.n c.in-None.length ∙ sym (ap (counted s) c.in-None.is)

returns-3 : tie.Need-returns-in-Words
returns-3 c =
    let t = told c.before in
    let s = start t in
    c.count_from.ensures ∙ ap count (read_under (first t) (len t) s.args.row.0 s.args.n s.args.words.now (required t).1)
    ∙ sym (ap (counted s) t.in-Words.is)

returns-4 : tie.Need-returns-in-List
returns-4 c = absurd (asked c.before.before c.in-List.is).0

returns-5 : tie.Need-returns-in-Runs
returns-5 c = absurd (asked c.before.before c.in-Runs.is).0

pub count_rows_spec : {M : Type 1} → statement M
count_rows_spec =
    tie.close
    (tie.spec
    enum_told
    enum-told-2
    enum-known-form
    add-count-from
    count-from-requires
    enum-told-3
    enum-told-4
    returns
    returns-2
    returns-3
    returns-4
    returns-5)
