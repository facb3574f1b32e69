-- `books::inner::bits_in_run` meets its contract: nothing where the run ends before it begins, and else ones moved up to its beginning.
-- By the laws of one run in a window. Assumes nothing.
use Prim.Native.Nat.{ℕ, ◌-◌, ◌*◌, ◌%◌, ◌^◌}
use native.Mathlib.Omega.{arith}
use mathlib.Core.Path.{◌≡◌, ap, ap₂, ◌∙◌}
use borrow.Author.Rules.{rules}
use Rattle.books.specs.Windows.{into}
use Rattle.books.proofs.RunBitLaws.{run_none, run_some}
use Rattle.books.proofs.inner.bits_in_run.Statement.{statement}
use Rattle.books.proofs.inner.bits_in_run.Tie as tie

-- ---- the places, each from the one after it

abbrev start : tie.After-into_window-end → tie.Start
start c = c.before.before

abbrev chosen : tie.Else-end-begin → tie.After-into_window-end
chosen c = c.before

-- ---- where the run begins in the window, and where it ends

module _ (c : tie.After-into_window-end) where
  begin_is : c.before.into_window-begin.result ≡ into (start c).args.base (start c).args.n (start c).args.first
  begin_is = c.before.into_window-begin.ensures

  end_is : c.into_window-end.result ≡ into (start c).args.base (start c).args.n (start c).args.past
  end_is = c.into_window-end.ensures

-- ---- the answers

into-window-requires : tie.Need-into_window-begin-requires
into-window-requires c κs = search rules

into-window-requires-2 : tie.Need-into_window-end-requires
into-window-requires-2 c κs = search rules

returns : tie.Need-returns-then-end-begin
returns c =
    let t = c.before in
    let a = (start t).args in
    run_none a.first a.past a.base a.n (omega (arith, t.before.into_window-begin.ensures, t.into_window-end.ensures))

sub-ones : tie.Need-overflow_sub-end
sub-ones c = omega arith

ones-requires : tie.Need-ones-requires
ones-requires c κs = (omega arith, omega (arith, end_is (chosen c), (start (chosen c)).requires.0))

shl-result : tie.Need-overflow_shl-result
shl-result c =
    let t = chosen c.before in
    omega (arith, end_is t, (start t).requires.0)

returns-2 : tie.Need-returns
returns-2 c =
    let t = chosen c.before in
    let a = (start t).args in
    let long : t.into_window-end.result - t.before.into_window-begin.result ≡ into a.base a.n a.past - into a.base a.n a.first =
    ap₂ (λ (x y : ℕ). x - y) (end_is t) (begin_is t) in
    ap₂ (λ (x y : ℕ). (x * 2 ^ y) % 2 ^ 64) (c.ones.ensures ∙ ap (λ (k : ℕ). 2 ^ k - 1) long) (begin_is t)
    ∙ run_some a.first a.past a.base a.n (omega (arith, end_is t, begin_is t)) (omega (arith, (start t).requires.0))

pub bits_in_run_spec : {M : Type 1} → statement M
bits_in_run_spec =
    tie.close
    (tie.spec
    into-window-requires
    into-window-requires-2
    returns
    sub-ones
    ones-requires
    shl-result
    returns-2)
