-- `books::inner::run_bits` meets its contract.
-- A turn gathers one run more, by the laws of a window gathered run by run; where the runs end, the walk is past them all.
use Rattle.std.proofs.Common.{◌≡◌, ℕ, ◌+◌, ◌≤◌, List, length, drop, sym, ◌∙◌, subst, refl, arith}
use lib.Bits.{bit_or}
use Rattle.rows.specs.Word.{word_of}
use Rattle.books.specs.Windows.{window, Reached, ended_before}
use Rattle.books.proofs.RunBitLaws.{Gathering, gathering_none, gathering_next, gathering_run, gathering_stop, gathering_end, ended_none, ended_here, ended_on}
use Rattle.books.proofs.inner.run_bits.Goals as goal
use Rattle.books.proofs.inner.run_bits.Goals.{else-loop-i-test, then-loop-i-test+else-end-past+else-i-end-i-gt2}

-- no run is left
all_passed : (runs : List ℕ) (base n next i bits k : ℕ) → Gathering runs base n i bits
    → next + ended_before (base + n) (drop next runs) ≡ i + ended_before (base + n) (drop i runs) → length runs ≤ i → k ≡ i
    → (bits ≡ word_of (window base n runs)) × Reached runs k (base + n) × (k ≡ next + ended_before (base + n) (drop next runs))
all_passed runs base n next i bits k g e h is =
    let t = gathering_end runs base n i bits g h in
    (t.0, subst (λ (j : ℕ). Reached runs j (base + n)) (sym is) t.1, is ∙ sym (e ∙ ended_none (base + n) 0 0 i runs h))

pub loop-i-init : goal.loop-i-init
loop-i-init c = (gathering_none c.args.runs.now c.args.base c.args.n c.args.next c.requires.2, omega arith, refl)

pub returns-then-end-past : goal.returns-then-end-past
returns-then-end-past c =
    let a = c.args in
    let l = c.loop-i in
    let runs = a.runs.now in
    let next = gathering_next runs a.base a.n l.i l.bits l.invariant.0 c.loop-i-test.true in
    let g = gathering_stop runs a.base a.n l.i l.bits l.invariant.0 c.loop-i-test.true c.bits_in_run-bits.result c.bits_in_run-bits.ensures c.if-end-past.true in
    (g.0, g.1, sym (l.invariant.2 ∙ ended_here (a.base + a.n) l.invariant.0.from 1048576 l.i runs next c.if-end-past.true))

pub loop-i-preserved : goal.loop-i-preserved
loop-i-preserved c =
    let a = c.args in
    let l = c.loop-i in
    let runs = a.runs.now in
    let next = gathering_next runs a.base a.n l.i l.bits l.invariant.0 c.loop-i-test.true in (
      gathering_run runs a.base a.n l.i l.bits l.invariant.0 c.loop-i-test.true c.bits_in_run-bits.result c.bits_in_run-bits.ensures (omega arith),
      omega arith,
      l.invariant.2 ∙ ended_on (a.base + a.n) l.invariant.0.from 1048576 l.i runs next c.if-end-past.false,
    )

pub returns : goal.returns
returns c =
    let a = c.args in
    let l = c.loop-i in
    let runs = a.runs.now in
    elim c.loop-i-test.branch [
      | else-loop-i-test w ↦
          rw w.bits-is (all_passed runs a.base a.n a.next l.i l.bits c.max.result l.invariant.0 l.invariant.2 w.loop-i-test.false (omega arith))
      | then-loop-i-test+else-end-past+else-i-end-i-gt2 w ↦
          let next = gathering_next runs a.base a.n l.i l.bits l.invariant.0 w.loop-i-test.true in
          rw w.bits-is
          (all_passed runs a.base a.n a.next (l.i + 2) (bit_or l.bits w.bits_in_run-bits.result) c.max.result
          (gathering_run runs a.base a.n l.i l.bits l.invariant.0 w.loop-i-test.true w.bits_in_run-bits.result w.bits_in_run-bits.ensures (omega arith))
          (l.invariant.2 ∙ ended_on (a.base + a.n) l.invariant.0.from 1048576 l.i runs next w.if-end-past.false) (omega arith) (omega (arith, next.pair)))
    ]
