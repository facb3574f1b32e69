-- `turns::inner::count_list_turns` meets its contract: an entry more counts what stands between it and the one before.
-- By the laws of entry after entry; at the end nothing is left but the last run's end. Assumes nothing.
use Rattle.std.proofs.Common.{◌≡◌, ◌+◌, length, List, ℕ, ap, arith}
use Rattle.rows.specs.Lists.{listed, Ascending}
use Rattle.rows.specs.Runs.{runs_of}
use Rattle.turns.proofs.ListTurnLaws.{list_turns, rest_of, rest_below, runs_listed, turns_few, turns_first, list_short, gaps_end, count_next}
use Rattle.turns.proofs.inner.count_list_turns.Goals as goal

all : (len : ℕ) (rows : List ℕ) → Ascending 0 len rows → length (runs_of (listed len rows)) ≡ length (list_turns rows)
all len rows a = ap length (runs_listed len rows a)

pub returns-in_default : goal.returns-in_default
returns-in_default c = omega (arith, all _ _ c.requires.1, turns_few c.args.rows.now)

pub loop-row-init : goal.loop-row-init
loop-row-init c = omega (arith, ap length (turns_first c.args.rows.now (omega arith)))

pub overflow_add-sum : goal.overflow_add-sum
overflow_add-sum c =
    omega (
      arith,
      c.loop-row.invariant,
      c.gap-sum.ensures,
      count_next c.loop-row.sum c.loop-row.past c.loop-row.row-index (rest_of c.args.rows.now) c.loop-row-test.true,
      turns_few c.args.rows.now,
      list_short _ _ c.requires.1,
    )

pub overflow_add-past-in-loop-row : goal.overflow_add-past-in-loop-row
overflow_add-past-in-loop-row c = omega (arith, rest_below _ _ c.loop-row.row-index c.requires.1 c.loop-row-test.true)

pub loop-row-preserved : goal.loop-row-preserved
loop-row-preserved c =
    omega (
      arith,
      c.loop-row.invariant,
      c.gap-sum.ensures,
      count_next c.loop-row.sum c.loop-row.past c.loop-row.row-index (rest_of c.args.rows.now) c.loop-row-test.true,
    )

ended : (c : goal.After-loop-row) → c.loop-row.sum + 1 ≡ length (list_turns c.args.rows.now)
ended c = omega (arith, c.loop-row.invariant, ap length (gaps_end c.loop-row.past c.loop-row.row-index (rest_of c.args.rows.now) c.loop-row-test.false))

pub overflow_add-result : goal.overflow_add-result
overflow_add-result c = omega (arith, ended c, turns_few c.args.rows.now, list_short _ _ c.requires.1)

pub returns : goal.returns
returns c = omega (arith, ended c, all _ _ c.requires.1)
