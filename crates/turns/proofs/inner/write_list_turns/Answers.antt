-- `turns::inner::write_list_turns` meets its contract: an entry more stores what stands between it and the one before.
-- By the laws of entry after entry; at the end nothing is left but the last run's end. Assumes nothing.
use Rattle.std.proofs.Common.{◌≡◌, ◌+◌, ◌≤◌, ◌∙◌, length, drop, get_or, List, ℕ, sym, ap, ap₂, arith}
use Rattle.std.proofs.Math.ListN.{length-set}
use Rattle.rows.specs.Rows.{splice}
use Rattle.rows.specs.Lists.{listed, Ascending}
use Rattle.rows.specs.Runs.{runs_of}
use Rattle.rows.proofs.SpliceLaws.{splice_nil}
use Rattle.turns.proofs.ListTurnLaws.{
  gaps,
  list_turns,
  rest_of,
  rest_below,
  runs_listed,
  turns_few,
  turns_none,
  turns_first,
  list_short,
  gaps_end,
  count_next,
  gap_written,
  first_written,
  end_written,
}
use Rattle.turns.proofs.inner.write_list_turns.Goals as goal

-- there is room for all
room : (len : ℕ) (rows out : List ℕ) → Ascending 0 len rows → length (runs_of (listed len rows)) ≤ length out → length (list_turns rows) ≤ length out
room len rows out a h = omega (arith, h, ap length (runs_listed len rows a))

pub returns-in_default : goal.returns-in_default
returns-in_default c =
    let out = c.args.out.now in
    sym (ap (splice 0 out) (runs_listed _ _ c.requires.1 ∙ turns_none c.args.rows.now (omega arith)) ∙ splice_nil 0 out)

pub bounds-out-0 : goal.bounds-out-0
bounds-out-0 c = omega (arith, room _ _ _ c.requires.1 c.requires.2, ap length (turns_first c.args.rows.now (omega arith)))

pub loop-row-init : goal.loop-row-init
loop-row-init c =
    let first = turns_first c.args.rows.now (omega arith) in record {
      counted = omega (arith, ap length first);
      written = first_written c.args.rows.now c.args.out.now (omega arith) (omega (arith, room _ _ _ c.requires.1 c.requires.2, ap length first));
    }

pub write_gap-k-requires : goal.write_gap-k-requires
write_gap-k-requires c =
    omega (
      arith,
      c.loop-row.invariant.counted,
      count_next c.loop-row.k c.loop-row.past c.loop-row.row-index (rest_of c.args.rows.now) c.loop-row-test.true,
      room _ _ _ c.requires.1 c.requires.2,
      length-set c.args.out.now 0 (get_or c.args.rows.now 0 0),
    )

pub overflow_add-past-in-loop-row : goal.overflow_add-past-in-loop-row
overflow_add-past-in-loop-row c = omega (arith, rest_below _ _ c.loop-row.row-index c.requires.1 c.loop-row-test.true, c.requires.0)

pub loop-row-preserved : goal.loop-row-preserved
loop-row-preserved c =
    let l = c.loop-row in
    let rest = rest_of c.args.rows.now in record {
      counted = omega (arith, l.invariant.counted, c.write_gap-k.ensures.0, count_next l.k l.past l.row-index rest c.loop-row-test.true);
      written =
          ap₂ (λ (j : ℕ) (o : List ℕ). splice j o (gaps (get_or rest l.row-index 0 + 1) (drop (l.row-index + 1) rest)))
          c.write_gap-k.ensures.0 c.write_gap-k.ensures.1
          ∙ gap_written l.k l.past l.row-index rest l.out c.loop-row-test.true
          ∙ l.invariant.written;
    }

-- nothing is left but the last run's end
last : (c : goal.After-loop-row) → c.loop-row.k + 1 ≡ length (list_turns c.args.rows.now)
last c =
    let l = c.loop-row in
    omega (arith, l.invariant.counted, ap length (gaps_end l.past l.row-index (rest_of c.args.rows.now) c.loop-row-test.false))

pub offset_bounds-out-k : goal.offset_bounds-out-k
offset_bounds-out-k c = omega (arith, last c, turns_few c.args.rows.now, list_short _ _ c.requires.1, c.requires.0)

pub bounds-out-k : goal.bounds-out-k
bounds-out-k c = omega (arith, last c, room _ _ _ c.requires.1 c.requires.2, length-set c.args.out.now 0 (get_or c.args.rows.now 0 0))

pub returns : goal.returns
returns c =
    let l = c.loop-row in
    end_written l.k l.past l.row-index (rest_of c.args.rows.now) l.out c.loop-row-test.false
    ∙ l.invariant.written
    ∙ ap (splice 0 c.args.out.now) (sym (runs_listed _ _ c.requires.1))
