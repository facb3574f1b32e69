-- `kept::entries::mark_span`: each turn marks one entry, and past the last none is left.
-- By the law of one entry more.
use Rattle.std.proofs.Common.{ℕ, ◌+◌, ◌-◌, ◌≡◌, sym, ap, ◌∙◌, true, [], ◌∷◌, take, drop, arith}
use Rattle.rows.specs.Laid.{laid, marked}
use Rattle.rows.proofs.MarkLaws.{below_at}
use Rattle.marks.specs.Entries.{entries}
use Rattle.kept.proofs.EntrySpanLaws.{span_next}
use Rattle.kept.proofs.entries.mark_span.Goals as goal

pub mark_row-requires : goal.mark_row-requires
mark_row-requires c =
    let within = below_at c.args.len (entries c.args.numbers c.args.rows.now) c.loop-i.i c.requires.0 (omega arith) in
    let is = c.entry_at-row.ensures in
    (omega (arith, within, is), omega (arith, within, is))

pub loop-i-preserved : goal.loop-i-preserved
loop-i-preserved c =
    let all = entries c.args.numbers c.args.rows.now in
    let next = c.loop-i.i + 1 in
    let one = c.mark_row.ensures ∙ ap (λ (x : ℕ). laid (c.args.at + x) (true ∷ []) c.loop-i.out) c.entry_at-row.ensures in
    ap (marked c.args.at (take (c.args.past.0 - next) (drop next all))) one
    ∙ sym (span_next c.args.at c.loop-i.i c.args.past.0 all c.loop-i.out (omega arith) (omega arith)) ∙ c.loop-i.invariant

pub returns : goal.returns
returns c =
    let none : c.args.past.0 - c.loop-i.i ≡ 0 = omega arith in
    sym (ap (λ (n : ℕ). marked c.args.at (take n (drop c.loop-i.i (entries c.args.numbers c.args.rows.now))) c.loop-i.out) none) ∙ c.loop-i.invariant
