-- `outside::spans::Numbers::stand` meets its contract: a span that ends before the row is passed, and at another the walk stands.
-- By the laws of a walk over spans. Assumes nothing.
use Rattle.std.proofs.Common.{arith}
use Rattle.outside.specs.Spans.{spans}
use Rattle.outside.proofs.SpanLaws.{come_next, come_stands, come_none}
use Rattle.outside.proofs.spans.Numbers.stand.Goals as goal

pub returns-then-row-span : goal.returns-then-row-span
returns-then-row-span c =
    let a = c.args in
    let e = c.span_at-span.ensures in
    let came = c.loop-i.invariant in
    (came, come_stands (spans a.self) a.len c.loop-i.i a.row _ _ (omega arith) e.0 e.1 came c.if-row-span.true)

pub loop-i-preserved : goal.loop-i-preserved
loop-i-preserved c =
    let a = c.args in
    let e = c.span_at-span.ensures in
    come_next (spans a.self) a.len c.loop-i.i a.row _ _ (omega arith) e.0 e.1 c.loop-i.invariant c.if-row-span.false

pub returns : goal.returns
returns c =
    let a = c.args in
    (c.requires, come_none (spans a.self) a.len c.loop-i.i a.row (omega arith) c.loop-i.invariant)
