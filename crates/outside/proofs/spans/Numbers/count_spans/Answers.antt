-- `outside::spans::Numbers::count_spans` meets its contract.
-- Each entry of a list is a pair. Assumes nothing.
use Rattle.std.proofs.Common.{◌/◌, length, ap, arith}
use Rattle.outside.specs.declared.spans.Numbers.{Numbers}
use Rattle.outside.specs.Spans.{spans}
use Rattle.outside.proofs.SpanLaws.{doubled_length}
use Rattle.outside.proofs.spans.Numbers.count_spans.Goals as goal

pub returns-in-List : goal.returns-in-List
returns-in-List c = omega (arith, doubled_length c.in-List.rows.now, ap (λ (n : Numbers). length (spans n) / 2) c.in-List.is)
