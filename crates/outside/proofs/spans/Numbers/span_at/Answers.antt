-- `outside::spans::Numbers::span_at` meets its contract.
-- An entry of a list is the pair of it and the row after it. Assumes nothing.
use Rattle.std.proofs.Common.{ℕ, ◌/◌, ◌<◌, ◌≡◌, List, length, ap, arith, rules}
use Rattle.outside.specs.declared.spans.Numbers.{Numbers}
use Rattle.outside.specs.Spans.{doubled, spans}
use Rattle.outside.proofs.SpanLaws.{doubled_length, doubled_at}
use Rattle.outside.proofs.spans.Numbers.span_at.Goals as goal

-- a list has an entry for each of its spans
entry : (n : Numbers) (rows : List ℕ) (i : ℕ) → spans n ≡ doubled rows → i < length (spans n) / 2 → i < length rows
entry n rows i e h = omega (arith, ap length e, doubled_length rows, h)

pub offset_bounds-rows-i : goal.offset_bounds-rows-i
offset_bounds-rows-i c = let k = entry c.args.self c.in-List.rows.now c.args.i (ap spans c.in-List.is) c.requires in search rules

pub bounds-rows-i : goal.bounds-rows-i
bounds-rows-i c = entry c.args.self c.in-List.rows.now c.args.i (ap spans c.in-List.is) c.requires

pub returns-in-List : goal.returns-in-List
returns-in-List c =
    rw c.in-List.is (doubled_at c.in-List.rows.now c.args.i (entry c.args.self c.in-List.rows.now c.args.i (ap spans c.in-List.is) c.requires))
