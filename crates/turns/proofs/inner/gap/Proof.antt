-- `turns::inner::gap` meets its contract.
-- By the laws of what stands between an entry and the next. Assumes nothing.
use mathlib.Core.Path.{sym, ap}
use lib.ListN.{length}
use Rattle.turns.proofs.ListTurnLaws.{between_none, between_two}
use Rattle.turns.proofs.inner.gap.Statement.{statement}
use Rattle.turns.proofs.inner.gap.Tie as tie

returns : tie.Need-returns-then-row-past
returns c = sym (ap length (between_none c.before.args.past c.before.args.row c.if-row-past.true))

returns-2 : tie.Need-returns
returns-2 c = sym (ap length (between_two c.before.args.past c.before.args.row c.if-row-past.false))

pub gap_spec : {M : Type 1} → statement M
gap_spec = tie.close (tie.spec returns returns-2)
