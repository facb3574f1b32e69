-- `mask::inner::runs::count_whole` meets its contract: a run is two numbers.
-- By the one run of rows that are all set. Assumes nothing.
use mathlib.Core.Path.{sym, ap}
use native.Mathlib.Omega.{arith}
use lib.ListN.{length}
use Rattle.mask.proofs.RunOutLaws.{whole_run, whole_none}
use Rattle.mask.proofs.inner.runs.count_whole.Statement.{statement}
use Rattle.mask.proofs.inner.runs.count_whole.Tie as tie

returns : tie.Need-returns-then-n-eq0
returns c = sym (ap length (whole_none c.before.args.n c.if-n-eq0.true))

returns-2 : tie.Need-returns
returns-2 c = sym (ap length (whole_run c.before.args.n (omega (arith, c.if-n-eq0.false))))

pub count_whole_spec : {M : Type 1} → statement M
count_whole_spec = tie.close (tie.spec returns returns-2)
