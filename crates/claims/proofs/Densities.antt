-- The density that an accepted answer tells is the value of the format that is nearest to the told count over the result's length: for
-- each page's accepted answers. By the theorem about the definition. Assumes nothing.
use Prim.Native.Nat.{ℕ, ◌<◌}
use mathlib.Core.Path.{subst, sym}
use mathlib.Core.Bool.{Bool}
use mathlib.Core.List.{List}
use native.Mathlib.Omega.{arith}
use lib.ListN.{take, length-take}
use Rattle.rows.specs.Words.{bits_of_all}
use Rattle.rows.proofs.RowLaws.{count_le_length}
use Rattle.rules.specs.Answer.{Answer}
use Rattle.rules.specs.declared.Fed.{Fed}
use Rattle.rules.specs.declared.State.{State}
use Rattle.rules.specs.declared.Route.{Route}
use Rattle.rows.specs.declared.Refusal.{Refusal}
use Rattle.rules.specs.declared.Written.{Written}
use Rattle.rules.specs.Convert.{answer_of}
use Rattle.std.specs.Prelude.{Option, Result}
use Rattle.rules.specs.Operand.{Operand, rows_of, length_of, Accepted}
use Rattle.rules.specs.Stream.{Pair, long, kept}
use Rattle.rules.proofs.OperandLaws.{accepted_length}
use Rattle.rules.proofs.StreamLaws.{Accepts, kept_length}
use Rattle.rules.proofs.Writes.{Writes, Lists, WritesRuns}
use Rattle.rules.proofs.Densities.{Nearest, density_nearest}
use Rattle.rules.proofs.Feeds.{Feeds}
use Rattle.rules.specs.Answer.{summary_told}

-- a composition, a set operation, a conversion to words
pub written_nearest : {n : ℕ} {row_at : ℕ → Bool} {by : Option Route} {answer : Answer} {left out : List ℕ} → Writes n row_at by answer left out → 0 < n
    → Nearest (summary_told answer).count n (summary_told answer).density
written_nearest {n} {row_at} {by} {answer} {left} {out} w h =
    let rows = take n (bits_of_all 64 left) in
    subst (Nearest (summary_told answer).count n) (sym w.dense)
    (density_nearest (summary_told answer).count n h (omega (arith, w.counted, count_le_length rows, length-take n (bits_of_all 64 left))))

-- a conversion to a list
pub listed_nearest : (o : Operand) {answer : Answer} {left out : List ℕ} → Accepted o → Lists (length_of o.form) (rows_of o) answer left out → 0 < length_of o.form
    → Nearest (summary_told answer).count (length_of o.form) (summary_told answer).density
listed_nearest o {answer} {left} {out} a w h =
    subst (Nearest (summary_told answer).count (length_of o.form)) (sym w.dense)
    (density_nearest (summary_told answer).count (length_of o.form) h (omega (arith, w.counted, count_le_length (rows_of o), accepted_length o a)))

-- a conversion to runs
pub runs_nearest : (o : Operand) {told : Result Written Refusal} {left out : List ℕ} → Accepted o → WritesRuns (length_of o.form) (rows_of o) told left out
    → 0 < length_of o.form → Nearest (summary_told (answer_of told)).count (length_of o.form) (summary_told (answer_of told)).density
runs_nearest o {told} {left} {out} a w h =
    let counted = (summary_told (answer_of told)).count in
    subst (Nearest counted (length_of o.form)) (sym w.dense)
    (density_nearest counted (length_of o.form) h (omega (arith, w.counted, count_le_length (rows_of o), accepted_length o a)))

-- a feed, of its piece
pub fed_nearest : {st : State} {p : Pair} {room : ℕ} {gave : Fed State} {left out : List ℕ} → Accepts st p room → Feeds st p gave left out → 0 < long p
    → Nearest (summary_told gave.answer).count (long p) (summary_told gave.answer).density
fed_nearest {st} {p} {room} {gave} {left} {out} a w h =
    subst (Nearest (summary_told gave.answer).count (long p)) (sym w.dense)
    (density_nearest (summary_told gave.answer).count (long p) h (omega (arith, w.counted, count_le_length (kept p), kept_length p a.matched)))
