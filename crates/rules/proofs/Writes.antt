-- What an accepted operation leaves, for any that writes its rows as whole words from the start: the answer's numbers, the rows
-- bit by bit, the last word's tail 0, later words as before; and for one that writes them as a list, or as runs. By the laws of whole words.
-- Assumes nothing.
use Prim.Native.Nat.{ℕ, ◌*◌, ◌≤◌, ◌<◌}
use mathlib.Core.Path.{◌≡◌, refl, sym, ap, ◌∙◌}
use mathlib.Core.Logic.{◌↔◌, ◌⊎◌, inl, inr}
use mathlib.Core.Bool.{Bool, true, false, ◌&&◌, ◌||◌, false≢true}
use mathlib.Core.List.{List, []}
use native.Mathlib.Nat.{zero-add}
use native.Mathlib.Omega.{arith}
use lib.ListN.{length, take, drop, get_or}
use lib.Seq.{get_or-take}
use Rattle.rows.specs.Table.{Verdict}
use Rattle.std.specs.Prelude.{Ok}
use Rattle.rows.specs.Rows.{count}
use Rattle.rows.specs.Words.{bits_of_all}
use Rattle.rows.specs.Lists.{set_rows}
use Rattle.rows.specs.Runs.{runs_of, runs_in}
use Rattle.rows.specs.Laid.{words_for, written}
use Rattle.rows.specs.Table.{number_told, if_fine}
use Rattle.rows.proofs.WrittenLaws.{written_rows, written_length, written_tail, written_later}
use Rattle.rules.specs.Answer.{Answer}
use Rattle.rows.specs.declared.Refusal.{Refusal}
use Rattle.rules.specs.declared.Written.{Written}
use Rattle.rules.specs.Convert.{answer_of, runs_told}
use Rattle.std.specs.Prelude.{Option, Result}
use Rattle.rules.specs.declared.Form.TheVariants.{Words}
use Rattle.rules.specs.Operand.{Operand, lent, rows_of, limit, Accepted}
use Rattle.rules.specs.declared.Route.{Route}
use Rattle.rules.specs.Answer.{answered, density_of}
use Rattle.rules.specs.Answer.{summary_told}
use Rattle.std.specs.Prelude.{None}

abbrev pub bit_at : List ℕ → ℕ → Bool
bit_at ws i = get_or (bits_of_all 64 ws) i false

-- row i of an operand
abbrev pub row : Operand → ℕ → Bool
row o i = get_or (rows_of o) i false

-- accepted by a route, with n rows that are as said, their own count and density
pub record Writes (n : ℕ) (row_at : ℕ → Bool) (by : Option Route) (answer : Answer) (left out : List ℕ) : Type 0 where
  pub accepted : number_told answer ≡ 0
  pub rows : (i : ℕ) → i < n → bit_at left i ≡ row_at i
  pub counted : (summary_told answer).count ≡ count (take n (bits_of_all 64 left))
  pub route : (summary_told answer).route ≡ by
  pub dense : (summary_told answer).density ≡ density_of (summary_told answer).count n
  pub tail : (i : ℕ) → n ≤ i → i < words_for n * 64 → bit_at left i ≡ false
  pub later : drop (words_for n) left ≡ drop (words_for n) out

-- accepted, with the set rows among these n as entries from the start on: as many as it counts, route 0, their density
pub record Lists (n : ℕ) (rows : List Bool) (answer : Answer) (left out : List ℕ) : Type 0 where
  pub accepted : number_told answer ≡ 0
  pub counted : (summary_told answer).count ≡ count rows
  pub entries : take (summary_told answer).count left ≡ set_rows 0 rows
  pub route : (summary_told answer).route ≡ None
  pub dense : (summary_told answer).density ≡ density_of (summary_told answer).count n
  pub later : drop (summary_told answer).count left ≡ drop (summary_told answer).count out

-- accepted, with the runs of these n rows as numbers from the start on: two for each of the runs that it tells, the rows' own count, route 0,
-- their density
pub record WritesRuns (n : ℕ) (rows : List Bool) (told : Result Written Refusal) (left out : List ℕ) : Type 0 where
  pub accepted : number_told told ≡ 0
  pub counted : (summary_told (answer_of told)).count ≡ count rows
  pub many : (runs_told told) ≡ runs_in rows
  pub numbers : take (runs_told told * 2) left ≡ runs_of rows
  pub route : (summary_told (answer_of told)).route ≡ None
  pub dense : (summary_told (answer_of told)).density ≡ density_of (summary_told (answer_of told)).count n
  pub later : drop (runs_told told * 2) left ≡ drop (runs_told told * 2) out

pub writes : (v : Verdict) → v ≡ Ok tt → (n : ℕ) (rows : List Bool) (by : Option Route) (out : List ℕ) → length rows ≡ n → (row_at : ℕ → Bool) → ((i : ℕ) → i < n → get_or rows i false ≡ row_at i)
    → Writes n row_at by (answered v rows by) (if_fine v (written n rows out) out) out
writes v e n rows by out long row_at law =
    rw e
    (record {
      accepted = refl;
      rows = λ i h. sym (get_or-take n (bits_of_all 64 (written n rows out)) i false h) ∙ ap (λ (l : List Bool). get_or l i false) (written_rows n rows out long) ∙ law i h;
      counted = ap count (sym (written_rows n rows out long));
      route = refl;
      dense = ap (density_of (count rows)) long;
      tail = written_tail n rows out long;
      later = written_later n rows out long;
    })

-- the words written, at start 0 with their own length and count, are an operand with the same rows
pub written_back : (n : ℕ) (rows : List Bool) (out : List ℕ) → length rows ≡ n → n ≤ limit → words_for n ≤ length out
    → let back = lent (Words 0 n (count rows)) (written n rows out) [] in Accepted back × (rows_of back ≡ rows)
written_back n rows out long few room =
    let back : take n (bits_of_all 64 (written n rows out)) ≡ rows = written_rows n rows out long in
    let size : length (written n rows out) ≡ length out = written_length n rows out long room in
    ((few, (omega arith, (omega (arith, zero-add n), (sym (ap count back), tt)))), back)

-- ---- what is said of a row by a Bool, as a proposition

pub in_both : (x y : Bool) → ((x && y) ≡ true) ↔ ((x ≡ true) × (y ≡ true))
in_both true y = (λ e. (refl, e), λ p. p.1)
in_both false y = (λ e. absurd (false≢true e), λ p. p.0)

pub in_either : (x y : Bool) → ((x || y) ≡ true) ↔ ((x ≡ true) ⊎ (y ≡ true))
in_either true y = (λ e. inl refl, λ p. refl)
in_either false y = (λ e. inr e, either)
  where
    either : (false ≡ true) ⊎ (y ≡ true) → y ≡ true
    either (inl e) = absurd (false≢true e)
    either (inr e) = e
