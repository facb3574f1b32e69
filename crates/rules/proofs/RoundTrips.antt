-- What an accepted conversion answers and leaves: the mask's own count, route 0 and its density; what was written as words, read as
-- words, is the same mask, and what was written as a list, read as a list, or as runs, read as runs; the tail is 0 and what stands after
-- is as it was; and no other runs are the mask's. By the laws of whole words, of lists of rows and of runs.
-- Assumes nothing.
use Prim.Native.Nat.{ℕ, suc, ◌*◌, ◌≤◌}
use native.Mathlib.Nat.{zero-add}
use mathlib.Core.Path.{◌≡◌, refl, sym, ap, subst, ◌∙◌}
use mathlib.Core.Bool.{Bool, true, false, ◌&&◌}
use mathlib.Core.List.{List, [], ◌∷◌, ◌++◌}
use native.Mathlib.Omega.{arith}
use lib.Dec.{T, leb, le→leb, ltb, lt→ltb}
use lib.ListN.{length, take, drop}
use lib.Seq.{take_at, drop_at}
use Rattle.rows.specs.Table.{Verdict}
use Rattle.std.specs.Prelude.{None, Ok}
use Rattle.rows.specs.Rows.{count}
use Rattle.rows.specs.Lists.{Ascending, set_rows}
use Rattle.rows.specs.Runs.{Apart, runs_of, runs_in}
use Rattle.rows.specs.Laid.{words_for, written}
use Rattle.rows.specs.Table.{first, if_fine}
use Rattle.rows.proofs.ListLaws.{rows_count, rows_ascending, listed_rows}
use Rattle.rows.proofs.RunLaws.{runs_apart, runs_back, runs_even, rows_back}
use Rattle.rules.specs.Answer.{Answer}
use Rattle.rules.specs.declared.Form.TheVariants.{Words, List as Listed, Runs}
use Rattle.rules.specs.Operand.{Operand, lent, climbs, last_below, runs_fit, rows_of, length_of, count_of, Accepted}
use Rattle.rules.specs.Answer.{density_of}
use Rattle.rules.specs.Convert.{convert_checks, to_words_verdict, to_words, to_words_out, to_list, to_list_out, to_runs, to_runs_out}
use Rattle.rules.proofs.OperandLaws.{apart, accepted_length, accepted_count, accepted_limit}
use Rattle.rules.proofs.Writes.{row, Writes, writes, written_back, Lists, WritesRuns}
use Rattle.rules.proofs.Conversions.{convert_fine}
use Rattle.rules.specs.Answer.{summed, summary_told}
use Rattle.rules.specs.Convert.{written_of, answer_of, runs_told}
use Rattle.rows.specs.Table.{number_told, granted}
use Rattle.rules.specs.Answer.{no_route}

T_both : (a b : Bool) → T a → T b → T (a && b)
T_both true b s t = t
T_both false b s t = absurd s

-- an ascending list passes the two tests
climbing : (b len e : ℕ) (es : List ℕ) → Ascending b len (e ∷ es) → T (climbs (e ∷ es)) × T (last_below len (e ∷ es))
climbing b len e [] a = (tt, lt→ltb e len a.1)
climbing b len e (g ∷ es) a =
    let rest = climbing (suc e) len g es a.2 in
    (T_both (ltb e g) (climbs (g ∷ es)) (lt→ltb e g a.2.0) rest.0, rest.1)

passes : (len : ℕ) (es : List ℕ) → Ascending 0 len es → T (climbs es) × T (last_below len es)
passes len [] a = (tt, tt)
passes len (e ∷ es) a = climbing 0 len e es a

-- runs that are apart fit: `apart` the other way
pub fits : (b len : ℕ) (ns : List ℕ) → Apart b len ns → T (runs_fit b len ns)
fits b len [] a = tt
fits b len (first ∷ []) a = a
fits b len (first ∷ past ∷ ns) a =
    T_both (leb b first) _ (le→leb b first a.0)
    (T_both (ltb first past) _ (lt→ltb first past a.1)
    (T_both (leb past len) (runs_fit (suc past) len ns) (le→leb past len a.2) (fits (suc past) len ns a.3)))

module _ (o : Operand) (out : List ℕ) (well : Accepted o) where
  abbrev rows : List Bool
  rows = rows_of o

  abbrev len : ℕ
  len = length_of o.form

  fine : (needed : ℕ) → needed ≤ length out → first (convert_checks o needed (length out)) ≡ Ok tt
  fine needed h = (convert_fine o needed (length out)).1 (well, h)

  module _ (room : words_for (length_of o.form) ≤ length out) where
    to_words_out_lem : to_words_out o out ≡ written len rows out
    unfolding to_words_out
    to_words_out_lem = ap (λ (v : Verdict). if_fine v (written len rows out) out) (fine (words_for len) room)

    -- the words written, at start 0 with the same length and count, are an operand with the same rows
    pub to_words_back : let back = lent (Words 0 (length_of o.form) (count_of o)) (to_words_out o out) [] in Accepted back × (rows_of back ≡ rows_of o)
    to_words_back =
        subst (λ (p : ℕ × List ℕ). let back = lent (Words 0 len p.0) p.1 [] in Accepted back × (rows_of back ≡ rows))
        (λ i. (accepted_count o well i, sym to_words_out_lem i))
        (written_back len rows out (accepted_length o well) (accepted_limit o well) room)

    -- its rows bit by bit, their own count, route 0, their density, the tail and the later words
    pub to_words_writes : Writes (length_of o.form) (row o) None (to_words o out) (to_words_out o out) out
    unfolding to_words to_words_out
    to_words_writes = writes (to_words_verdict o out) (fine (words_for len) room) len rows no_route out (accepted_length o well) (row o) (λ i h. refl)

  module _ (room : count_of o ≤ length out) where
    size : length (set_rows 0 rows) ≡ count_of o
    size = rows_count 0 rows ∙ accepted_count o well

    to_list_out_lem : to_list_out o out ≡ set_rows 0 rows ++ drop (count_of o) out
    unfolding to_list_out
    to_list_out_lem = ap (λ (v : Verdict). if_fine v (set_rows 0 rows ++ drop (count_of o) out) out) (fine (count_of o) room)

    written_entries : take (count_of o) (to_list_out o out) ≡ set_rows 0 rows
    written_entries = ap (take (count_of o)) to_list_out_lem ∙ take_at (set_rows 0 rows) (drop (count_of o) out) (count_of o) size

    -- the entries written, with the same length, are an operand with the same rows
    pub to_list_back : let back = lent (Listed (length_of o.form)) [] (take (count_of o) (to_list_out o out)) in Accepted back × (rows_of back ≡ rows_of o)
    to_list_back =
        let long = accepted_length o well in
        let up : Ascending 0 len (set_rows 0 rows) = rows_ascending 0 len rows (zero-add (length rows) ∙ long) in
        rw (written_entries, ← long)
        (let p = passes (length rows) (set_rows 0 rows) (rw (← long) at up) in ((omega (arith, accepted_limit o well), (p.0, (p.1, tt))), listed_rows 0 (length rows) rows (zero-add (length rows))))

    later_entries : drop (count_of o) (to_list_out o out) ≡ drop (count_of o) out
    later_entries = ap (drop (count_of o)) to_list_out_lem ∙ drop_at (set_rows 0 rows) (drop (count_of o) out) (count_of o) size

    -- its set rows as entries, as many as it counts, route 0, the density and the later entries
    pub to_list_lists : Lists (length_of o.form) (rows_of o) (to_list o out) (to_list_out o out) out
    unfolding to_list
    to_list_lists =
        rw (fine (count_of o) room)
        (record {
          accepted = refl;
          counted = refl;
          entries = ap (λ (n : ℕ). take n (to_list_out o out)) (accepted_count o well) ∙ written_entries;
          route = refl;
          dense = ap (density_of (count rows)) (accepted_length o well);
          later = ap (λ (n : ℕ). drop n (to_list_out o out)) (accepted_count o well) ∙ later_entries ∙ ap (λ (n : ℕ). drop n out) (sym (accepted_count o well));
        })

  module _ (room : runs_in (rows_of o) * 2 ≤ length out) where
    told : runs_told (to_runs o out) ≡ runs_in rows
    unfolding to_runs
    told = ap (λ (v : Verdict). runs_told (granted v (written_of o))) (fine (runs_in rows * 2) room)

    to_runs_out_lem : to_runs_out o out ≡ runs_of rows ++ drop (runs_in rows * 2) out
    unfolding to_runs_out
    to_runs_out_lem = ap (λ (v : Verdict). if_fine v (runs_of rows ++ drop (runs_in rows * 2) out) out) (fine (runs_in rows * 2) room)

    written_runs : take (runs_told (to_runs o out) * 2) (to_runs_out o out) ≡ runs_of rows
    written_runs =
        ap (λ (n : ℕ). take (n * 2) (to_runs_out o out)) told
        ∙ ap (take (runs_in rows * 2)) to_runs_out_lem
        ∙ take_at (runs_of rows) (drop (runs_in rows * 2) out) (runs_in rows * 2) (runs_even rows)

    -- the numbers written, with the same length, are an operand with the same rows
    pub to_runs_back : let back = lent (Runs (length_of o.form)) [] (take (runs_told (to_runs o out) * 2) (to_runs_out o out)) in
        Accepted back × (rows_of back ≡ rows_of o)
    to_runs_back =
        let long = accepted_length o well in
        rw (written_runs, ← long)
        ((omega (arith, accepted_limit o well), (fits 0 (length rows) (runs_of rows) (runs_apart rows), tt)), rows_back rows)

    -- and no other numbers are: runs that are accepted and have these rows are, number by number, those written
    pub to_runs_only : (ns : List ℕ) → Accepted (lent (Runs (length_of o.form)) [] ns) → rows_of (lent (Runs (length_of o.form)) [] ns) ≡ rows_of o
        → ns ≡ take (runs_told (to_runs o out) * 2) (to_runs_out o out)
    to_runs_only ns met same = sym (runs_back len ns (apart 0 len ns met.1.0)) ∙ ap runs_of same ∙ sym written_runs

    -- later numbers stay
    pub to_runs_later : drop (runs_told (to_runs o out) * 2) (to_runs_out o out) ≡ drop (runs_told (to_runs o out) * 2) out
    to_runs_later =
        ap (λ (n : ℕ). drop (n * 2) (to_runs_out o out)) told
        ∙ ap (drop (runs_in rows * 2)) to_runs_out_lem
        ∙ drop_at (runs_of rows) (drop (runs_in rows * 2) out) (runs_in rows * 2) (runs_even rows)
        ∙ ap (λ (n : ℕ). drop (n * 2) out) (sym told)

    answer_told_lem : answer_of (to_runs o out) ≡ Ok (summed rows no_route)
    unfolding to_runs
    answer_told_lem = ap (λ (v : Verdict). answer_of (granted v (written_of o))) (fine (runs_in rows * 2) room)

    number_told_lem : number_told (to_runs o out) ≡ 0
    unfolding to_runs
    number_told_lem = ap (λ (v : Verdict). number_told (granted v (written_of o))) (fine (runs_in rows * 2) room)

    -- its runs as numbers, how many they are, its own count, route 0, the density and the later numbers
    pub to_runs_writes : WritesRuns (length_of o.form) (rows_of o) (to_runs o out) (to_runs_out o out) out
    to_runs_writes =
        record {
          accepted = number_told_lem;
          counted = ap (λ (a : Answer). (summary_told a).count) answer_told_lem;
          many = told;
          numbers = written_runs;
          route = ap (λ (a : Answer). (summary_told a).route) answer_told_lem;
          dense = rw answer_told_lem (ap (density_of (count rows)) (accepted_length o well));
          later = to_runs_later;
        }
