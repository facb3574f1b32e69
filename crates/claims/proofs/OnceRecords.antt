-- One answer for each input of the functions over runs as records: any two results, and any two contents of the output, that a contract
-- allows are the same. What each contract says is written out again.
-- Assumes nothing.
use Prim.Native.Nat.{ℕ}
use mathlib.Core.Path.{◌≡◌, sym, ap, ◌∙◌}
use mathlib.Core.List.{List, []}
use Rattle.rows.specs.declared.Refusal.{Refusal}
use Rattle.rules.specs.Answer.{Answer}
use Rattle.rules.specs.declared.Written.{Written}
use Rattle.rows.specs.Table.{Verdict}
use Rattle.std.specs.Prelude.{Result}
use Rattle.rules.specs.declared.Run.{Run}
use Rattle.rules.specs.declared.Form.TheVariants.{Runs}
use Rattle.rules.specs.Operand.{Operand, lent}
use Rattle.rules.specs.Convert.{to_words, to_words_out, to_runs, to_runs_out}
use Rattle.rules.specs.Records.{numbers_of, records_of, to_numbers, to_numbers_out, to_records, to_records_out}
use Rattle.rules.proofs.Records.{records_of_numbers}

-- the same numbers are the same records
same_records : (v w : List Run) → numbers_of v ≡ numbers_of w → v ≡ w
same_records v w e = sym (records_of_numbers v) ∙ ap records_of e ∙ records_of_numbers w

pub runs_to_numbers_one : (rs : List Run) (out : List ℕ) (x y : Verdict) (v w : List ℕ) → (x ≡ to_numbers rs out) × (v ≡ to_numbers_out rs out)
    → (y ≡ to_numbers rs out) × (w ≡ to_numbers_out rs out) → (x ≡ y) × (v ≡ w)
runs_to_numbers_one rs out x y v w hv hw = (hv.0 ∙ sym hw.0, hv.1 ∙ sym hw.1)

pub runs_to_records_one : (ns : List ℕ) (out : List Run) (x y : Verdict) (v w : List Run) → (x ≡ to_records ns out) × (v ≡ to_records_out ns out)
    → (y ≡ to_records ns out) × (w ≡ to_records_out ns out) → (x ≡ y) × (v ≡ w)
runs_to_records_one ns out x y v w hv hw = (hv.0 ∙ sym hw.0, hv.1 ∙ sym hw.1)

pub runs_runs_to_words_one : (len : ℕ) (rs : List Run) (out : List ℕ) (x y : Answer) (v w : List ℕ) → let o = lent (Runs len) [] (numbers_of rs) in
    (x ≡ to_words o out) × (v ≡ to_words_out o out) → (y ≡ to_words o out) × (w ≡ to_words_out o out) → (x ≡ y) × (v ≡ w)
runs_runs_to_words_one len rs out x y v w hv hw = (hv.0 ∙ sym hw.0, hv.1 ∙ sym hw.1)

pub runs_to_run_records_one : (o : Operand) (out : List Run) (x y : Result Written Refusal) (v w : List Run)
    → (x ≡ to_runs o (numbers_of out)) × (numbers_of v ≡ to_runs_out o (numbers_of out)) → (y ≡ to_runs o (numbers_of out)) × (numbers_of w ≡ to_runs_out o (numbers_of out))
    → (x ≡ y) × (v ≡ w)
runs_to_run_records_one o out x y v w hv hw = (hv.0 ∙ sym hw.0, same_records v w (hv.1 ∙ sym hw.1))
