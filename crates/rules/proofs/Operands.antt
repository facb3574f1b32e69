-- Which refusal an operand's checks tell, form by form and in document 01's order: a statement that can be held against its table line by
-- line. By the law of tables. Assumes nothing.
use Prim.Native.Nat.{ℕ, ◌+◌, ◌≤◌, ◌<◌}
use mathlib.Core.Path.{◌≡◌, ap, refl}
use mathlib.Core.Logic.{◌↔◌, ◌≢◌, ◌⊎◌, inl, inr}
use native.Mathlib.Decide.{dec_le}
use native.Mathlib.Omega.{arith}
use lib.Dec.{T}
use lib.ListN.{length}
use Rattle.rows.specs.declared.Refusal.{Refusal}
use Rattle.std.specs.Prelude.{Err}
use Rattle.rows.specs.Rows.{count}
use Rattle.rows.specs.Words.{view}
use Rattle.rows.specs.Laid.{words_for}
use Rattle.rows.specs.declared.Reason.{Reason}
use Rattle.rows.specs.Table.{Named, number_of, First, refusal, numbered}
use Rattle.rows.proofs.TableLaws.{never, same_refusal, line_refuses}
use Rattle.rules.specs.declared.Form.{Form}
use Rattle.rules.specs.declared.Form.TheVariants.{All, None, Words, List as Listed, Runs}
use Rattle.rules.specs.Operand.{Operand, limit, climbs, last_below, runs_fit, checks_by, operand_checks}
use Rattle.rows.specs.declared.Reason.TheVariants.{LengthOverLimit, StartOver63, TooFewWords, CountDiffers, NotAscending, EntryPastLength, RunsUnfit}

-- what is wrong with operand k where x is told of it
abbrev pub WrongBy : Form → Named → Operand → Refusal → Type 0
WrongBy (All len) k o x = (x ≡ refusal (numbered 1 LengthOverLimit refl) k) × (limit < len)
WrongBy (None len) k o x = (x ≡ refusal (numbered 1 LengthOverLimit refl) k) × (limit < len)
WrongBy (Words start len claimed) k o x =
    ((x ≡ refusal (numbered 1 LengthOverLimit refl) k) × (limit < len))
    ⊎ ((x ≡ refusal (numbered 2 StartOver63 refl) k) × (len ≤ limit) × (63 < start))
    ⊎ ((x ≡ refusal (numbered 3 TooFewWords refl) k) × (len ≤ limit) × (start ≤ 63) × (length o.words < words_for (start + len)))
    ⊎ ((x ≡ refusal (numbered 4 CountDiffers refl) k) × (len ≤ limit) × (start ≤ 63) × (words_for (start + len) ≤ length o.words) × (claimed ≢ count (view start len o.words)))
WrongBy (Listed len) k o x =
    ((x ≡ refusal (numbered 1 LengthOverLimit refl) k) × (limit < len))
    ⊎ ((x ≡ refusal (numbered 5 NotAscending refl) k) × (len ≤ limit) × (¬ T (climbs o.numbers)))
    ⊎ ((x ≡ refusal (numbered 6 EntryPastLength refl) k) × (len ≤ limit) × T (climbs o.numbers) × (¬ T (last_below len o.numbers)))
WrongBy (Runs len) k o x =
    ((x ≡ refusal (numbered 1 LengthOverLimit refl) k) × (limit < len))
    ⊎ ((x ≡ refusal (numbered 14 RunsUnfit refl) k) × (len ≤ limit) × (¬ T (runs_fit 0 len o.numbers)))

abbrev pub Wrong : Named → Operand → Refusal → Type 0
Wrong k o x = WrongBy o.form k o x

module _ (k : Named) (o : Operand) (x : Refusal) where
  too_long : (len : ℕ) → First (checks_by (All len) k o) (Err x) ↔ ((x ≡ refusal LengthOverLimit k) × (limit < len))
  too_long len =
      let l = line_refuses (dec_le len limit) LengthOverLimit k x in
      (λ h. ((l.0 h).0, omega (arith, (l.0 h).1)), λ w. l.1 (w.0, λ h. omega arith))

  in_words : (start len claimed : ℕ) → First (checks_by (Words start len claimed) k o) (Err x) ↔ WrongBy (Words start len claimed) k o x
  in_words start len claimed = (to, from)
    where
      to : First (checks_by (Words start len claimed) k o) (Err x) → WrongBy (Words start len claimed) k o x
      to (inr (a, e)) = inl (same_refusal e, omega arith)
      to (inl (a, inr (b, e))) = inr (inl (same_refusal e, a, omega arith))
      to (inl (a, inl (b, inr (c, e)))) = inr (inr (inl (same_refusal e, a, b, omega arith)))
      to (inl (a, inl (b, inl (c, inr (d, e))))) = inr (inr (inr (same_refusal e, a, b, c, d)))
      to (inl (a, inl (b, inl (c, inl (d, e))))) = never e

      from : WrongBy (Words start len claimed) k o x → First (checks_by (Words start len claimed) k o) (Err x)
      from (inl (e, a)) = inr (λ h. omega arith, ap Err e)
      from (inr (inl (e, a, b))) = inl (a, inr (λ h. omega arith, ap Err e))
      from (inr (inr (inl (e, a, b, c)))) = inl (a, inl (b, inr (λ h. omega arith, ap Err e)))
      from (inr (inr (inr (e, a, b, c, d)))) = inl (a, inl (b, inl (c, inr (d, ap Err e))))

  as_list : (len : ℕ) → First (checks_by (Listed len) k o) (Err x) ↔ WrongBy (Listed len) k o x
  as_list len = (to, from)
    where
      to : First (checks_by (Listed len) k o) (Err x) → WrongBy (Listed len) k o x
      to (inr (a, e)) = inl (same_refusal e, omega arith)
      to (inl (a, inr (b, e))) = inr (inl (same_refusal e, a, b))
      to (inl (a, inl (b, inr (c, e)))) = inr (inr (same_refusal e, a, b, c))
      to (inl (a, inl (b, inl (c, e)))) = never e

      from : WrongBy (Listed len) k o x → First (checks_by (Listed len) k o) (Err x)
      from (inl (e, a)) = inr (λ h. omega arith, ap Err e)
      from (inr (inl (e, a, b))) = inl (a, inr (b, ap Err e))
      from (inr (inr (e, a, b, c))) = inl (a, inl (b, inr (c, ap Err e)))

  as_runs : (len : ℕ) → First (checks_by (Runs len) k o) (Err x) ↔ WrongBy (Runs len) k o x
  as_runs len = (to, from)
    where
      to : First (checks_by (Runs len) k o) (Err x) → WrongBy (Runs len) k o x
      to (inr (a, e)) = inl (same_refusal e, omega arith)
      to (inl (a, inr (b, e))) = inr (same_refusal e, a, b)
      to (inl (a, inl (b, e))) = never e

      from : WrongBy (Runs len) k o x → First (checks_by (Runs len) k o) (Err x)
      from (inl (e, a)) = inr (λ h. omega arith, ap Err e)
      from (inr (e, a, b)) = inl (a, inr (b, ap Err e))

  -- each refusal of an operand exactly when
  pub operand_refuses : First (operand_checks k o) (Err x) ↔ Wrong k o x
  operand_refuses = by o.form
    where
      by : (f : Form) → First (checks_by f k o) (Err x) ↔ WrongBy f k o x
      by (All len) = too_long len
      by (None len) = too_long len
      by (Words start len claimed) = in_words start len claimed
      by (Listed len) = as_list len
      by (Runs len) = as_runs len

-- and none tells a number above 15: those are of what operands are to each other, of states and of texts
pub operand_numbers : (k : Named) (o : Operand) (x : Refusal) → Wrong k o x → number_of x.reason ≤ 15
operand_numbers k o x = by o.form
  where
    told : (why : Reason) → number_of why ≤ 15 → x ≡ refusal why k → number_of x.reason ≤ 15
    told why h e = omega (arith, ap (λ (y : Refusal). number_of y.reason) e)

    by : (f : Form) → WrongBy f k o x → number_of x.reason ≤ 15
    by (All len) w = told LengthOverLimit (omega arith) w.0
    by (None len) w = told LengthOverLimit (omega arith) w.0
    by (Words start len claimed) (inl w) = told LengthOverLimit (omega arith) w.0
    by (Words start len claimed) (inr (inl w)) = told StartOver63 (omega arith) w.0
    by (Words start len claimed) (inr (inr (inl w))) = told TooFewWords (omega arith) w.0
    by (Words start len claimed) (inr (inr (inr w))) = told CountDiffers (omega arith) w.0
    by (Listed len) (inl w) = told LengthOverLimit (omega arith) w.0
    by (Listed len) (inr (inl w)) = told NotAscending (omega arith) w.0
    by (Listed len) (inr (inr w)) = told EntryPastLength (omega arith) w.0
    by (Runs len) (inl w) = told LengthOverLimit (omega arith) w.0
    by (Runs len) (inr w) = told RunsUnfit (omega arith) w.0
