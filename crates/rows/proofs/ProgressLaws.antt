-- Rows laid part by part: what a loop keeps that lays a list of rows from bit `at` on, with a law for nothing done, a law for one part more, and a
-- law for the last part. By the law of bits laid one after the other.
-- Assumes nothing.
use Prim.Native.Nat.{ℕ, ◌+◌, ◌^◌}
use mathlib.Core.Path.{◌≡◌, refl, sym, ap, ◌∙◌}
use mathlib.Core.Bool.{Bool}
use mathlib.Core.List.{List, [], ◌++◌, append_assoc}
use lib.ListN.{length, length-append}
use Rattle.rows.specs.Words.{Below}
use Rattle.rows.specs.Laid.{laid}
use Rattle.rows.proofs.LaidLaws.{laid_length, laid_nil, laid_append}

-- of the whole the first `done` rows are laid and the rest are left
pub record Progress (whole : List Bool) (at done : ℕ) (rest : List Bool) (out₀ out : List ℕ) : Type 0 where
  pub front : List Bool
  pub parts : whole ≡ front ++ rest
  pub passed : length front ≡ done
  pub long : length out ≡ length out₀
  pub lies : out ≡ laid at front out₀

pub progress_none : (whole : List Bool) (at : ℕ) (out : List ℕ) → Below (2 ^ 64) out → Progress whole at 0 whole out out
progress_none whole at out small =
    record { front = []; parts = refl; passed = refl; long = refl; lies = sym (laid_nil 64 at out small) }

-- a part more
pub progress_part : (whole part rest : List Bool) (at done next : ℕ) (out₀ out then : List ℕ)
    → next ≡ done + length part → then ≡ laid (at + done) part out → Progress whole at done (part ++ rest) out₀ out → Progress whole at next rest out₀ then
progress_part whole part rest at done next out₀ out then e t p =
    let front = p.front in
    let all = front ++ part in
    let laid_on : then ≡ laid at all out₀ =
    t ∙ ap (laid (at + done) part) p.lies
    ∙ laid_append 64 at (at + done) front part out₀ (ap (λ (k : ℕ). at + k) (sym p.passed)) in
    record {
      front = all;
      parts = p.parts ∙ sym (append_assoc front part rest);
      passed = length-append front part ∙ ap (λ (k : ℕ). k + length part) p.passed ∙ sym e;
      long = ap length laid_on ∙ laid_length 64 at all out₀;
      lies = laid_on;
    }

-- the rest said otherwise
pub progress_as : (whole rest left : List Bool) (at done : ℕ) (out₀ out : List ℕ) → rest ≡ left → Progress whole at done rest out₀ out
    → Progress whole at done left out₀ out
progress_as whole rest left at done out₀ out e p = record {
  front = p.front;
  parts = p.parts ∙ ap (λ (l : List Bool). p.front ++ l) e;
  passed = p.passed;
  long = p.long;
  lies = p.lies;
}

-- the last part
pub progress_last : (whole rest : List Bool) (at done : ℕ) (out₀ out then : List ℕ) → then ≡ laid (at + done) rest out → Progress whole at done rest out₀ out
    → then ≡ laid at whole out₀
progress_last whole rest at done out₀ out then t p =
    t ∙ ap (laid (at + done) rest) p.lies
    ∙ laid_append 64 at (at + done) p.front rest out₀ (ap (λ (k : ℕ). at + k) (sym p.passed))
    ∙ ap (λ (l : List Bool). laid at l out₀) (sym p.parts)
