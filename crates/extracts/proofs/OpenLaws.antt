-- Bits laid part by part where what is not laid yet may be written too: what such a loop keeps, with a law for nothing done, a law for one part more,
-- and a law for the end. Between what is laid and the end of the whole anything may stand: it is laid over. By the law of bits laid over bits.
-- Assumes nothing.
use Prim.Native.Nat.{ℕ, zero, suc, ◌+◌, ◌*◌, ◌^◌, ◌≤◌}
use native.Mathlib.Nat.{le_of_suc-le-suc}
use mathlib.Core.Path.{◌≡◌, refl, sym, ap, ap₂, ◌∙◌}
use mathlib.Core.Bool.{Bool}
use mathlib.Core.List.{List, [], ◌∷◌, ◌++◌, append_assoc}
use native.Mathlib.Omega.{arith}
use lib.ListN.{length, drop, length-append, length-drop}
use Rattle.rows.specs.Rows.{over, splice}
use Rattle.rows.specs.Words.{Below, bits_of_all, view, words_of}
use Rattle.rows.specs.Laid.{laid}
use Rattle.rows.proofs.SpliceLaws.{over_length}
use Rattle.rows.proofs.WordsLaws.{view_length}
use Rattle.rows.proofs.LaidLaws.{laid_length, laid_bits, laid_append}
use Rattle.rows.proofs.BehindLaws.{laid_own}

-- ---- bits laid over bits

over_over : (xs ys zs : List Bool) → length zs ≤ length ys → over (over xs ys) zs ≡ over xs (over ys zs)
over_over [] ys zs h = refl
over_over (x ∷ xs) [] [] h = refl
over_over (x ∷ xs) [] (z ∷ zs) h = absurd (omega arith)
over_over (x ∷ xs) (y ∷ ys) [] h = refl
over_over (x ∷ xs) (y ∷ ys) (z ∷ zs) h = ap (λ (l : List Bool). z ∷ l) (over_over xs ys zs (le_of_suc-le-suc h))

splice_over : (at : ℕ) (xs ys zs : List Bool) → length zs ≤ length ys → splice at (splice at xs ys) zs ≡ splice at xs (over ys zs)
splice_over zero xs ys zs h = over_over xs ys zs h
splice_over (suc at) [] ys zs h = refl
splice_over (suc at) (x ∷ xs) ys zs h = ap (λ (l : List Bool). x ∷ l) (splice_over at xs ys zs h)

laid_over : (at : ℕ) (ys zs : List Bool) (ns : List ℕ) → length zs ≤ length ys → laid at zs (laid at ys ns) ≡ laid at (over ys zs) ns
laid_over at ys zs ns h =
    ap₂ (λ (n : ℕ) (bs : List Bool). words_of 64 n (splice at bs zs)) (laid_length 64 at ys ns) (laid_bits 64 at ys ns)
    ∙ ap (words_of 64 (length ns)) (splice_over at (bits_of_all 64 ns) ys zs h)

-- the front of what is laid over, and what then stands behind it
over_front : (ys part zs : List Bool) → length part ≤ length ys → over ys (part ++ zs) ≡ part ++ over (drop (length part) ys) zs
over_front ys [] zs h = refl
over_front [] (p ∷ part) zs h = absurd (omega arith)
over_front (y ∷ ys) (p ∷ part) zs h = ap (λ (l : List Bool). p ∷ l) (over_front ys part zs (le_of_suc-le-suc h))

-- ---- what a loop keeps

-- of the whole the first `done` bits are laid, and where the rest will lie something stands
pub record Open (whole : List Bool) (at done : ℕ) (rest : List Bool) (out₀ out : List ℕ) : Type 0 where
  pub front : List Bool
  pub parts : whole ≡ front ++ rest
  pub passed : length front ≡ done
  pub old : List Bool
  pub sized : length old ≡ length rest
  pub long : length out ≡ length out₀
  pub lies : out ≡ laid at (front ++ old) out₀

pub open_none : (whole : List Bool) (at : ℕ) (out : List ℕ) → Below (2 ^ 64) out → at + length whole ≤ length out * 64 → Open whole at 0 whole out out
open_none whole at out small room = record {
  front = [];
  parts = refl;
  passed = refl;
  old = view at (length whole) out;
  sized = view_length at (length whole) out room;
  long = refl;
  lies = sym (laid_own at (length whole) out small);
}

-- a part more, with bits behind it that the rest will be laid over
pub open_part : (whole part rest more : List Bool) (at done next : ℕ) (out₀ out then : List ℕ)
    → next ≡ done + length part → length part + length more ≤ length part + length rest → then ≡ laid (at + done) (part ++ more) out
    → Open whole at done (part ++ rest) out₀ out → Open whole at next rest out₀ then
open_part whole part rest more at done next out₀ out then e few t p =
    let front = p.front in
    let old = over (drop (length part) p.old) more in
    let fits : length part ≤ length p.old = omega (arith, p.sized, length-append part rest) in
    let covered : length (part ++ more) ≤ length p.old = omega (arith, p.sized, length-append part rest, length-append part more) in
    let lies : then ≡ laid at ((front ++ part) ++ old) out₀ =
    t
    ∙ ap (laid (at + done) (part ++ more))
    (p.lies ∙ sym (laid_append 64 at (at + done) front p.old out₀ (ap (λ (k : ℕ). at + k) (sym p.passed))))
    ∙ laid_over (at + done) p.old (part ++ more) (laid at front out₀) covered
    ∙ ap (λ (l : List Bool). laid (at + done) l (laid at front out₀)) (over_front p.old part more fits)
    ∙ laid_append 64 at (at + done) front (part ++ old) out₀ (ap (λ (k : ℕ). at + k) (sym p.passed))
    ∙ ap (λ (l : List Bool). laid at l out₀) (sym (append_assoc front part old)) in
    record {
      front = front ++ part;
      parts = p.parts ∙ sym (append_assoc front part rest);
      passed = length-append front part ∙ ap (λ (k : ℕ). k + length part) p.passed ∙ sym e;
      old = old;
      sized =
          over_length (drop (length part) p.old) more
          ∙ omega (arith, length-drop (length part) p.old, p.sized, length-append part rest);
      long = ap length lies ∙ laid_length 64 at ((front ++ part) ++ old) out₀;
      lies = lies;
    }

-- the rest said otherwise
pub open_as : (whole rest left : List Bool) (at done : ℕ) (out₀ out : List ℕ) → rest ≡ left → Open whole at done rest out₀ out → Open whole at done left out₀ out
open_as whole rest left at done out₀ out e p = record {
  front = p.front;
  parts = p.parts ∙ ap (λ (l : List Bool). p.front ++ l) e;
  passed = p.passed;
  old = p.old;
  sized = p.sized ∙ ap length e;
  long = p.long;
  lies = p.lies;
}

-- nothing is left
pub open_end : (whole : List Bool) (at done : ℕ) (out₀ out : List ℕ) → Open whole at done [] out₀ out → out ≡ laid at whole out₀
open_end whole at done out₀ out p =
    p.lies
    ∙ ap (λ (l : List Bool). laid at l out₀)
    (ap (λ (l : List Bool). p.front ++ l) (none p.old p.sized) ∙ sym p.parts)
  where
    none : (l : List Bool) → length l ≡ 0 → l ≡ []
    none [] h = refl
    none (x ∷ l) h = absurd (omega arith)
