-- What the two contracts fix. Of a reader whose bytes are known, an answer that tells no failure is one alone: the bytes are its first, as
-- many as there is room for, since fewer come only at its end. The contracts' clauses are written out again. Assumes nothing.
use Rattle.std.proofs.Common.{◌≡◌, ℕ, ◌<◌, ◌≤◌, List, [], ◌++◌, None, Some, arith, length, take, refl, sym, ap, ◌∙◌}
use Rattle.std.proofs.KnownBytes.{Consumes-all}
use Rattle.std.specs.declared.option.Option.{Option}
use Rattle.std.specs.Io.KnownBytes.{Consumes, IsAtEnd}
use native.Mathlib.Decide.{dec_lt}
use lib.Seq.{take_all, take-append_seam}

-- what both contracts say of an answer without failure: n bytes came, and `left` is what the reader has still
pub record Gave (had left : Option (List ℕ)) (n : ℕ) (out : List ℕ) : Type 0 where
  pub in_bounds : n ≤ length out
  pub prefix : n ≡ length (take n out)
  pub bytes : Consumes had left (take n out)
  pub end : n < length out → IsAtEnd left

-- what came is what there is room for of what the reader had
pub gave_first : (had : List ℕ) (left : Option (List ℕ)) (n : ℕ) (out : List ℕ) → Gave (Some had) left n out → take n out ≡ take (length out) had
gave_first had None n out h = absurd h.bytes
gave_first had (Some after) n out h = by (dec_lt n (length out))
  where
    came : List ℕ
    came = take n out

    by : Dec (n < length out) → came ≡ take (length out) had
    by (yes fewer) =
        let all : came ≡ had = Consumes-all (Some had) (Some after) came [] came h.bytes (h.end fewer) refl in
        sym (take_all (length out) came (omega (arith, h.prefix, h.in_bounds))) ∙ ap (take (length out)) all
    by (no full) =
        let room : length out ≡ length came = omega (arith, h.prefix, h.in_bounds, full) in
        sym (ap (take (length out)) h.bytes ∙ ap (λ k. take k (came ++ after)) room ∙ take-append_seam came after)

-- two answers without failure, of the same reader into as much room, have the same number and the same bytes
pub gave_once : (had : List ℕ) (left other : Option (List ℕ)) (n k : ℕ) (out into : List ℕ) → length out ≡ length into → Gave (Some had) left n out
    → Gave (Some had) other k into → (n ≡ k) × (take n out ≡ take k into)
gave_once had left other n k out into room h g =
    let same = gave_first had left n out h ∙ ap (λ r. take r had) room ∙ sym (gave_first had other k into g) in
    (h.prefix ∙ ap length same ∙ sym g.prefix, same)
