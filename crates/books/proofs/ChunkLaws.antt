-- The chunk that is read is the view's. By the law of a view's chunk.
-- Assumes nothing.
use Prim.Native.Nat.{ℕ, ◌+◌, ◌-◌, ◌*◌, ◌≤◌, ◌<◌, min}
use native.Mathlib.Decide.{dec_lt}
use mathlib.Core.Path.{◌≡◌, sym, ap, ◌∙◌}
use mathlib.Core.Bool.{Bool}
use mathlib.Core.List.{List}
use native.Mathlib.Omega.{arith}
use lib.ListN.{length, take, drop, length-drop}
use lib.Seq.{take_all}
use Rattle.rows.specs.Word.{word_of}
use Rattle.rows.specs.Words.{fit, bits_of_all, view}
use Rattle.rows.proofs.WordsLaws.{view_length}
use Rattle.rows.proofs.PartLaws.{view_chunk}
use Rattle.books.specs.Chunks.{chunk_at}

-- cut at the view's end or not, it is the same
pub chunk_is : (start len i : ℕ) (ws : List ℕ) → start + len ≤ length ws * 64 → i ≤ len
    → word_of (fit (min 64 (len - i)) (drop (start + i) (bits_of_all 64 ws))) ≡ word_of (chunk_at (view start len ws) i)
chunk_is start len i ws room h =
    let s = view start len ws in
    let n = min 64 (len - i) in
    let long : length (drop i s) ≡ len - i = length-drop i s ∙ ap (λ (k : ℕ). k - i) (view_length start len ws room) in
    view_chunk start i n len ws (omega arith) room ∙ ap word_of (cut n (drop i s) (omega arith) (dec_lt (length (drop i s)) 64))
  where
    cut : (n : ℕ) (t : List Bool) → n ≡ min 64 (length t) → Dec (length t < 64) → take n t ≡ take 64 t
    cut n t e (yes p) = take_all n t (omega arith) ∙ sym (take_all 64 t (omega arith))
    cut n t e (no p) = let whole : n ≡ 64 = omega arith in ap (λ (k : ℕ). take k t) whole
