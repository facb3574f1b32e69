-- What a loop keeps that copies bits: those before `done` are laid and counted. With a law for none, a law for some more, and a law for all.
-- By the laws of rows laid part by part, and of a word's low bits.
-- Assumes nothing.
use Prim.Native.Nat.{ℕ, ◌+◌, ◌-◌, ◌*◌, ◌^◌, ◌≤◌}
use native.Mathlib.Nat.{add-zero}
use mathlib.Core.Path.{◌≡◌, sym, ap, ap₂, ◌∙◌}
use mathlib.Core.Bool.{Bool}
use mathlib.Core.List.{List, [], ◌++◌, append-nil}
use native.Mathlib.Omega.{arith}
use lib.ListN.{length, take, drop, length-drop}
use lib.Seq.{take-add, drop-drop}
use lib.Bits.{bit_and, and_mask}
use lib.Count.{ones}
use Rattle.rows.specs.Rows.{count}
use Rattle.rows.specs.Word.{bits_of, word_of}
use Rattle.rows.specs.Words.{fit, Below, bits_of_all, view}
use Rattle.rows.specs.Laid.{laid}
use Rattle.rows.proofs.RowLaws.{count_append, count_le_length}
use Rattle.rows.proofs.WordLaws.{count_bits_mod}
use Rattle.rows.proofs.WordsLaws.{bits_of_word_of_fit, fit_length, bits_of_all_length, view_length}
use Rattle.rows.proofs.FitLaws.{fit_is_take, take_fit}
use Rattle.rows.proofs.ProgressLaws.{Progress, progress_none, progress_as, progress_part}

-- a view in two parts
pub view_parts : (start m n : ℕ) (ws : List ℕ) → view start (m + n) ws ≡ view start m ws ++ view (start + m) n ws
view_parts start m n ws =
    let bs = bits_of_all 64 ws in
    take-add m n (drop start bs) ∙ ap (λ (l : List Bool). take m (drop start bs) ++ take n l) (drop-drop m start bs)

-- the low bits of a word that was read
read_bits : (place m x : ℕ) (ws : List ℕ) → m ≤ 64 → place + m ≤ length ws * 64
    → x ≡ word_of (fit 64 (drop place (bits_of_all 64 ws))) → bits_of m x ≡ view place m ws
read_bits place m x ws h room e =
    let bs = drop place (bits_of_all 64 ws) in
    ap (bits_of m) e ∙ bits_of_word_of_fit m (fit 64 bs) ∙ fit_is_take m (fit 64 bs) (omega (arith, fit_length 64 bs)) ∙ take_fit m 64 bs h
    ∙ fit_is_take m bs (omega (arith, length-drop place (bits_of_all 64 ws), bits_of_all_length 64 ws))

low_count : (m x y : ℕ) → y ≡ 2 ^ m - 1 → ones (bit_and x y) ≡ count (bits_of m x)
low_count m x y e = ap (λ (k : ℕ). ones (bit_and x k)) e ∙ ap ones (and_mask x m) ∙ sym (count_bits_mod m x)

module _ (ws : List ℕ) (start n at : ℕ) where
  abbrev whole : List Bool
  whole = view start n ws

  abbrev rest : ℕ → List Bool
  rest done = view (start + done) (n - done) ws

  pub record Copying (done sum : ℕ) (out₀ out : List ℕ) : Type 0 where
    pub within : done ≤ n
    pub counted : sum + count (rest done) ≡ count whole
    pub progress : Progress whole at done (rest done) out₀ out

  pub copying_none : (out : List ℕ) → Below (2 ^ 64) out → Copying 0 0 out out
  copying_none out small =
      let all : whole ≡ rest 0 = let z : n ≡ n - 0 = omega arith in ap₂ (λ (x y : ℕ). view x y ws) (sym (add-zero start)) z in
      record {
        within = omega arith;
        counted = omega (arith, ap count all);
        progress = progress_as whole whole (rest 0) at 0 out out all (progress_none whole at out small);
      }

  module _ (done sum : ℕ) (out₀ out : List ℕ) (c : Copying done sum out₀ out) where
    -- a part that was read as the word x, of which the set bits are counted through the mask y
    module _ (m x y : ℕ) (then : List ℕ) (few : m ≤ 64) (in_rest : done + m ≤ n) (room : start + n ≤ length ws * 64)
        (e : x ≡ word_of (fit 64 (drop (start + done) (bits_of_all 64 ws)))) (f : y ≡ 2 ^ m - 1) where
      bits : bits_of m x ≡ view (start + done) m ws
      bits = read_bits (start + done) m x ws few (omega arith) e

      -- how many it sets
      pub part_count : ones (bit_and x y) ≡ count (view (start + done) m ws)
      part_count = low_count m x y f ∙ ap count bits

      split : rest done ≡ view (start + done) m ws ++ rest (done + m)
      split =
          let n-is : n - done ≡ m + (n - (done + m)) = omega arith in
          let place : start + done + m ≡ start + (done + m) = omega arith in
          ap (λ (k : ℕ). view (start + done) k ws) n-is ∙ view_parts (start + done) m (n - (done + m)) ws
          ∙ ap (λ (k : ℕ). view (start + done) m ws ++ view k (n - (done + m)) ws) place

      pub part_few : sum + ones (bit_and x y) ≤ n
      part_few =
          let joined = count_append (view (start + done) m ws) (rest (done + m)) in
          omega (arith, part_count, c.counted, ap count split, joined, count_le_length whole, view_length start n ws room)

      pub copying_part : then ≡ laid (at + done) (bits_of m x) out → Copying (done + m) (sum + ones (bit_and x y)) out₀ then
      copying_part t =
          let p = view (start + done) m ws in
          let long : length p ≡ m = view_length (start + done) m ws (omega arith) in
          record {
            within = in_rest;
            counted = omega (arith, part_count, c.counted, ap count split, count_append p (rest (done + m)));
            progress =
                progress_part whole p (rest (done + m)) at done (done + m) out₀ out then (ap (λ (k : ℕ). done + k) (sym long))
                (t ∙ ap (λ (l : List Bool). laid (at + done) l out) bits)
                (progress_as whole (rest done) (p ++ rest (done + m)) at done out₀ out split c.progress);
          }

    pub copying_all : n ≤ done → (sum ≡ count (view start n ws)) × (out ≡ laid at (view start n ws) out₀)
    copying_all h =
        let end : n - done ≡ 0 = omega (arith, c.within) in
        let none : rest done ≡ [] = ap (λ (k : ℕ). view (start + done) k ws) end in
        let p = c.progress in (
          omega (arith, c.counted, ap count none),
          p.lies ∙ ap (λ (l : List Bool). laid at l out₀) (sym (p.parts ∙ ap (λ (l : List Bool). p.front ++ l) none ∙ append-nil p.front)),
        )
