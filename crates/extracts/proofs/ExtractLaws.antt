-- The ranks of a chunk, extracted, and what a loop keeps that lays them chunk by chunk: a law for no chunk, a law for one more, and a law for the end.
-- By the published PEXT as recovery, and both masks cut at the same row. Assumes nothing.
use Prim.Native.Nat.{ℕ, zero, suc, ◌+◌, ◌-◌, ◌*◌, ◌/◌, ◌^◌, ◌≤◌}
use mathlib.Core.Path.{◌≡◌, refl, sym, ap, ap₂, ◌∙◌, subst}
use mathlib.Core.Bool.{Bool}
use mathlib.Core.List.{List, [], ◌∷◌, ◌++◌, append-nil}
use native.Mathlib.Omega.{arith}
use lib.Count.{ones}
use lib.ListN.{length, take, drop, length-append, length-take, length-drop, take-append-drop, drop_of_length-le}
use lib.Seq.{drop-drop}
use Rattle.rows.specs.Rows.{count, rank_at, recover}
use Rattle.rows.specs.Word.{bits_of, word_of}
use Rattle.rows.specs.Words.{Below, fit, view}
use Rattle.rows.specs.Pdep.{pext}
use Rattle.rows.specs.Laid.{laid}
use Rattle.rows.proofs.RowLaws.{count_append, count_split, count_take_le}
use Rattle.rows.proofs.WordLaws.{bits_of_length, bits_of_add, bits_of_word_of_at, ones_word}
use Rattle.rows.proofs.WordsLaws.{bits_of_word_of_fit, view_length}
use Rattle.rows.proofs.FitLaws.{fit_append}
use Rattle.rows.proofs.PdepLaws.{pext_is}
use Rattle.rows.proofs.RecoverLaws.{recover_length, recover_append}
use Rattle.rules.specs.Operand.{Operand, rows_of, length_of, Accepted}
use Rattle.rules.proofs.OperandLaws.{accepted_length}
use Rattle.extracts.specs.Stored.{Stored}
use Rattle.extracts.proofs.OpenLaws.{Open, open_none, open_part, open_as, open_end}

-- a word has its rows, and unset ones above them
padded : (w : ℕ) (s : List Bool) → length s ≤ w → bits_of w (word_of s) ≡ s ++ fit (w - length s) []
padded w s h =
    let e : length s + (w - length s) ≡ w = omega arith in
    bits_of_word_of_fit w s ∙ ap₂ fit (sym e) (sym (append-nil s)) ∙ fit_append s [] (w - length s)

nothing : (n : ℕ) (k : List Bool) → recover (fit n []) k ≡ []
nothing zero k = refl
nothing (suc n) [] = nothing n []
nothing (suc n) (x ∷ k) = nothing n k

-- the extracted word of a chunk is its ranks
pub chunk_ranks : (s k : List Bool) → length k ≡ length s → length s ≤ 64 → bits_of (ones (word_of s)) (pext 64 (word_of k) (word_of s)) ≡ recover s k
chunk_ranks s k e h =
    let above = fit (64 - length s) [] in
    let is : pext 64 (word_of k) (word_of s) ≡ word_of (recover s k) =
    pext_is 64 (word_of k) (word_of s)
    ∙ ap word_of
    (ap₂ recover (padded 64 s h) (padded 64 k (omega arith))
    ∙ recover_append s above k (fit (64 - length k) []) e
    ∙ ap (λ (l : List Bool). recover s k ++ l) (nothing (64 - length s) (fit (64 - length k) []))
    ∙ append-nil (recover s k)) in
    ap₂ bits_of (ones_word s) is ∙ bits_of_word_of_at (count s) (recover s k) (recover_length s k)

-- ---- what a loop keeps that lays the ranks of the rows before `row`

module _ (s k : List Bool) (at : ℕ) where
  pub record Extracting (row rank : ℕ) (out₀ out : List ℕ) : Type 0 where
    pub ranked : rank ≡ rank_at s row
    pub progress : Open (recover s k) at rank (recover (drop row s) (drop row k)) out₀ out

  pub extracting_none : (out : List ℕ) → Below (2 ^ 64) out → at + count s ≤ length out * 64 → Extracting 0 0 out out
  extracting_none out small room =
      record { ranked = refl; progress = open_none (recover s k) at out small (omega (arith, recover_length s k, room)) }

  module _ (same : length k ≡ length s) (row rank : ℕ) (out₀ out : List ℕ) (r : Extracting row rank out₀ out) where
    -- what is known of the output's room
    pub extracting_room : (n : ℕ) → rank + count (take n (drop row s)) ≤ count s
    extracting_room n =
        let all : count s ≡ count (take (row + n) s) + count (drop (row + n) s) =
        ap count (sym (take-append-drop (row + n) s)) ∙ count_append (take (row + n) s) (drop (row + n) s) in
        omega (arith, all, count_split row n s, r.ranked)

    -- n rows more, or as many as there are: their ranks are stored
    module _ (n : ℕ) (few : n ≤ 64) (end mask source : ℕ) (then : List ℕ) (last : end ≡ at + count s) (m : mask ≡ word_of (take n (drop row s)))
        (q : source ≡ word_of (take n (drop row k))) (stored : Stored (at + rank) end (ones mask) (pext 64 source mask) out then) where
      abbrev s₁ : List Bool
      s₁ = take n (drop row s)

      abbrev k₁ : List Bool
      k₁ = take n (drop row k)

      abbrev left : List Bool
      left = recover (drop (row + n) s) (drop (row + n) k)

      long : length k₁ ≡ length s₁
      long = omega (arith, length-take n (drop row k), length-take n (drop row s), length-drop row k, length-drop row s)

      cut : (l : List Bool) → drop row l ≡ take n (drop row l) ++ drop (row + n) l
      cut l = sym (take-append-drop n (drop row l)) ∙ ap (λ (t : List Bool). take n (drop row l) ++ t) (drop-drop n row l)

      parts : recover (drop row s) (drop row k) ≡ recover s₁ k₁ ++ left
      parts = ap₂ recover (cut s) (cut k) ∙ recover_append s₁ (drop (row + n) s) k₁ (drop (row + n) k) long

      -- how many they are
      set : ones mask ≡ count s₁
      set = ap ones m ∙ ones_word s₁

      own : bits_of (ones mask) (pext 64 source mask) ≡ recover s₁ k₁
      own = ap₂ (λ (x y : ℕ). bits_of (ones x) (pext 64 y x)) m q ∙ chunk_ranks s₁ k₁ long (omega (arith, length-take n (drop row s)))

      -- the bits stored are theirs, and what the rest will be laid over
      abbrev more : List Bool
      more = bits_of (stored.many - ones mask) (pext 64 source mask / 2 ^ ones mask)

      bits : bits_of stored.many (pext 64 source mask) ≡ recover s₁ k₁ ++ more
      bits =
          let all : stored.many ≡ ones mask + (stored.many - ones mask) = omega (arith, stored.enough) in
          ap (λ (x : ℕ). bits_of x (pext 64 source mask)) all ∙ bits_of_add (ones mask) (stored.many - ones mask) (pext 64 source mask)
          ∙ ap (λ (l : List Bool). l ++ more) own

      room : length (recover s₁ k₁) + length more ≤ length (recover s₁ k₁) + length left
      room =
          let whole = ap length r.progress.parts ∙ length-append r.progress.front (recover (drop row s) (drop row k)) in
          let split = ap length parts ∙ length-append (recover s₁ k₁) left in
          omega (
            arith,
            whole,
            split,
            r.progress.passed,
            recover_length s k,
            recover_length s₁ k₁,
            set,
            stored.within,
            stored.enough,
            bits_of_length (stored.many - ones mask) (pext 64 source mask / 2 ^ ones mask),
          )

      pub extracting_chunk : (past : ℕ) → past ≡ rank + ones mask → Extracting (row + n) past out₀ then
      extracting_chunk past e = record {
        ranked = e ∙ ap₂ (λ (x y : ℕ). x + y) r.ranked set ∙ sym (count_split row n s);
        progress =
            open_part (recover s k) (recover s₁ k₁) left more at rank past out₀ out then
            (e ∙ ap (λ (x : ℕ). rank + x) (set ∙ sym (recover_length s₁ k₁))) room (stored.lies ∙ ap (λ (l : List Bool). laid (at + rank) l out) bits)
            (open_as (recover s k) (recover (drop row s) (drop row k)) (recover s₁ k₁ ++ left) at rank out₀ out parts r.progress);
      }

    -- a chunk whose rows are in words: how many ranks it has, and what it is once its extracted word is stored
    module _ (n mask set : ℕ) (few : n ≤ 64) (total : set ≡ count s) (m : mask ≡ word_of (take n (drop row s))) where
      pub extracting_few : (ones mask ≤ 64) × (rank + ones mask ≤ set)
      extracting_few =
          let own : ones mask ≡ count (take n (drop row s)) = ap ones m ∙ ones_word (take n (drop row s)) in
          (omega (arith, own, count_take_le n (drop row s)), omega (arith, own, extracting_room n, total))

      pub extracting_stored : (source bits past next : ℕ) (then : List ℕ) → source ≡ word_of (take n (drop row k)) → bits ≡ pext 64 source mask
          → Stored (at + rank) (at + set) (ones mask) bits out then → past ≡ rank + ones mask → row + n ≡ next → Extracting next past out₀ then
      extracting_stored source bits past next then q b stored e f =
          subst (λ (x : ℕ). Extracting x past out₀ then) f
          (extracting_chunk n few (at + set) mask source then (ap (λ (x : ℕ). at + x) total) m q
          (subst (λ (x : ℕ). Stored (at + rank) (at + set) (ones mask) x out then) b stored) past e)

    -- the row said otherwise
    pub extracting_at : (next : ℕ) → row ≡ next → Extracting next rank out₀ out
    extracting_at next e = subst (λ (x : ℕ). Extracting x rank out₀ out) e r

    -- no row is left
    pub extracting_end : length s ≤ row → out ≡ laid at (recover s k) out₀
    extracting_end h =
        let none : recover (drop row s) (drop row k) ≡ [] = ap (λ (l : List Bool). recover l (drop row k)) (drop_of_length-le s {i = row} h) in
        open_end (recover s k) at rank out₀ out (open_as (recover s k) (recover (drop row s) (drop row k)) [] at rank out₀ out none r.progress)

-- two masks of one length that are read from words
pub views_same : (start from len : ℕ) (ws ks : List ℕ) → start + len ≤ length ws * 64 → from + len ≤ length ks * 64
    → length (view from len ks) ≡ length (view start len ws)
views_same start from len ws ks h k = view_length from len ks k ∙ sym (view_length start len ws h)

-- and two that are accepted
pub accepted_same : (o p : Operand) → Accepted o → Accepted p → length_of p.form ≡ length_of o.form → length (rows_of p) ≡ length (rows_of o)
accepted_same o p a b e = accepted_length p b ∙ e ∙ sym (accepted_length o a)
