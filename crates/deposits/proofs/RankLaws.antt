-- The rank bits of a chunk, read or gathered: the first of them, as many as the chunk sets, are the ranks that a table tells, and those are all
-- that composition takes. By the laws of fitted lists. Assumes nothing.
use Prim.Native.Nat.{ℕ, ◌+◌, ◌≤◌, ◌<◌}
use mathlib.Core.Path.{◌≡◌, sym, ap, ap₂, ◌∙◌}
use mathlib.Core.Bool.{Bool, false}
use mathlib.Core.List.{List}
use native.Mathlib.Omega.{arith}
use lib.ListN.{take, drop, get_or}
use lib.Seq.{drop-drop, get_or-drop}
use lib.Count.{ones}
use Rattle.std.proofs.lemmas.List.{ext_get_or}
use Rattle.rows.specs.Rows.{count, compose}
use Rattle.rows.specs.Word.{bits_of, word_of}
use Rattle.rows.specs.Words.{fit}
use Rattle.rows.specs.Lists.{tab}
use Rattle.rows.proofs.WordLaws.{ones_word}
use Rattle.rows.proofs.WordsLaws.{fit_length, fit_at, fit_all, bits_of_word_of_fit}
use Rattle.rows.proofs.ListLaws.{tab_length, tab_at}
use Rattle.rows.proofs.FitLaws.{take_fit, compose_fit, compose_cut}
use Rattle.books.proofs.GatherLaws.{tab_part}

-- rows from row b on, as a table
fit_tab : (b n : ℕ) (bs : List Bool) → fit n (drop b bs) ≡ tab b n (λ k. get_or bs k false)
fit_tab b n bs =
    let f : ℕ → Bool = λ k. get_or bs k false in
    ext_get_or false (fit n (drop b bs)) (tab b n f) (fit_length n (drop b bs) ∙ sym (tab_length b n f))
    (λ i h. let le : i < n = omega (arith, fit_length n (drop b bs)) in fit_at n (drop b bs) i le ∙ get_or-drop b bs i false ∙ sym (tab_at b n f i le))

-- read, 64 of them
pub read_told : (rank set bits from : ℕ) (bs : List Bool) → set ≤ 64 → bits ≡ word_of (fit 64 (drop (from + rank) bs))
    → take set (bits_of 64 bits) ≡ tab rank set (λ k. get_or (drop from bs) k false)
read_told rank set bits from bs few is =
    let r = drop (from + rank) bs in
    ap (take set) (ap (bits_of 64) is ∙ bits_of_word_of_fit 64 (fit 64 r) ∙ fit_all 64 (fit 64 r) (fit_length 64 r))
    ∙ take_fit set 64 r few
    ∙ ap (fit set) (sym (drop-drop rank from bs))
    ∙ fit_tab rank set (drop from bs)

-- gathered, as many as are asked for
pub gathered_told : (rank set bits : ℕ) (f : ℕ → Bool) → set ≤ 64 → bits ≡ word_of (tab rank set f) → take set (bits_of 64 bits) ≡ tab rank set f
gathered_told rank set bits f few is =
    ap (take set) (ap (bits_of 64) is ∙ bits_of_word_of_fit 64 (tab rank set f))
    ∙ take_fit set 64 (tab rank set f) few
    ∙ fit_all set (tab rank set f) (tab_length rank set f)

-- a chunk takes from them what it takes from all of the table
pub ranks_told : (t : List Bool) (first passed total rank mask bits : ℕ) (f : ℕ → Bool) → passed + count t ≤ total → rank ≡ first + passed → mask ≡ word_of t
    → take (ones mask) (bits_of 64 bits) ≡ tab rank (ones mask) f → compose t (bits_of 64 bits) ≡ compose t (drop passed (tab first total f))
ranks_told t first passed total rank mask bits f room at is told =
    let set : ones mask ≡ count t = ap ones is ∙ ones_word t in
    sym (compose_cut (count t) t (bits_of 64 bits) (omega arith))
    ∙ ap (compose t)
    (ap (λ (k : ℕ). take k (bits_of 64 bits)) (sym set) ∙ told ∙ ap₂ (λ (x y : ℕ). tab x y f) at set ∙ sym (tab_part first total passed (count t) f room))
    ∙ compose_cut (count t) t (drop passed (tab first total f)) (omega arith)

-- all rank bits, read from words
pub read_all : (s bs : List Bool) → compose s (tab 0 (count s) (λ k. get_or bs k false)) ≡ compose s bs
read_all s bs = ap (compose s) (sym (fit_tab 0 (count s) bs)) ∙ compose_fit (count s) s bs (omega arith)
