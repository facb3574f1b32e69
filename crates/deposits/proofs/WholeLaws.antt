-- Whole words of self, stored as words: a word's deposit is one chunk more of the composition, and the rows after the last whole word are laid
-- after it. By the laws of a chunk.
-- Assumes nothing.
use Prim.Native.Nat.{ℕ, ◌+◌, ◌*◌, ◌^◌, ◌≤◌, ◌<◌}
use mathlib.Core.Path.{◌≡◌, refl, sym, ap, ap₂, ◌∙◌, subst}
use mathlib.Core.Bool.{Bool}
use mathlib.Core.List.{List, []}
use native.Mathlib.Omega.{arith}
use native.Mathlib.Nat.{zero-add}
use lib.ListN.{length, take, drop, set, length-drop, length-set}
use lib.Seq.{drop-drop}
use lib.Count.{ones}
use Rattle.rows.specs.Rows.{count, compose}
use Rattle.rows.specs.Word.{bits_of, word_of}
use Rattle.rows.specs.Words.{Below, fit, bits_of_all, view}
use Rattle.rows.specs.Lists.{tab}
use Rattle.rows.specs.Pdep.{pdep}
use Rattle.rows.specs.Laid.{laid}
use Rattle.rows.proofs.RowLaws.{count_split, count_take_le, compose_length}
use Rattle.rows.proofs.WordLaws.{bits_of_length, word_of_lt, ones_word}
use Rattle.rows.proofs.WordsLaws.{bits_of_all_length}
use Rattle.rows.proofs.FitLaws.{fit_is_take, compose_cut}
use Rattle.rows.proofs.PdepLaws.{pdep_is}
use Rattle.rows.proofs.LaidLaws.{below_set, laid_nil, laid_length, laid_word}
use Rattle.rows.proofs.BehindLaws.{below_laid}
use Rattle.books.proofs.GatherLaws.{tab_part}
use Rattle.deposits.proofs.DepositLaws.{rank_turn, rank_within, laid_turn, chunk_turn, chunk_few}

pdep_small : (source mask : ℕ) → pdep 64 source mask < 2 ^ 64
pdep_small source mask =
    let c = compose (bits_of 64 mask) (bits_of 64 source) in
    let long : length c ≡ 64 = compose_length (bits_of 64 mask) (bits_of 64 source) ∙ bits_of_length 64 mask in
    subst (λ (x : ℕ). x < 2 ^ 64) (sym (pdep_is 64 source mask)) (subst (λ (k : ℕ). word_of c < 2 ^ k) long (word_of_lt c))

-- the words before i are stored: the rank after them, and the words of the output
pub record Stored (start to : ℕ) (ws out₀ : List ℕ) (r : List Bool) (i rank : ℕ) (out : List ℕ) : Type 0 where
  pub few : rank ≤ i * 64
  pub counted : rank ≡ count (view start (i * 64) ws)
  pub long : length out ≡ length out₀
  pub below : Below (2 ^ 64) out
  pub composed : out ≡ laid (to * 64) (compose (view start (i * 64) ws) r) out₀

pub stored_none : (start to : ℕ) (ws out : List ℕ) (r : List Bool) → Below (2 ^ 64) out → Stored start to ws out r 0 0 out
stored_none start to ws out r b = record { few = omega arith; counted = refl; long = refl; below = b; composed = sym (laid_nil 64 (to * 64) out b) }

module _ (start i to : ℕ) (ws out : List ℕ) (r : List Bool) (reach : start + i * 64 + 64 ≤ length ws * 64) where
  next : i * 64 + 64 ≡ (i + 1) * 64
  next = omega arith

  -- the rank after a word
  pub whole_rank : count (view start ((i + 1) * 64) ws) ≡ count (view start (i * 64) ws) + ones (word_of (fit 64 (drop (start + i * 64) (bits_of_all 64 ws))))
  whole_rank = ap (λ (k : ℕ). count (view start k ws)) (sym next) ∙ rank_turn start (i * 64) 64 (to * 64) ws out r reach

  -- its deposit, after what was laid before
  whole_turn : (source : ℕ)
      → compose (fit 64 (drop (start + i * 64) (bits_of_all 64 ws))) (bits_of 64 source) ≡ compose (fit 64 (drop (start + i * 64) (bits_of_all 64 ws))) (drop (count (view start (i * 64) ws)) r)
      → laid ((to + i) * 64) (bits_of 64 (pdep 64 source (word_of (fit 64 (drop (start + i * 64) (bits_of_all 64 ws)))))) (laid (to * 64) (compose (view start (i * 64) ws) r) out)
      ≡ laid (to * 64) (compose (view start ((i + 1) * 64) ws) r) out
  whole_turn source same =
      let t = fit 64 (drop (start + i * 64) (bits_of_all 64 ws)) in
      let before = laid (to * 64) (compose (view start (i * 64) ws) r) out in
      let place : (to + i) * 64 ≡ to * 64 + i * 64 = omega arith in
      ap (λ (k : ℕ). laid k (bits_of 64 (pdep 64 source (word_of t))) before) place
      ∙ chunk_turn start (i * 64) 64 (to * 64) ws out r reach (omega arith) source same
      ∙ ap (λ (k : ℕ). laid (to * 64) (compose (view start k ws) r) out) next

  abbrev rows : List Bool
  rows = drop (start + i * 64) (bits_of_all 64 ws)

  -- one word more stored: the deposit of a source whose first bits are those of the ranks from the rank on
  pub stored_word : (rank mask source word : ℕ) (o : List ℕ) → Stored start to ws out r i rank o → mask ≡ word_of (fit 64 rows)
      → compose (fit 64 rows) (bits_of 64 source) ≡ compose (fit 64 rows) (drop (count (view start (i * 64) ws)) r)
      → word ≡ pdep 64 source mask → Stored start to ws out r (i + 1) (rank + ones mask) (set o (to + i) word)
  stored_word rank mask source word o s m same e =
      let lt : word < 2 ^ 64 = subst (λ (x : ℕ). x < 2 ^ 64) (sym e) (pdep_small source mask) in
      record {
        few = omega (arith, s.few, ap ones m, chunk_few 64 rows);
        counted = ap₂ (λ (x y : ℕ). x + ones y) s.counted m ∙ sym whole_rank;
        long = length-set o (to + i) word ∙ s.long;
        below = below_set (2 ^ 64) o (to + i) word lt s.below;
        composed = laid_word 64 (to + i) word o lt s.below
            ∙ ap₂ (λ (x : ℕ) (l : List ℕ). laid ((to + i) * 64) (bits_of 64 x) l) (e ∙ ap (pdep 64 source) m) s.composed
            ∙ whole_turn source same;
      }

-- ---- a turn of a loop over words

-- a word's ranks are below the count of all
pub word_ranked : (start i n : ℕ) (ws : List ℕ) → start + n * 64 ≤ length ws * 64 → i < n
    → 0 + count (view start (i * 64) ws) + count (fit 64 (drop (start + i * 64) (bits_of_all 64 ws))) ≤ count (view start (n * 64) ws)
word_ranked start i n ws room h =
    omega
    (arith, whole_rank start i 0 ws [] [] (omega arith), ones_word (fit 64 (drop (start + i * 64) (bits_of_all 64 ws))), rank_within start ((i + 1) * 64) (n * 64) ws (omega arith))

-- all words are stored
pub stored_all : (start to : ℕ) (ws out : List ℕ) (r : List Bool) (n i rank : ℕ) (o : List ℕ) → Stored start to ws out r i rank o → i ≡ n
    → (rank ≡ count (view start (n * 64) ws)) × (o ≡ laid (to * 64) (compose (view start (n * 64) ws) r) out)
stored_all start to ws out r n i rank o s e = (
  s.counted ∙ ap (λ (k : ℕ). count (view start (k * 64) ws)) e,
  s.composed ∙ ap (λ (k : ℕ). laid (to * 64) (compose (view start (k * 64) ws) r) out) e,
)

-- ---- the rows that are left, after the whole words
pub whole_and_rest : (start at done rest : ℕ) (ws out : List ℕ) (r : List Bool) → start + done + rest ≤ length ws * 64
    → laid (at + done) (compose (view (start + done) rest ws) (drop (count (view start done ws)) r)) (laid at (compose (view start done ws) r) out)
    ≡ laid at (compose (view start (done + rest) ws) r) out
whole_and_rest start at done rest ws out r room =
    let bs = bits_of_all 64 ws in
    let left : view (start + done) rest ws ≡ fit rest (drop (start + done) bs) = sym (fit_is_take rest (drop (start + done) bs) (omega (arith, length-drop (start + done) bs, bits_of_all_length 64 ws))) in
    ap (λ (l : List Bool). laid (at + done) (compose l (drop (count (view start done ws)) r)) (laid at (compose (view start done ws) r) out)) left
    ∙ laid_turn start done rest at ws out r room

-- their counts
pub count_rest : (start done rest : ℕ) (ws : List ℕ) → count (view start done ws) + count (view (start + done) rest ws) ≡ count (view start (done + rest) ws)
count_rest start done rest ws =
    let bs = drop start (bits_of_all 64 ws) in
    ap (λ (l : List Bool). count (view start done ws) + count (take rest l)) (sym (drop-drop done start (bits_of_all 64 ws))) ∙ sym (count_split done rest bs)

-- ranks past self's count do not matter
pub ranks_more : (s : List Bool) (k m : ℕ) (f : ℕ → Bool) → count s ≤ k → k ≤ m → compose s (tab 0 k f) ≡ compose s (tab 0 m f)
ranks_more s k m f h le = ap (compose s) (sym (tab_part 0 m 0 k f (omega arith))) ∙ compose_cut k s (tab 0 m f) h

-- the ranks after those of what stands before, as many as are left
pub ranks_after : (s : List Bool) (first total : ℕ) (f : ℕ → Bool) → first + count s ≡ total → compose s (tab first (count s) f) ≡ compose s (drop first (tab 0 total f))
ranks_after s first total f all =
    ap (compose s) (ap (λ (k : ℕ). tab k (count s) f) (sym (zero-add first)) ∙ sym (tab_part 0 total first (count s) f (omega arith)))
    ∙ compose_cut (count s) s (drop first (tab 0 total f)) (omega arith)

-- words one after the other, stored from those on that were stored before: as many as they are, by ranks that are those from there on
pub stored_part : (start to : ℕ) (ws out : List ℕ) (r : List Bool) (i n rank : ℕ) (p : List Bool) (o then : List ℕ) → Stored start to ws out r i rank o
    → start + (i + n) * 64 ≤ length ws * 64
    → compose (view (start + i * 64) (n * 64) ws) p ≡ compose (view (start + i * 64) (n * 64) ws) (drop rank r)
    → then ≡ laid ((to + i) * 64) (compose (view (start + i * 64) (n * 64) ws) p) o
    → Stored start to ws out r (i + n) (rank + count (view (start + i * 64) (n * 64) ws)) then
stored_part start to ws out r i n rank p o then s reach same e =
    let part = view (start + i * 64) (n * 64) ws in
    let done = view start (i * 64) ws in
    let rows : i * 64 + n * 64 ≡ (i + n) * 64 = omega arith in
    let place : (to + i) * 64 ≡ to * 64 + i * 64 = omega arith in
    let on : then ≡ laid (to * 64) (compose (view start ((i + n) * 64) ws) r) out =
    e ∙ ap₂ (λ (k : ℕ) (l : List Bool). laid k l o) place (same ∙ ap (λ (k : ℕ). compose part (drop k r)) s.counted)
    ∙ ap (laid (to * 64 + i * 64) (compose part (drop (count done) r))) s.composed
    ∙ whole_and_rest start (to * 64) (i * 64) (n * 64) ws out r (omega arith)
    ∙ ap (λ (k : ℕ). laid (to * 64) (compose (view start k ws) r) out) rows in
    record {
      few = omega (arith, s.few, count_take_le (n * 64) (drop (start + i * 64) (bits_of_all 64 ws)));
      counted = ap (λ (k : ℕ). k + count part) s.counted ∙ count_rest start (i * 64) (n * 64) ws ∙ ap (λ (k : ℕ). count (view start k ws)) rows;
      long = ap length on ∙ laid_length 64 (to * 64) (compose (view start ((i + n) * 64) ws) r) out;
      below = subst (Below (2 ^ 64)) (sym on) (below_laid 64 (to * 64) (compose (view start ((i + n) * 64) ws) r) out);
      composed = on;
    }
