-- One chunk of self with its rank bits deposited is one chunk more of the composition. By PDEP against composition, and by
-- the split law: the ranks of a chunk start at the count of what stands before it.
-- Assumes nothing.
use Prim.Native.Nat.{ℕ, ◌+◌, ◌-◌, ◌*◌, ◌^◌, ◌≤◌, ◌<◌, min}
use mathlib.Core.Path.{◌≡◌, refl, sym, ap, ap₂, ◌∙◌, subst}
use mathlib.Core.Bool.{Bool}
use mathlib.Core.List.{List}
use native.Mathlib.Omega.{arith}
use native.Mathlib.Nat.{add-zero, add_assoc, zero-add}
use lib.ListN.{length, take, drop, take-append-drop}
use lib.Seq.{take-take}
use lib.Count.{ones}
use Rattle.rows.specs.Rows.{count, compose}
use Rattle.rows.specs.Word.{bits_of, word_of}
use Rattle.rows.specs.Words.{Below, fit, bits_of_all, view}
use Rattle.rows.specs.Lists.{tab}
use Rattle.rows.specs.Pdep.{pdep}
use Rattle.rows.specs.Laid.{laid}
use Rattle.rows.proofs.RowLaws.{count_append, count_le_length, compose_length}
use Rattle.rows.proofs.WordLaws.{ones_word}
use Rattle.rows.proofs.WordsLaws.{fit_length, fit_all, bits_of_word_of_fit, view_length}
use Rattle.rows.proofs.FitLaws.{fit_is_take, take_fit, compose_split, compose_take, compose_fit, compose_cut, view_step}
use Rattle.rows.proofs.PdepLaws.{pdep_is}
use Rattle.rows.proofs.LaidLaws.{laid_nil, laid_length, laid_append}
use Rattle.books.proofs.GatherLaws.{tab_part}

-- t is a chunk of n rows, r the ranks from its first on, and the source has as many of them as t sets
deposited_chunk : (n source : ℕ) (t r : List Bool) → length t ≡ n → n ≤ 64 → compose t (bits_of 64 source) ≡ compose t r → bits_of n (pdep 64 source (word_of t)) ≡ compose t r
deposited_chunk n source t r long short same =
    let c = compose (bits_of 64 (word_of t)) (bits_of 64 source) in
    let size : length c ≡ 64 = compose_length (bits_of 64 (word_of t)) (bits_of 64 source) ∙ ap length (bits_of_word_of_fit 64 t) ∙ fit_length 64 t in
    ap (bits_of n) (pdep_is 64 source (word_of t)) ∙ bits_of_word_of_fit n c ∙ fit_is_take n c (omega arith) ∙ compose_take n (bits_of 64 (word_of t)) (bits_of 64 source)
    ∙ ap (λ (s : List Bool). compose s (bits_of 64 source)) (ap (take n) (bits_of_word_of_fit 64 t) ∙ take_fit n 64 t short ∙ fit_all n t long) ∙ same

-- how many rows a chunk has, by the rows that are left
pub chunk_sized : (n row len : ℕ) → row < len → n ≡ min 64 (len - row) → (0 < n) × (n ≤ 64) × (row + n ≤ len)
chunk_sized n row len h e = (omega arith, omega arith, omega arith)

-- a chunk has no more set rows than rows
pub chunk_few : (n : ℕ) (bs : List Bool) → ones (word_of (fit n bs)) ≤ n
chunk_few n bs = omega (arith, ones_word (fit n bs), count_le_length (fit n bs), fit_length n bs)

-- the rows before `row` are laid from a first rank on: the rank after them, and the words of the output
pub record Deposited (start at first : ℕ) (ws out₀ : List ℕ) (r : List Bool) (row rank : ℕ) (out : List ℕ) : Type 0 where
  pub few : rank ≤ first + row
  pub counted : rank ≡ first + count (view start row ws)
  pub long : length out ≡ length out₀
  pub composed : out ≡ laid at (compose (view start row ws) r) out₀

pub deposited_none : (start at first : ℕ) (ws out : List ℕ) (r : List Bool) → Below (2 ^ 64) out → Deposited start at first ws out r 0 first out
deposited_none start at first ws out r b =
    record { few = omega arith; counted = sym (add-zero first); long = refl; composed = sym (laid_nil 64 at out b) }

module _ (start row n at : ℕ) (ws out : List ℕ) (r : List Bool) (reach : start + row + n ≤ length ws * 64) where
  abbrev done : List Bool
  done = view start row ws

  abbrev next : List Bool
  next = fit n (drop (start + row) (bits_of_all 64 ws))

  -- the rank after the chunk
  pub rank_turn : count (view start (row + n) ws) ≡ count (view start row ws) + ones (word_of (fit n (drop (start + row) (bits_of_all 64 ws))))
  rank_turn = ap count (view_step start row n ws reach) ∙ count_append done next ∙ ap (λ (k : ℕ). count done + k) (sym (ones_word next))

  -- the chunk laid after what was laid before
  pub laid_turn : laid (at + row) (compose next (drop (count done) r)) (laid at (compose done r) out) ≡ laid at (compose (view start (row + n) ws) r) out
  laid_turn =
      laid_append 64 at (at + row) (compose done r) (compose next (drop (count done) r)) out
      (ap (λ (k : ℕ). at + k) (sym (compose_length done r ∙ view_length start row ws (omega arith))))
      ∙ ap (λ (l : List Bool). laid at l out) (sym (ap (λ (s : List Bool). compose s r) (view_step start row n ws reach) ∙ compose_split done next r))

  -- its deposit, laid after what was laid before
  pub chunk_turn : n ≤ 64 → (source : ℕ)
      → compose (fit n (drop (start + row) (bits_of_all 64 ws))) (bits_of 64 source) ≡ compose (fit n (drop (start + row) (bits_of_all 64 ws))) (drop (count (view start row ws)) r)
      → laid (at + row) (bits_of n (pdep 64 source (word_of (fit n (drop (start + row) (bits_of_all 64 ws)))))) (laid at (compose (view start row ws) r) out)
      ≡ laid at (compose (view start (row + n) ws) r) out
  chunk_turn short source same =
      ap (λ (l : List Bool). laid (at + row) l (laid at (compose done r) out)) (deposited_chunk n source next (drop (count done) r) (fit_length n (drop (start + row) (bits_of_all 64 ws))) short same)
      ∙ laid_turn

  -- one chunk more
  pub deposited_turn : n ≤ 64 → (first rank mask source : ℕ) (o then : List ℕ) → Deposited start at first ws out r row rank o
      → mask ≡ word_of next
      → compose next (bits_of 64 source) ≡ compose next (drop (count done) r)
      → then ≡ laid (at + row) (bits_of n (pdep 64 source mask)) o → Deposited start at first ws out r (row + n) (rank + ones mask) then
  deposited_turn short first rank mask source o then d m same e =
      let on : then ≡ laid at (compose (view start (row + n) ws) r) out =
      e ∙ ap₂ (λ (x : ℕ) (l : List ℕ). laid (at + row) (bits_of n (pdep 64 source x)) l) m d.composed ∙ chunk_turn short source same in
      record {
        few = omega (arith, d.few, ap ones m, chunk_few n (drop (start + row) (bits_of_all 64 ws)));
        counted = ap₂ (λ (x y : ℕ). x + ones y) d.counted m ∙ add_assoc first (count done) (ones (word_of next))
            ∙ ap (λ (k : ℕ). first + k) (sym rank_turn);
        long = ap length on ∙ laid_length 64 at (compose (view start (row + n) ws) r) out;
        composed = on;
      }

-- rank bits gathered from a list or from runs: those of a part of the ranks, as many as the chunk sets
pub gathered_same : (t : List Bool) (rank len : ℕ) (f : ℕ → Bool) → length t ≤ 64 → rank + count t ≤ len
    → compose t (bits_of 64 (word_of (tab rank (count t) f))) ≡ compose t (drop rank (tab 0 len f))
gathered_same t rank len f short room =
    let part = take (count t) (drop rank (tab 0 len f)) in
    ap (λ (l : List Bool). compose t (bits_of 64 (word_of l))) (sym (tab_part 0 len rank (count t) f room ∙ ap (λ (k : ℕ). tab k (count t) f) (zero-add rank)))
    ∙ ap (compose t) (bits_of_word_of_fit 64 part) ∙ compose_fit 64 t part (omega (arith, count_le_length t)) ∙ compose_cut (count t) t (drop rank (tab 0 len f)) (omega arith)

-- what is passed has no more set rows than all
pub rank_within : (start row len : ℕ) (ws : List ℕ) → row ≤ len → count (view start row ws) ≤ count (view start len ws)
rank_within start row len ws h =
    let bs = drop start (bits_of_all 64 ws) in
    omega (arith, ap count (sym (take-take row len bs h)), count_append (take row (take len bs)) (drop row (take len bs)), ap count (take-append-drop row (take len bs)))

-- ---- a turn of a loop over chunks

module _ (start len at first row rank n mask : ℕ) (ws out₀ out : List ℕ) (r : List Bool) (room : start + len ≤ length ws * 64)
    (d : Deposited start at first ws out₀ r row rank out) (before : row < len) (size : n ≡ min 64 (len - row))
    (is : mask ≡ word_of (fit n (drop (start + row) (bits_of_all 64 ws)))) where
  abbrev rows : List Bool
  rows = drop (start + row) (bits_of_all 64 ws)

  pub mask_few : ones mask ≤ 64
  mask_few = omega (arith, ap ones is, chunk_few n rows)

  -- the chunk's ranks are below the count of all
  pub chunk_ranked : first + count (view start row ws) + count (fit n (drop (start + row) (bits_of_all 64 ws))) ≤ first + count (view start len ws)
  chunk_ranked = omega (arith, rank_turn start row n at ws out₀ r (omega arith), ones_word (fit n rows), rank_within start (row + n) len ws (omega arith))

  pub chunk_deposited : (source past : ℕ) (then : List ℕ) → past ≡ row + n
      → compose (fit n (drop (start + row) (bits_of_all 64 ws))) (bits_of 64 source) ≡ compose (fit n (drop (start + row) (bits_of_all 64 ws))) (drop (count (view start row ws)) r)
      → then ≡ laid (at + row) (bits_of n (pdep 64 source mask)) out → Deposited start at first ws out₀ r past (rank + ones mask) then
  chunk_deposited source past then e same new =
      subst (λ (k : ℕ). Deposited start at first ws out₀ r k (rank + ones mask) then) (sym e)
      (deposited_turn start row n at ws out₀ r (omega arith) (omega arith) first rank mask source out then d is same new)

-- all rows are laid
pub deposited_all : (start len at first row rank : ℕ) (ws out₀ out : List ℕ) (r : List Bool) → Deposited start at first ws out₀ r row rank out → row ≡ len
    → out ≡ laid at (compose (view start len ws) r) out₀
deposited_all start len at first row rank ws out₀ out r d e = d.composed ∙ ap (λ (k : ℕ). laid at (compose (view start k ws) r) out₀) e
