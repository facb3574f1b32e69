-- What a loop keeps that keeps rows chunk by chunk: with a law for none, a law for one chunk more, and a law for all.
-- By the law of one deposit more, and by the ranks that are kept before a rank and from it on.
use Prim.Native.Nat.{ℕ, ◌+◌, ◌-◌, ◌*◌, ◌^◌, ◌≤◌, ◌<◌, min}
use mathlib.Core.Path.{◌≡◌, sym, ap, ap₂, ◌∙◌, subst}
use mathlib.Core.Bool.{Bool}
use mathlib.Core.List.{List}
use native.Mathlib.Omega.{arith}
use lib.ListN.{length, drop}
use lib.Seq.{drop-drop}
use lib.Count.{ones}
use Rattle.rows.specs.Rows.{count, compose}
use Rattle.rows.specs.Word.{bits_of, word_of}
use Rattle.rows.specs.Words.{Below, fit, bits_of_all, view}
use Rattle.rows.specs.Runs.{held, in_runs}
use Rattle.rows.specs.Pdep.{pdep}
use Rattle.rows.specs.Laid.{laid}
use Rattle.rows.proofs.WordLaws.{ones_word}
use Rattle.rows.proofs.WordsLaws.{fit_length}
use Rattle.books.specs.Windows.{window, Reached}
use Rattle.deposits.proofs.DepositLaws.{Deposited, deposited_none, deposited_turn, rank_turn, rank_within, chunk_sized, chunk_few, gathered_same}
use Rattle.kept.proofs.AlikeLaws.{held_on}

module _ (start len at first : ℕ) (ws ranks out₀ : List ℕ) where
  -- how many ranks there are, and the rows at those from the first on
  abbrev total : ℕ
  total = first + count (view start len ws)

  abbrev pub left : List Bool
  left = drop first (in_runs (first + count (view start len ws)) ranks)

  pub record Keeping (row rank next own : ℕ) (out : List ℕ) : Type 0 where
    pub within : row ≤ len
    pub deposited : Deposited start at first ws out₀ left row rank out
    pub reached : Reached ranks next rank
    pub counted : own ≡ count (in_runs rank ranks)

  pub keeping_none : (next own : ℕ) → Below (2 ^ 64) out₀ → Reached ranks next first → own ≡ count (in_runs first ranks) → Keeping 0 first next own out₀
  keeping_none next own small reached counted = record {
    within = omega arith;
    deposited = deposited_none start at first ws out₀ left small;
    reached = reached;
    counted = counted;
  }

  module _ (row rank next own n mask : ℕ) (out : List ℕ) (k : Keeping row rank next own out) (room : start + len ≤ length ws * 64) (more : row < len)
      (size : n ≡ min 64 (len - row)) (is : mask ≡ word_of (fit n (drop (start + row) (bits_of_all 64 ws)))) where
    abbrev chunk : List Bool
    chunk = fit n (drop (start + row) (bits_of_all 64 ws))

    abbrev passed : ℕ
    passed = count (view start row ws)

    sized : (0 < n) × (n ≤ 64) × (row + n ≤ len)
    sized = chunk_sized n row len more size

    reach : start + row + n ≤ length ws * 64
    reach = omega (arith, sized)

    set : ones mask ≡ count chunk
    set = ap ones is ∙ ones_word chunk

    -- no rank comes near the end of its type
    pub keeping_few : rank + ones mask ≤ first + len
    keeping_few = omega (arith, k.deposited.few, ap ones is, chunk_few n (drop (start + row) (bits_of_all 64 ws)), sized)

    -- the chunk's ranks are below the count
    ranked : first + passed + count chunk ≤ first + count (view start len ws)
    ranked =
        omega (arith, rank_turn start row n at ws out₀ left reach, ones_word chunk, rank_within start (row + n) len ws sized.2)

    -- those that were read from the runs are its own
    same : compose chunk (bits_of 64 (word_of (window rank (ones mask) ranks))) ≡ compose chunk (drop passed left)
    same =
        ap₂ (λ (x y : ℕ). compose chunk (bits_of 64 (word_of (window x y ranks)))) k.deposited.counted set
        ∙ gathered_same chunk (first + passed) total (λ i. held i ranks) (omega (arith, fit_length n (drop (start + row) (bits_of_all 64 ws)), sized)) ranked
        ∙ ap (compose chunk) (sym (drop-drop passed first (in_runs total ranks)))

    pub keeping_held : (some : ℕ) → some ≡ count (window rank (ones mask) ranks) → own + some ≡ count (in_runs (rank + ones mask) ranks)
    keeping_held some e = ap₂ (λ (x y : ℕ). x + y) k.counted e ∙ sym (held_on rank (ones mask) ranks)

    pub keeping_chunk : (past after many bits some : ℕ) (then : List ℕ) → past ≡ row + n → many ≡ ones mask
        → bits ≡ pdep 64 (word_of (window rank (ones mask) ranks)) mask → some ≡ count (window rank (ones mask) ranks)
        → Reached ranks after (rank + ones mask) → then ≡ laid (at + row) (bits_of n bits) out → Keeping past (rank + many) after (own + some) then
    keeping_chunk past after many bits some then e m b h reached t =
        let on : rank + ones mask ≡ rank + many = ap (λ (x : ℕ). rank + x) (sym m) in
        let one : Deposited start at first ws out₀ left (row + n) (rank + ones mask) then =
        deposited_turn start row n at ws out₀ left reach sized.1 first rank mask (word_of (window rank (ones mask) ranks)) out then k.deposited is same
        (t ∙ ap (λ (x : ℕ). laid (at + row) (bits_of n x) out) b) in
        record {
          within = omega (arith, e, sized);
          deposited = subst (λ (x : ℕ). Deposited start at first ws out₀ left x (rank + many) then) (sym e)
              (subst (λ (x : ℕ). Deposited start at first ws out₀ left (row + n) x then) on one);
          reached = subst (λ (x : ℕ). Reached ranks after x) on reached;
          counted = keeping_held some h ∙ ap (λ (x : ℕ). count (in_runs x ranks)) on;
        }

  -- all rows are laid
  pub keeping_all : (row rank next own : ℕ) (out : List ℕ) → Keeping row rank next own out → len ≤ row
      → (own ≡ count (in_runs (first + count (view start len ws)) ranks))
      × (out ≡ laid at (compose (view start len ws) (drop first (in_runs (first + count (view start len ws)) ranks))) out₀)
  keeping_all row rank next own out k h =
      let done : row ≡ len = omega (arith, k.within) in (
        k.counted ∙ ap (λ (x : ℕ). count (in_runs x ranks)) (k.deposited.counted ∙ ap (λ (x : ℕ). first + count (view start x ws)) done),
        k.deposited.composed ∙ ap (λ (x : ℕ). laid at (compose (view start x ws) left) out₀) done,
      )
