-- `kept::chunks::keep_bits` meets its contract: the ranks of the chunk, deposited and counted.
-- By what is read from the runs. Assumes nothing.
use Prim.Native.Nat.{ℕ, ◌≤◌}
use mathlib.Core.Path.{◌≡◌, refl, ap, ◌∙◌}
use native.Mathlib.Omega.{arith}
use lib.Count.{ones, ones-le}
use Rattle.rows.specs.Rows.{count}
use Rattle.rows.specs.Pdep.{pdep}
use Rattle.rows.proofs.RowLaws.{count_le_length}
use Rattle.rows.proofs.WordLaws.{ones_word}
use Rattle.rows.proofs.ListLaws.{tab_length}
use Rattle.rows.specs.Runs.{held}
use Rattle.books.specs.Windows.{window}
use borrow.Author.Rules.{rules}
use Rattle.kept.proofs.chunks.keep_bits.Statement.{statement}
use Rattle.kept.proofs.chunks.keep_bits.Tie as tie

-- ---- the places, each from the one after it

abbrev start : tie.After-run_bits_for_chunk-gathered → tie.Start
start c = c.before.before

abbrev read : tie.After-struct_known-1 → tie.After-run_bits_for_chunk-gathered
read c = c.before.before

-- ---- the chunk's set rows, and those that are kept

few : (c : tie.Start) → ones c.args.mask ≤ 64
few c = ones-le 64 c.args.mask c.ranges.mask.fits

module _ (c : tie.After-run_bits_for_chunk-gathered) where
  abbrev s : tie.Start
  s = start c

  kept : ones c.run_bits_for_chunk-gathered.result.bits ≡ count (window s.args.rank.0 (ones s.args.mask) s.args.ranks.now)
  kept = ap ones c.run_bits_for_chunk-gathered.ensures.0 ∙ ones_word (window s.args.rank.0 (ones s.args.mask) s.args.ranks.now)

  kept_few : ones c.run_bits_for_chunk-gathered.result.bits ≤ 64
  kept_few =
      let a = s.args in
      let w = window a.rank.0 (ones a.mask) a.ranks.now in
      omega (arith, kept, count_le_length w, tab_length a.rank.0 (ones a.mask) (λ i. held i a.ranks.now), few s)

-- ---- the answers

cast-set : tie.Need-overflow_cast-set
cast-set c = omega (arith, few c.before)

run-bits-for-chunk-requires : tie.Need-run_bits_for_chunk-gathered-requires
run-bits-for-chunk-requires c κs = (few c.before, omega (arith, few c.before, c.before.requires.0), c.before.requires.1)

deposit-portable-requires : tie.Need-deposit_portable-bits-requires
deposit-portable-requires c κs = search rules

cast-held : tie.Need-overflow_cast-held
cast-held c = omega (arith, kept_few (read c))

returns : tie.Need-returns
returns c =
    let r = read c in
    let e = r.run_bits_for_chunk-gathered.ensures in
    (refl, c.before.deposit_portable-bits.ensures ∙ ap (λ (x : ℕ). pdep 64 x (start r).args.mask) e.0, kept r, e.1)

pub keep_bits_spec : {M : Type 1} → statement M
keep_bits_spec = tie.close (tie.spec cast-set run-bits-for-chunk-requires deposit-portable-requires cast-held returns)
