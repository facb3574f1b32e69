-- `books::inner::chunk_at` meets its contract.
-- The bits cut at the view's end are the view's next 64 rows, or those that are left; a word as it lies is its bits. Assumes nothing.
use Prim.Native.Nat.{ℕ, ◌+◌, ◌-◌, ◌*◌, ◌/◌, min}
use mathlib.Core.Path.{◌≡◌, sym, ap, ap₂, ◌∙◌}
use native.Mathlib.Omega.{arith}
use lib.ListN.{drop}
use Rattle.rows.specs.Word.{word_of}
use Rattle.rows.specs.Words.{fit, bits_of_all}
use Rattle.rows.proofs.FitLaws.{word_from_lem}
use Rattle.books.proofs.ChunkLaws.{chunk_is}
use borrow.Author.Rules.{rules}
use Rattle.books.proofs.inner.chunk_at.Statement.{statement}
use Rattle.books.proofs.inner.chunk_at.Tie as tie

chunk-len-requires : tie.Need-chunk_len-n-requires
chunk-len-requires c κs = search rules

chunk-requires : tie.Need-chunk-requires
chunk-requires c κs = search rules

returns : tie.Need-returns-then-start-ne0
returns c =
    let a = c.before.before.before.before.args in
    c.chunk.ensures
    ∙ ap (λ (n : ℕ). word_of (fit n (drop (a.start + a.i) (bits_of_all 64 a.words.now)))) c.before.before.chunk_len-n.ensures
    ∙ chunk_is a.start a.len a.i a.words.now c.before.before.before.before.requires.0 (omega arith)

add-if2 : tie.Need-overflow_add-i
add-if2 c = search rules

chunk-requires-2 : tie.Need-chunk-requires-then-i-n
chunk-requires-2 c κs = search rules

returns-2 : tie.Need-returns-then-i-n
returns-2 c =
    let a = c.before.before.before.before.before.args in
    c.chunk-then-i-n.ensures
    ∙ ap (λ (n : ℕ). word_of (fit n (drop (a.start + a.i) (bits_of_all 64 a.words.now)))) c.before.before.before.chunk_len-n.ensures
    ∙ chunk_is a.start a.len a.i a.words.now c.before.before.before.before.before.requires.0 (omega arith)

mul-result : tie.Need-offset_bounds-words-i
mul-result c = search rules

shared-slice-read-result : tie.Need-bounds-words-i
shared-slice-read-result c = search rules

returns-3 : tie.Need-returns
returns-3 c =
    let a = c.before.before.before.before.before.args in
    let ws = a.words.now in
    let place : a.i / 64 * 64 ≡ a.start + a.i = omega arith in
    let whole : 64 ≡ min 64 (a.len - a.i) = omega (arith, c.before.before.before.chunk_len-n.ensures) in
    sym (word_from_lem 64 (a.i / 64) ws (c.shared_slice_known-2-1.given (a.i / 64)).fits)
    ∙ ap₂ (λ (n k : ℕ). word_of (fit n (drop k (bits_of_all 64 ws)))) whole place
    ∙ chunk_is a.start a.len a.i ws c.before.before.before.before.before.requires.0 (omega arith)

pub chunk_at_spec : {M : Type 1} → statement M
chunk_at_spec = tie.close (tie.spec chunk-len-requires chunk-requires returns add-if2 chunk-requires-2 returns-2 mul-result shared-slice-read-result returns-3)
