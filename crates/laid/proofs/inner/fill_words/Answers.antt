-- `laid::inner::fill_words` meets its contract: by one fill, or by the first four words and the last four.
-- By the law of the same bit laid again, over its end.
use Rattle.std.proofs.Common.{◌≡◌, ◌+◌, ◌-◌, ◌*◌, ◌^◌, ◌≤◌, List, ℕ, true, length, replicate, ap, ◌∙◌, arith, lit<}
use borrow.Rule.Slice.PartMut.{mid_of, put_mid}
use Rattle.rows.specs.Words.{Below}
use Rattle.rows.specs.Laid.{laid}
use Rattle.rows.proofs.LaidLaws.{laid_length}
use Rattle.rows.proofs.BehindLaws.{below_laid}
use Rattle.laid.proofs.LayLaws.{ones_bits}
use Rattle.laid.proofs.SameLaws.{filled, laid_again}
use Rattle.laid.proofs.inner.fill_words.Goals as goal

-- k words from the first on, and k words to the end, which may overlap: k is 4
both_ends : (first end k j : ℕ) (out ones again : List ℕ) → k ≡ 4 → j ≡ 4 → first + 4 ≤ end → end ≤ first + 8 → end ≤ length out → Below (2 ^ 64) out
    → ones ≡ replicate (length (mid_of first k out)) (2 ^ 64 - 1)
    → again ≡ replicate (length (mid_of (end - 4) j (put_mid first k out ones))) (2 ^ 64 - 1)
    → put_mid (end - 4) j (put_mid first k out ones) again ≡ laid (first * 64) (replicate ((end - first) * 64) true) out
both_ends first end k j out ones again k-is j-is four eight room below e f =
    let front : List ℕ = laid (first * 64) (replicate (k * 64) true) out in
    let lies : put_mid first k out ones ≡ front =
    filled first k (2 ^ 64 - 1) true out ones (lit< tt) (ones_bits 64) (omega arith) below e in
    let skipped : ℕ = (end - 4) * 64 - first * 64 in
    let all : skipped + j * 64 ≡ (end - first) * 64 = omega arith in
    rw lies
    (filled (end - 4) j (2 ^ 64 - 1) true front again (lit< tt) (ones_bits 64) (omega (arith, laid_length 64 (first * 64) (replicate (k * 64) true) out)) (below_laid 64 (first * 64) (replicate (k * 64) true) out) (rw lies at f)
    ∙ laid_again 64 (first * 64) ((end - 4) * 64) skipped (k * 64) (j * 64) true out (omega arith) (omega arith) (omega arith)
    ∙ ap (λ (x : ℕ). laid (first * 64) (replicate x true) out) all)

pub returns-then-n-lt4 : goal.returns-then-n-lt4
returns-then-n-lt4 c =
    let a = c.args in
    filled a.first (a.end - a.first) (2 ^ 64 - 1) true a.out.now c.store.new.words (lit< tt) (ones_bits 64) (omega arith) c.requires.2
    c.store.ensures

pub returns : goal.returns
returns c =
    let a = c.args in
    both_ends a.first a.end (a.first + 4 - a.first) (a.end - (a.end - 4)) a.out.now c.store-2.new.words c.store-3.new.words (omega arith) (omega arith) (omega arith) (omega arith) c.requires.1 c.requires.2
    c.store-2.ensures c.store-3.ensures
