-- `marks::driven::bit_in` meets its contract.
-- By the place of a rank where every bit is set, by the lowest bit, by the lowest past it, and by select. Assumes nothing.
use Prim.Native.Nat.{ℕ, zero, suc, ◌/◌, ◌^◌, ◌<◌}
use native.Mathlib.Nat.{le_of_suc-le-suc, div-div-eq-div-mul, pow-suc}
use mathlib.Core.Path.{◌≡◌, refl, sym, ap, ◌∙◌}
use mathlib.Core.Bool.{Bool, true}
use mathlib.Core.List.{List}
use native.Mathlib.Omega.{arith}
use borrow.Author.Rules.{rules}
use lib.Count.{ones, ones-le, count_trailing_zeros, trailing_le}
use lib.ListN.{replicate}
use Rattle.rows.specs.Rows.{count}
use Rattle.rows.specs.Word.{bits_of}
use Rattle.rows.specs.Lists.{select}
use Rattle.rows.proofs.WordLaws.{count_bits}
use Rattle.rows.proofs.SelectLaws.{select_set}
use Rattle.word.proofs.SelectWord.{select_first, select_second, first_lt}
use Rattle.laid.proofs.LayLaws.{ones_bits}
use Rattle.marks.proofs.driven.bit_in.Statement.{statement}
use Rattle.marks.proofs.driven.bit_in.Tie as tie

select_all : (n r : ℕ) → r < n → select (replicate n true) r ≡ r
select_all zero r h = absurd (omega arith)
select_all (suc n) zero h = refl
select_all (suc n) (suc r) h = select_set (replicate n true) r ∙ ap suc (select_all n r (le_of_suc-le-suc h))

returns : tie.Need-returns-then-chunk-eq18446744073709551615
returns c =
    let s = c.before in
    let all = ap (bits_of 64) c.if-chunk-eq18446744073709551615.true ∙ ones_bits 64 in
    let few : s.args.rank < 64 = omega (arith, s.requires, ones-le 64 s.args.chunk s.ranges.chunk.fits) in
    sym (ap (λ (l : List Bool). select l s.args.rank) all ∙ select_all 64 s.args.rank few)

returns-2 : tie.Need-returns-then-rank-eq0
returns-2 c =
    let a = c.before.before.args in
    sym (ap (select (bits_of 64 a.chunk)) c.if-rank-eq0.true ∙ select_first 64 a.chunk)

-- a rank that a word holds is the rank of one of its bits
held : (n r : ℕ) → n < 2 ^ 64 → r < ones n → r < count (bits_of 64 n)
held n r f h = omega (arith, count_bits 64 n f)

cast-past : tie.Need-overflow_cast-past
cast-past c = record { fits = omega (arith, trailing_le 64 c.before.before.before.args.chunk) }

shr-past : tie.Need-overflow_shr-past
shr-past c =
    let s = c.before.before.before in
    first_lt 64 s.args.chunk (held s.args.chunk 0 s.ranges.chunk.fits (omega (arith, s.requires)))

add-result : tie.Need-overflow_add-result
add-result c = record { fits = omega (arith, trailing_le 64 c.before.before.before.args.chunk) }

add-result-2 : tie.Need-overflow_add-result-then-rank-eq1
add-result-2 c =
    let n : ℕ = c.before.before.before.args.chunk in
    record { fits = omega (arith, trailing_le 64 n, trailing_le 64 (n / 2 ^ count_trailing_zeros 64 n / 2)) }

returns-3 : tie.Need-returns-then-rank-eq1
returns-3 c =
    let s = c.before.before.before in
    let n : ℕ = s.args.chunk in
    let t : ℕ = count_trailing_zeros 64 n in
    let past : n / 2 ^ t / 2 ≡ n / 2 ^ suc t = div-div-eq-div-mul n (2 ^ t) 2 ∙ ap (λ (d : ℕ). n / d) (sym (pow-suc 2 t)) in
    let second = select_second 64 n (held n 1 s.ranges.chunk.fits (omega (arith, s.requires, c.if-rank-eq1.true))) in
    omega (arith, ap (count_trailing_zeros 64) past, second, ap (select (bits_of 64 n)) c.if-rank-eq1.true)

select-bit-position-requires : tie.Need-select_bit_position-requires
select-bit-position-requires c κs = search rules

returns-4 : tie.Need-returns
returns-4 c = c.select_bit_position.ensures

pub bit_in_spec : {M : Type 1} → statement M
bit_in_spec = tie.close (tie.spec returns returns-2 cast-past shr-past add-result add-result-2 returns-3 select-bit-position-requires returns-4)
