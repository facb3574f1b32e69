-- `books::inner::entry_bits` meets its contract.
-- A turn sets one entry's bit, by the laws of entries gathered; the entries that are left are past the chunk's numbers.
use Rattle.std.proofs.Common.{◌≡◌, ℕ, suc, ◌+◌, ◌-◌, ◌*◌, ◌%◌, ◌^◌, ◌≤◌, ◌<◌, List, length, take, drop, get_or, refl, sym, ap, ap₂, ◌∙◌, add-one, one-mul, mod-eq_of_lt, arith}
use lib.Pow.{pow-lt}
use lib.Bits.{bit_or}
use Rattle.rows.specs.Word.{word_of}
use Rattle.rows.specs.Words.{Below}
use Rattle.rows.specs.Lists.{tab, member}
use Rattle.books.specs.Gathers.{Climbs, Gathers}
use Rattle.books.proofs.GatherLaws.{below_more, gather_start, gather_turn, gather_end, climbs_at, climbs_past, climbs_from, below_next}
use Rattle.books.proofs.inner.entry_bits.Goals as goal

-- where no entry that is left is below what is behind the chunk
told : (base n j bits : ℕ) (entries : List ℕ) → j ≤ length entries → bits ≡ word_of (tab base n (λ i. member i (take j entries)))
    → Below (base + n) (take j entries) → Climbs (base + n) (drop j entries) → Gathers base n entries bits j
told base n j bits entries within is before past =
    record {
      is = is ∙ gather_end base n j entries past;
      parted = record { within = within; before = before; after = past };
    }

pub loop-j-init : goal.loop-j-init
loop-j-init c =
    let a = c.args in
    let rs = a.entries.now in
    let p = c.requires.2 in
    (gather_start a.base a.n a.next rs p.before, below_more a.base (a.base + a.n) (take a.next rs) (omega arith) p.before, p.after)

pub returns-then-entry-base : goal.returns-then-entry-base
returns-then-entry-base c =
    let a = c.args in
    let l = c.loop-j in
    told a.base a.n l.j l.bits a.entries.now (omega arith) l.invariant.0 l.invariant.1
    (climbs_past a.base (a.base + a.n) l.j a.entries.now c.loop-j-test.true c.if-entry-base.true l.invariant.2)

pub loop-j-preserved : goal.loop-j-preserved
loop-j-preserved c =
    let a = c.args in
    let l = c.loop-j in
    let rs = a.entries.now in
    let b : ℕ = a.base in
    let e : ℕ = get_or rs l.j 0 in
    let left = climbs_at b l.j rs c.loop-j-test.true l.invariant.2 in
    let k : ℕ = e - b in
    let in-word : k < 64 = omega arith in
    let one : (1 * 2 ^ k) % 2 ^ 64 ≡ 2 ^ k = ap (λ (x : ℕ). x % 2 ^ 64) (one-mul (2 ^ k)) ∙ mod-eq_of_lt (pow-lt {i = k} {j = 64} in-word) in (
      ap₂ bit_or l.invariant.0 one ∙ gather_turn b a.n l.j e rs c.loop-j-test.true refl left.0 c.if-entry-base.false
          ∙ ap (λ (x : ℕ). word_of (tab b a.n (λ i. member i (take x rs)))) (sym (add-one l.j)),
      rw (add-one l.j) (below_next (b + a.n) l.j rs c.loop-j-test.true l.invariant.1 c.if-entry-base.false),
      rw (add-one l.j) (climbs_from b (suc e) (drop (suc l.j) rs) (omega (arith, left.0)) left.1),
    )
