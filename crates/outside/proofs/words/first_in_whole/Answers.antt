-- `outside::words::first_in_whole` meets its contract: a turn's word is that of the rows outside, and its lowest bit the first of them.
-- By the laws of a word that shows rows. Assumes nothing.
use Rattle.std.proofs.Common.{ℕ, ◌+◌, ◌*◌, ◌-◌, ◌^◌, ◌≤◌, ◌≡◌, List, ap₂, bit_and, arith}
use Rattle.rows.specs.Rows.{outside}
use Rattle.rows.specs.Words.{view}
use Rattle.outside.specs.First.{has}
use Rattle.outside.proofs.WordLaws.{read, Shown, shown_as, none_behind, first_behind_shown, outside_shown}
use Rattle.outside.proofs.words.first_in_whole.Goals as goal

-- the 64 rows from row b on, by the words of both masks
shown : (sws : List ℕ) (ss : ℕ) (kws : List ℕ) (ks len b s k : ℕ) → b + 64 ≤ len → k ≡ read ks b 64 kws → s ≡ read ss b 64 sws
    → Shown (has (outside (view ss len sws) (view ks len kws))) b 64 (bit_and k (2 ^ 64 - 1 - s))
shown sws ss kws ks len b s k short ek es =
    shown_as _ b 64 _ _ (ap₂ (λ (x y : ℕ). bit_and x (2 ^ 64 - 1 - y)) ek es) (outside_shown ss ks len b 64 sws kws (omega arith) short)

pub returns-then-bits-ne0 : goal.returns-then-bits-ne0
returns-then-bits-ne0 c =
    let a = c.args in
    let b = c.loop-i.i * 64 in
    let s = shown a.swords.now a.sstart a.kwords.now a.kstart a.len b c.whole_word-in-loop-i.result c.whole_word.result (omega (arith, c.requires.2))
    c.whole_word.ensures c.whole_word-in-loop-i.ensures in
    first_behind_shown _ b 64 _ (omega arith) s 0 (a.n * 64) (omega arith) (omega arith) c.loop-i.invariant (omega arith)

pub loop-i-preserved : goal.loop-i-preserved
loop-i-preserved c =
    let a = c.args in
    let b = c.loop-i.i * 64 in
    let s = shown a.swords.now a.sstart a.kwords.now a.kstart a.len b c.whole_word-in-loop-i.result c.whole_word.result (omega (arith, c.requires.2))
    c.whole_word.ensures c.whole_word-in-loop-i.ensures in
    λ i h l. none_behind _ b 64 _ (omega arith) s 0 (a.n * 64) (omega arith) (omega arith) c.loop-i.invariant c.if-bits-ne0.false i h (omega arith)
