-- `laid::inner::same_words` meets its contract: by the bit, the words are filled or cleared.
-- By the law of words of one bit.
use Rattle.std.proofs.Common.{◌-◌, ◌*◌, Bool, false, replicate, sym, ap, ◌∙◌, arith, lit<}
use Rattle.rows.specs.Laid.{laid}
use Rattle.rows.proofs.FitLaws.{zero_word}
use Rattle.laid.proofs.SameLaws.{filled}
use Rattle.laid.proofs.inner.same_words.Goals as goal

pub returns : goal.returns
returns c =
    let a = c.args in
    filled a.first (a.end - a.first) 0 false a.out.now c.store.new.words (lit< tt) (zero_word 64) (omega arith) c.requires.2
    c.store.ensures
    ∙ ap (λ (b : Bool). laid (a.first * 64) (replicate ((a.end - a.first) * 64) b) a.out.now) (sym c.if-set.false)
