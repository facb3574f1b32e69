-- `recover::inner::judge::judge_inside` meets its contract: 17 with the first row outside, and else the room decides.
-- By what the first row outside is. Assumes nothing.
use Rattle.std.proofs.Common.{◌≡◌, refl, sym, ap, ◌∙◌, Err}
use Rattle.rows.specs.Table.{first}
use Rattle.rules.specs.Operand.{lent}
use Rattle.rules.specs.Recover.{room_checks}
use Rattle.recover.proofs.JudgeLaws.{stray_told, room_told}
use Rattle.recover.proofs.inner.judge.judge_inside.Goals as goal

pub returns-then-row-length_of : goal.returns-then-row-length_of
returns-then-row-length_of c =
    let a = c.args in
    let s = lent a.s a.swords.now a.srows.now in
    let k = lent a.k a.kwords.now a.krows.now in
    ap Err c.refusal.ensures
    ∙ sym (stray_told s k c.requires.2 c.requires.0 c.requires.1 a.bits a.room c.first_outside-row.result c.first_outside-row.ensures (λ e. c.if-row-length_of.true (e ∙ sym c.length_of.ensures)))

pub returns : goal.returns
returns c =
    let a = c.args in
    let s = lent a.s a.swords.now a.srows.now in
    let k = lent a.k a.kwords.now a.krows.now in
    let told : c.has_room.result ≡ first (room_checks a.bits a.room) = rw (c.has_room.ensures, c.words_for.ensures) refl in
    told
    ∙ sym (room_told s k c.requires.2 c.requires.0 c.requires.1 a.bits a.room c.first_outside-row.result c.first_outside-row.ensures (c.if-row-length_of.false ∙ c.length_of.ensures))
