-- `under::windows::mark_part`: a run of ones is laid where the run begins in the window.
-- By the law that set rows marked are ones laid.
use Rattle.std.proofs.Common.{ℕ, ◌+◌, ◌-◌, ◌≡◌, refl, sym, ap, ◌∙◌, true, replicate, arith}
use Rattle.rows.specs.Laid.{laid}
use Rattle.under.proofs.WindowLaws.{ones_marked}
use Rattle.under.proofs.windows.mark_part.Goals as goal

pub returns : goal.returns
returns c =
    let a = c.args in
    let begin = c.into_window-begin.result in
    let end = c.into_window-end.result in
    let first = c.into_window-begin.ensures in
    let past = c.into_window-end.ensures in
    let long : a.row.0 + end - (a.row.0 + begin) ≡ end - begin = omega arith in
    rw (← first, ← past) (
      refl,
      c.set_run.ensures ∙ ap (λ (n : ℕ). laid (a.at + (a.row.0 + begin)) (replicate n true) a.out.now) long
          ∙ sym (ones_marked a.at (a.row.0 + begin) (end - begin) a.out.now (omega arith)),
    )
