-- `text::put::put_answer` meets its contract: the four lines, and no rows with a refusal.
-- By the laws of an answer's lines. Assumes nothing.
use Rattle.std.proofs.Common.{◌≡◌, ℕ, refl, sym, ap, ◌∙◌, arith, length, List, []}
use Rattle.rows.specs.Rows.{splice}
use Rattle.rows.specs.Words.{view}
use Rattle.rows.specs.Table.{number_of}
use Rattle.rules.specs.declared.Summary.{Summary}
use Rattle.rules.specs.Answer.{Answer, summary_told}
use Rattle.rules.specs.Route.{route_number}
use Rattle.lines.specs.declared.Written.{Written}
use Rattle.lines.specs.Text.{lines, lines_of, with_text}
use Rattle.text.proofs.PutLaws.{accepted_lines, refused_lines}
use Rattle.text.proofs.put.put_answer.Goals as goal

-- the text of some lines, which are the answer's
told : (a : Answer) (b : Answer) (n : ℕ) (ls : List ℕ) (ms : List ℕ) → b ≡ a → n ≡ length ls → ls ≡ ms → ◌≡◌ {A = Written} (record { answer = b; len = n }) (with_text a ms)
told a b n ls ms e p q = λ i. record { answer = e i; len = (p ∙ ap length q) i }

pub returns-in-Ok : goal.returns-in-Ok
returns-in-Ok c =
    let a = c.args in
    let p = c.put_lines-len in
    let t = c.summary_told-summary in
    let s = c.in-Ok.field-0 in
    let rows = view 0 a.n a.words.now in
    let is_told : t.result ≡ s = t.ensures ∙ ap summary_told c.in-Ok.is in
    let e : lines 0 c.route_number-route.result t.result.count rows ≡ lines_of a.answer rows =
    ap (λ (n : ℕ). lines 0 n t.result.count rows) c.route_number-route.ensures
    ∙ ap (λ (x : Summary). lines 0 (route_number x.route) x.count rows) is_told
    ∙ accepted_lines a.answer s rows c.in-Ok.is in
    (told a.answer _ _ _ _ refl p.ensures.0 e, p.ensures.1 ∙ ap (splice 0 a.out.now) e, p.ensures.2)

pub returns-in-Err : goal.returns-in-Err
returns-in-Err c =
    let a = c.args in
    let p = c.put_lines-len-in-Err in
    let t = c.summary_told-summary in
    let r = c.in-Err.refusal in
    let none = view 0 0 a.words.now in
    let e : lines c.number.result c.route_number-route.result t.result.count none ≡ lines_of a.answer (view 0 a.n a.words.now) =
    ap (λ (n : ℕ). lines n c.route_number-route.result t.result.count []) c.number.ensures
    ∙ ap (λ (n : ℕ). lines (number_of r.reason) n t.result.count []) c.route_number-route.ensures
    ∙ ap (λ (x : Summary). lines (number_of r.reason) (route_number x.route) x.count []) (t.ensures ∙ ap summary_told c.in-Err.is)
    ∙ refused_lines a.answer r (view 0 a.n a.words.now) c.in-Err.is in
    (told a.answer _ _ _ _ (sym c.in-Err.is) p.ensures.0 e, p.ensures.1 ∙ ap (splice 0 a.out.now) e, omega (arith, p.ensures.2))
