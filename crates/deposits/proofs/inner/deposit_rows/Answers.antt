-- `deposits::inner::deposit_rows` meets its contract: where the output begins on a word, the rows that are left are laid after the whole words.
-- By the law of whole words and their rest. Assumes nothing.
use Rattle.std.proofs.Common.{◌≡◌, ◌≤◌, ◌∙◌, ◌+◌, ◌-◌, ◌*◌, ◌/◌, ℕ, Bool, List, ap, ap₂, length, drop, arith}
use Rattle.rows.specs.Rows.{count, compose}
use Rattle.rows.specs.Words.{bits_of_all, view}
use Rattle.rows.specs.Lists.{tab}
use Rattle.rows.specs.Laid.{laid}
use Rattle.rows.proofs.RowLaws.{count_take_le}
use Rattle.rows.proofs.LaidLaws.{laid_length}
use Rattle.deposits.proofs.WholeLaws.{whole_and_rest, count_rest, ranks_more, ranks_after}
use Rattle.deposits.proofs.inner.deposit_rows.Goals as goal
use Rattle.deposits.proofs.inner.deposit_rows.Goals.{After-deposit_words-rank}
use Rattle.deposits.proofs.inner.deposit_rows.Given.{Over}

-- ---- the whole words: how many rows they are, what they leave, and what is known once they are laid

module _ (g : Over) (c : After-deposit_words-rank g) where
  abbrev ws : List ℕ
  ws = c.args.words.now

  abbrev done : ℕ
  done = c.args.len / 64 * 64

  abbrev rest : ℕ
  rest = c.args.len - done

  abbrev self : List Bool
  self = view c.args.start c.args.len ws

  abbrev has : ℕ → Bool
  has = g.R.Ranks.has c.args.ranks

  all : done + rest ≡ c.args.len
  all = omega arith

  sum : count (view c.args.start done ws) + count (view (c.args.start + done) rest ws) ≡ count self
  sum = count_rest c.args.start done rest ws ∙ ap (λ (k : ℕ). count (view c.args.start k ws)) all

  few : count self ≤ c.args.len
  few = count_take_le c.args.len (drop c.args.start (bits_of_all 64 ws))

  -- the ranks past the whole words do not matter to them
  whole : c.deposit_words-rank.new.out ≡ laid c.args.at (compose (view c.args.start done ws) (tab 0 (count self) has)) c.args.out.now
  whole =
      let place : c.args.at / 64 * 64 ≡ c.args.at = omega arith in
      c.deposit_words-rank.ensures.3
      ∙ ap₂ (λ (k : ℕ) (l : List Bool). laid k l c.args.out.now) place
      (ranks_more (view c.args.start done ws) (count (view c.args.start done ws)) (count self) has (omega arith) (omega (arith, sum)))

-- ---- the answers

pub deposit_chunks-requires : goal.deposit_chunks-requires
deposit_chunks-requires g c =
    let q = c.requires in
    let few = count_take_le c.args.len (drop c.args.start (bits_of_all 64 c.args.words.now)) in
    (omega (arith, q.0), omega (arith, q.0), omega (arith, q.0, few), (omega (arith, q.1), omega (arith, q.1)), q.2)

pub deposit_chunks-requires-2 : goal.deposit_chunks-requires-2
deposit_chunks-requires-2 g c =
    let k = (goal.at.deposit_chunks-requires-2 g c).After-deposit_words-rank in
    let long = rw laid_length at (ap length c.deposit_words-rank.ensures.3) in (
      omega (arith, c.requires.0.0),
      omega (arith, c.requires.0.2),
      omega (arith, c.requires.0.0, c.deposit_words-rank.ensures.0, sum g k, few g k),
      (omega (arith, c.requires.1, long), omega (arith, c.requires.1)),
      c.deposit_words-rank.ensures.1,
    )

pub returns : goal.returns
returns g c =
    let k = (goal.at.returns g c).After-deposit_words-rank in
    let a = c.args in
    let first = c.deposit_words-rank.ensures.0 in
    let f = c.deposit_words-rank.ensures.2 in
    let part = view (a.start + done g k) (rest g k) (ws g k) in
    c.deposit_chunks-2.ensures
    ∙ ap₂ (λ (r : List Bool) (o : List ℕ). laid (a.at + done g k) (compose part r) o) (ap₂ (λ (i : ℕ) (h : ℕ → Bool). tab i (count part) h) first f) (whole g k)
    ∙ ap (λ (r : List Bool). laid (a.at + done g k) r (laid a.at (compose (view a.start (done g k) (ws g k)) (tab 0 (count (self g k)) (has g k))) a.out.now))
    (ranks_after part (count (view a.start (done g k) (ws g k))) (count (self g k)) (has g k) (sum g k))
    ∙ whole_and_rest a.start a.at (done g k) (rest g k) (ws g k) a.out.now (tab 0 (count (self g k)) (has g k)) (omega (arith, c.requires.0.2))
    ∙ ap (λ (i : ℕ). laid a.at (compose (view a.start i (ws g k)) (tab 0 (count (self g k)) (has g k))) a.out.now) (all g k)
