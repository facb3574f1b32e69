-- Each entry point's contract admits one answer and one content of what is lent, refused inputs too: both are said to equal a function
-- of the inputs.
-- Assumes nothing.
use mathlib.Core.Path.{sym, ap, ◌∙◌, refl}
use mathlib.Core.List.{List}
use Prim.Native.Nat.{ℕ}
use Rattle.claims.specs.OneAnswer.{OneAnswer}
use Rattle.word.proofs.deposit.Kinds as deposit-kinds
use Rattle.word.proofs.deposit.Reads as deposit
use Rattle.word.proofs.select.Kinds as select-kinds
use Rattle.word.proofs.select.Reads as select
use Rattle.lent.proofs.rank_read.Kinds as rank-read-kinds
use Rattle.lent.proofs.rank_read.Reads as rank-read
use Rattle.mask.proofs.to_words.Kinds as to-words-kinds
use Rattle.mask.proofs.to_words.Reads as to-words
use Rattle.mask.proofs.to_list.Kinds as to-list-kinds
use Rattle.mask.proofs.to_list.Reads as to-list
use Rattle.mask.proofs.to_runs.Kinds as to-runs-kinds
use Rattle.mask.proofs.to_runs.Reads as to-runs
use Rattle.bitops.proofs.and.Kinds as and-kinds
use Rattle.bitops.proofs.and.Reads as and
use Rattle.bitops.proofs.or.Kinds as or-kinds
use Rattle.bitops.proofs.or.Reads as or
use Rattle.bitops.proofs.and_not.Kinds as and-not-kinds
use Rattle.bitops.proofs.and_not.Reads as and-not
use Rattle.bitops.proofs.not.Kinds as not-kinds
use Rattle.bitops.proofs.not.Reads as not-one
use Rattle.intersect_by_rank.proofs.intersect_by_rank.Kinds as intersect-kinds
use Rattle.intersect_by_rank.proofs.intersect_by_rank.Reads as intersect
use Rattle.composer.proofs.Composer.fresh.Kinds as fresh-kinds
use Rattle.composer.proofs.Composer.fresh.Reads as fresh
use Rattle.composer.proofs.feed.Kinds as feed-kinds
use Rattle.composer.proofs.feed.Reads as feed
use Rattle.text.proofs.answer.Kinds as answer-kinds
use Rattle.text.proofs.answer.Reads as answer
use Rattle.cells.specs.Probe.{AnswerCells, Memory}
use Rattle.probe.proofs.probe_deposit.Kinds as probe-deposit-kinds
use Rattle.probe.proofs.probe_deposit.Reads as probe-deposit
use Rattle.probe.proofs.probe_select.Kinds as probe-select-kinds
use Rattle.probe.proofs.probe_select.Reads as probe-select
use Rattle.probe.proofs.probe_rank_read.Kinds as probe-rank-read-kinds
use Rattle.probe.proofs.probe_rank_read.Reads as probe-rank-read
use Rattle.probe.proofs.probe_to_words.Kinds as probe-to-words-kinds
use Rattle.probe.proofs.probe_to_words.Reads as probe-to-words
use Rattle.probe.proofs.probe_to_list.Kinds as probe-to-list-kinds
use Rattle.probe.proofs.probe_to_list.Reads as probe-to-list
use Rattle.probe.proofs.probe_to_runs.Kinds as probe-to-runs-kinds
use Rattle.probe.proofs.probe_to_runs.Reads as probe-to-runs
use Rattle.probe.proofs.probe_compose.Kinds as probe-compose-kinds
use Rattle.probe.proofs.probe_compose.Reads as probe-compose
use Rattle.probe.proofs.probe_set.Kinds as probe-set-kinds
use Rattle.probe.proofs.probe_set.Reads as probe-set
use Rattle.probe.proofs.probe_feed.Kinds as probe-feed-kinds
use Rattle.probe.proofs.probe_feed.Reads as probe-feed
use Rattle.probe.proofs.probe_recover.Kinds as probe-recover-kinds
use Rattle.probe.proofs.probe_recover.Reads as probe-recover
use Rattle.probe.proofs.probe_recover_feed.Kinds as probe-recover-feed-kinds
use Rattle.probe.proofs.probe_recover_feed.Reads as probe-recover-feed
use Rattle.probe.proofs.probe_program.Kinds as probe-program-kinds
use Rattle.probe.proofs.probe_program.Reads as probe-program

pub word_deposit_one : OneAnswer 0 deposit-kinds.ps deposit-kinds.r deposit.Pre deposit.Post
word_deposit_one κs a p x y v w hv hw = (hv ∙ sym hw, refl)

pub word_select_one : OneAnswer 0 select-kinds.ps select-kinds.r select.Pre select.Post
word_select_one κs a p x y v w hv hw = (hv ∙ sym hw, refl)

pub lent_rank_read_one : OneAnswer 1 rank-read-kinds.ps rank-read-kinds.r rank-read.Pre rank-read.Post
lent_rank_read_one κs a p x y v w hv hw = (hv ∙ sym hw, refl)

pub mask_to_words_one : OneAnswer 3 to-words-kinds.ps to-words-kinds.r to-words.Pre to-words.Post
mask_to_words_one κs a p x y v w hv hw = (hv.0 ∙ sym hw.0, ap (λ (l : List ℕ). (tt, (tt, (tt, (l, tt))))) (hv.1 ∙ sym hw.1))

pub mask_to_list_one : OneAnswer 3 to-list-kinds.ps to-list-kinds.r to-list.Pre to-list.Post
mask_to_list_one κs a p x y v w hv hw = (hv.0 ∙ sym hw.0, ap (λ (l : List ℕ). (tt, (tt, (tt, (l, tt))))) (hv.1 ∙ sym hw.1))

pub mask_to_runs_one : OneAnswer 3 to-runs-kinds.ps to-runs-kinds.r to-runs.Pre to-runs.Post
mask_to_runs_one κs a p x y v w hv hw = (hv.0 ∙ sym hw.0, ap (λ (l : List ℕ). (tt, (tt, (tt, (l, tt))))) (hv.1 ∙ sym hw.1))

pub bitops_and_one : OneAnswer 5 and-kinds.ps and-kinds.r and.Pre and.Post
bitops_and_one κs a p x y v w hv hw = (hv.0 ∙ sym hw.0, ap (λ (l : List ℕ). (tt, (tt, (tt, (tt, (tt, (tt, (l, tt)))))))) (hv.1 ∙ sym hw.1))

pub bitops_or_one : OneAnswer 5 or-kinds.ps or-kinds.r or.Pre or.Post
bitops_or_one κs a p x y v w hv hw = (hv.0 ∙ sym hw.0, ap (λ (l : List ℕ). (tt, (tt, (tt, (tt, (tt, (tt, (l, tt)))))))) (hv.1 ∙ sym hw.1))

pub bitops_and_not_one : OneAnswer 5 and-not-kinds.ps and-not-kinds.r and-not.Pre and-not.Post
bitops_and_not_one κs a p x y v w hv hw = (hv.0 ∙ sym hw.0, ap (λ (l : List ℕ). (tt, (tt, (tt, (tt, (tt, (tt, (l, tt)))))))) (hv.1 ∙ sym hw.1))

pub bitops_not_one : OneAnswer 3 not-kinds.ps not-kinds.r not-one.Pre not-one.Post
bitops_not_one κs a p x y v w hv hw = (hv.0 ∙ sym hw.0, ap (λ (l : List ℕ). (tt, (tt, (tt, (l, tt))))) (hv.1 ∙ sym hw.1))

pub intersect_by_rank_intersect_by_rank_one : OneAnswer 5 intersect-kinds.ps intersect-kinds.r intersect.Pre intersect.Post
intersect_by_rank_intersect_by_rank_one κs a p x y v w hv hw = (hv.0 ∙ sym hw.0, ap (λ (l : List ℕ). (tt, (tt, (tt, (tt, (tt, (tt, (l, tt)))))))) (hv.1 ∙ sym hw.1))

pub composer_fresh_one : OneAnswer 0 fresh-kinds.ps fresh-kinds.r fresh.Pre fresh.Post
composer_fresh_one κs a p x y v w hv hw = (hv ∙ sym hw, refl)

pub composer_feed_one : OneAnswer 5 feed-kinds.ps feed-kinds.r feed.Pre feed.Post
composer_feed_one κs a p x y v w hv hw = (hv.0 ∙ sym hw.0, ap (λ (l : List ℕ). (tt, (tt, (tt, (tt, (tt, (tt, (tt, (l, tt))))))))) (hv.1 ∙ sym hw.1))

pub text_answer_one : OneAnswer 2 answer-kinds.ps answer-kinds.r answer.Pre answer.Post
text_answer_one κs a p x y v w hv hw = (hv.0 ∙ sym hw.0, ap (λ (l : List ℕ). (tt, (l, tt))) (hv.1 ∙ sym hw.1))

pub probe_probe_deposit_one : OneAnswer 2 probe-deposit-kinds.ps probe-deposit-kinds.r probe-deposit.Pre probe-deposit.Post
probe_probe_deposit_one κs a p x y v w hv hw = (refl, ap (λ (m : AnswerCells). (tt, (tt, (tt, (tt, (m.ans, (m.den, tt))))))) (hv ∙ sym hw))

pub probe_probe_select_one : OneAnswer 2 probe-select-kinds.ps probe-select-kinds.r probe-select.Pre probe-select.Post
probe_probe_select_one κs a p x y v w hv hw = (refl, ap (λ (m : AnswerCells). (tt, (tt, (m.ans, (m.den, tt))))) (hv ∙ sym hw))

pub probe_probe_rank_read_one : OneAnswer 3 probe-rank-read-kinds.ps probe-rank-read-kinds.r probe-rank-read.Pre probe-rank-read.Post
probe_probe_rank_read_one κs a p x y v w hv hw = (refl, ap (λ (m : AnswerCells). (tt, (tt, (tt, (m.ans, (m.den, tt)))))) (hv ∙ sym hw))

pub probe_probe_to_words_one : OneAnswer 5 probe-to-words-kinds.ps probe-to-words-kinds.r probe-to-words.Pre probe-to-words.Post
probe_probe_to_words_one κs a p x y v w hv hw = (refl, ap (λ (m : Memory). (tt, (tt, (tt, (tt, (tt, (tt, (m.out, (m.answer.ans, (m.answer.den, tt)))))))))) (hv ∙ sym hw))

pub probe_probe_to_list_one : OneAnswer 5 probe-to-list-kinds.ps probe-to-list-kinds.r probe-to-list.Pre probe-to-list.Post
probe_probe_to_list_one κs a p x y v w hv hw = (refl, ap (λ (m : Memory). (tt, (tt, (tt, (tt, (tt, (tt, (m.out, (m.answer.ans, (m.answer.den, tt)))))))))) (hv ∙ sym hw))

pub probe_probe_to_runs_one : OneAnswer 5 probe-to-runs-kinds.ps probe-to-runs-kinds.r probe-to-runs.Pre probe-to-runs.Post
probe_probe_to_runs_one κs a p x y v w hv hw =
    (refl, ap (λ (m : Memory). (tt, (tt, (tt, (tt, (tt, (tt, (m.out, (m.answer.ans, (m.answer.den, tt)))))))))) (hv ∙ sym hw))

pub probe_probe_compose_one : OneAnswer 7 probe-compose-kinds.ps probe-compose-kinds.r probe-compose.Pre probe-compose.Post
probe_probe_compose_one κs a p x y v w hv hw = (refl, ap (λ (m : Memory). (tt, (tt, (tt, (tt, (tt, (tt, (tt, (tt, (tt, (tt, (tt, (tt, (m.out, (m.answer.ans, (m.answer.den, tt)))))))))))))))) (hv ∙ sym hw))

pub probe_probe_set_one : OneAnswer 7 probe-set-kinds.ps probe-set-kinds.r probe-set.Pre probe-set.Post
probe_probe_set_one κs a p x y v w hv hw = (refl, ap (λ (m : Memory). (tt, (tt, (tt, (tt, (tt, (tt, (tt, (tt, (tt, (tt, (tt, (tt, (tt, (m.out, (m.answer.ans, (m.answer.den, tt))))))))))))))))) (hv ∙ sym hw))

pub probe_probe_feed_one : OneAnswer 7 probe-feed-kinds.ps probe-feed-kinds.r probe-feed.Pre probe-feed.Post
probe_probe_feed_one κs a p x y v w hv hw = (refl, ap (λ (m : Memory). (tt, (tt, (tt, (tt, (tt, (tt, (tt, (tt, (tt, (tt, (tt, (tt, (tt, (tt, (tt, (m.out, (m.answer.ans, (m.answer.den, tt))))))))))))))))))) (hv ∙ sym hw))

pub probe_probe_recover_one : OneAnswer 7 probe-recover-kinds.ps probe-recover-kinds.r probe-recover.Pre probe-recover.Post
probe_probe_recover_one κs a p x y v w hv hw =
    (refl, ap (λ (m : Memory). (tt, (tt, (tt, (tt, (tt, (tt, (tt, (tt, (tt, (tt, (tt, (tt, (m.out, (m.answer.ans, (m.answer.den, tt)))))))))))))))) (hv ∙ sym hw))

pub probe_probe_recover_feed_one : OneAnswer 7 probe-recover-feed-kinds.ps probe-recover-feed-kinds.r probe-recover-feed.Pre probe-recover-feed.Post
probe_probe_recover_feed_one κs a p x y v w hv hw =
    (refl, ap (λ (m : Memory). (tt, (tt, (tt, (tt, (tt, (tt, (tt, (tt, (tt, (tt, (tt, (tt, (tt, (tt, (tt, (m.out, (m.answer.ans, (m.answer.den, tt))))))))))))))))))) (hv ∙ sym hw))

pub probe_probe_program_one : OneAnswer 4 probe-program-kinds.ps probe-program-kinds.r probe-program.Pre probe-program.Post
probe_probe_program_one κs a p x y v w hv hw = (refl, ap (λ (m : Memory). (tt, (m.out, (m.answer.ans, (m.answer.den, tt))))) (hv ∙ sym hw))
