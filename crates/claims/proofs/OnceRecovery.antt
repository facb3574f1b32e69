-- The contracts of recovery, whole and in pieces, and of what it calls in `inner` modules admit one answer and one content of what is lent: both
-- are said to equal a function of the inputs.
-- Assumes nothing.
use mathlib.Core.Path.{sym, ap, ap₂, ◌∙◌, refl}
use mathlib.Core.List.{List}
use Prim.Native.Nat.{ℕ}
use Rattle.claims.specs.OneAnswer.{OneAnswer}
use Rattle.rows.specs.declared.Row.{Row}
use Rattle.books.specs.declared.inner.Gathered.{Gathered}
use Rattle.books.proofs.GatherLaws.{parted_once}
use Rattle.recover.proofs.recover.Kinds as recover-kinds
use Rattle.recover.proofs.recover.Reads as recover
use Rattle.recoverer.proofs.Recoverer.fresh.Kinds as fresh-kinds
use Rattle.recoverer.proofs.Recoverer.fresh.Reads as fresh
use Rattle.recoverer.proofs.feed.Kinds as feed-kinds
use Rattle.recoverer.proofs.feed.Reads as feed
use Rattle.recover.proofs.inner.judge.judge_masks.Kinds as judge-masks-kinds
use Rattle.recover.proofs.inner.judge.judge_masks.Reads as judge-masks
use Rattle.recover.proofs.inner.judge.judge_inside.Kinds as judge-inside-kinds
use Rattle.recover.proofs.inner.judge.judge_inside.Reads as judge-inside
use Rattle.recover.proofs.inner.judge.judge.Kinds as judge-kinds
use Rattle.recover.proofs.inner.judge.judge.Reads as judge
use Rattle.recover.proofs.inner.lay.lay_recovery.Kinds as lay-recovery-kinds
use Rattle.recover.proofs.inner.lay.lay_recovery.Reads as lay-recovery
use Rattle.recover.proofs.inner.whole.recover_within.Kinds as recover-within-kinds
use Rattle.recover.proofs.inner.whole.recover_within.Reads as recover-within
use Rattle.extracts.proofs.inner.recover_words.Kinds as recover-words-kinds
use Rattle.extracts.proofs.inner.recover_words.Reads as recover-words
use Rattle.extracts.proofs.inner.recover_chunks.Kinds as recover-chunks-kinds
use Rattle.extracts.proofs.inner.recover_chunks.Reads as recover-chunks
use Rattle.in_runs.proofs.inner.recover_under_runs.Kinds as under-runs-kinds
use Rattle.in_runs.proofs.inner.recover_under_runs.Reads as under-runs
use Rattle.in_runs.proofs.inner.recover_runs.Kinds as recover-runs-kinds
use Rattle.in_runs.proofs.inner.recover_runs.Reads as recover-runs
use Rattle.laid.proofs.inner.copy_bits.Kinds as copy-bits-kinds
use Rattle.laid.proofs.inner.copy_bits.Reads as copy-bits
use Rattle.outside.proofs.inner.first_outside.Kinds as first-outside-kinds
use Rattle.outside.proofs.inner.first_outside.Reads as first_outside
use Rattle.operand.proofs.inner.forms.has_words.Kinds as has-words-kinds
use Rattle.operand.proofs.inner.forms.has_words.Reads as has_words
use Rattle.books.proofs.inner.entry_bits.Kinds as entry-bits-kinds
use Rattle.books.proofs.inner.entry_bits.Reads as entry-bits
use Rattle.books.proofs.inner.put_ranks.Kinds as put-ranks-kinds
use Rattle.books.proofs.inner.put_ranks.Reads as put-ranks
use Rattle.word.proofs.inner.extract_portable.Kinds as extract-portable-kinds
use Rattle.word.proofs.inner.extract_portable.Reads as extract-portable
use Rattle.word.proofs.inner.extract_portable_loop.Kinds as extract-portable-loop-kinds
use Rattle.word.proofs.inner.extract_portable_loop.Reads as extract-portable-loop
use Rattle.network.proofs.inner.extract_bytewise.Kinds as extract-bytewise-kinds
use Rattle.network.proofs.inner.extract_bytewise.Reads as extract-bytewise

-- ---- the entry points

pub recover_recover_one : OneAnswer 5 recover-kinds.ps recover-kinds.r recover.Pre recover.Post
recover_recover_one κs a p x y v w hv hw =
    (hv.0 ∙ sym hw.0, ap (λ (l : List ℕ). (tt, (tt, (tt, (tt, (tt, (tt, (l, tt)))))))) (hv.1 ∙ sym hw.1))

pub recoverer_fresh_one : OneAnswer 0 fresh-kinds.ps fresh-kinds.r fresh.Pre fresh.Post
recoverer_fresh_one κs a p x y v w hv hw = (hv ∙ sym hw, refl)

pub recoverer_feed_one : OneAnswer 5 feed-kinds.ps feed-kinds.r feed.Pre feed.Post
recoverer_feed_one κs a p x y v w hv hw =
    (hv.0 ∙ sym hw.0, ap (λ (l : List ℕ). (tt, (tt, (tt, (tt, (tt, (tt, (tt, (l, tt))))))))) (hv.1 ∙ sym hw.1))

-- ---- what they call

pub recover_judge_masks_one : OneAnswer 4 judge-masks-kinds.ps judge-masks-kinds.r judge-masks.Pre judge-masks.Post
recover_judge_masks_one κs a p x y v w hv hw = (hv ∙ sym hw, refl)

pub recover_judge_inside_one : OneAnswer 4 judge-inside-kinds.ps judge-inside-kinds.r judge-inside.Pre judge-inside.Post
recover_judge_inside_one κs a p x y v w hv hw = (hv ∙ sym hw, refl)

pub recover_judge_one : OneAnswer 4 judge-kinds.ps judge-kinds.r judge.Pre judge.Post
recover_judge_one κs a p x y v w hv hw = (hv ∙ sym hw, refl)

pub recover_lay_recovery_one : OneAnswer 5 lay-recovery-kinds.ps lay-recovery-kinds.r lay-recovery.Pre lay-recovery.Post
recover_lay_recovery_one κs a p x y v w hv hw = (refl, ap (λ (l : List ℕ). (tt, (tt, (tt, (tt, (tt, (tt, (tt, (l, tt))))))))) (hv ∙ sym hw))

pub recover_recover_within_one : OneAnswer 5 recover-within-kinds.ps recover-within-kinds.r recover-within.Pre recover-within.Post
recover_recover_within_one κs a p x y v w hv hw =
    (hv.0 ∙ sym hw.0, ap (λ (l : List ℕ). (tt, (tt, (tt, (tt, (tt, (tt, (l, tt)))))))) (hv.1 ∙ sym hw.1))

pub extracts_recover_words_one : OneAnswer 3 recover-words-kinds.ps recover-words-kinds.r recover-words.Pre recover-words.Post
extracts_recover_words_one κs a p x y v w hv hw = (refl, ap (λ (l : List ℕ). (tt, (tt, (tt, (tt, (tt, (tt, (tt, (tt, (l, tt)))))))))) (hv ∙ sym hw))

pub extracts_recover_chunks_one : OneAnswer 5 recover-chunks-kinds.ps recover-chunks-kinds.r recover-chunks.Pre recover-chunks.Post
extracts_recover_chunks_one κs a p x y v w hv hw = (refl, ap (λ (l : List ℕ). (tt, (tt, (tt, (tt, (tt, (tt, (tt, (tt, (l, tt)))))))))) (hv ∙ sym hw))

pub in_runs_recover_under_runs_one : OneAnswer 3 under-runs-kinds.ps under-runs-kinds.r under-runs.Pre under-runs.Post
in_runs_recover_under_runs_one κs a p x y v w hv hw = (refl, ap (λ (l : List ℕ). (tt, (tt, (tt, (tt, (tt, (l, tt))))))) (hv ∙ sym hw))

pub in_runs_recover_runs_one : OneAnswer 4 recover-runs-kinds.ps recover-runs-kinds.r recover-runs.Pre recover-runs.Post
in_runs_recover_runs_one κs a p x y v w hv hw = (refl, ap (λ (l : List ℕ). (tt, (tt, (tt, (tt, (tt, (tt, (l, tt)))))))) (hv ∙ sym hw))

pub laid_copy_bits_one : OneAnswer 2 copy-bits-kinds.ps copy-bits-kinds.r copy-bits.Pre copy-bits.Post
laid_copy_bits_one κs a p x y v w hv hw = (hv.0 ∙ sym hw.0, ap (λ (l : List ℕ). (tt, (tt, (tt, (tt, (l, tt)))))) (hv.1 ∙ sym hw.1))

abbrev row_of : ℕ → Row
row_of n = record { 0 = n }

pub outside_first_outside_one : OneAnswer 4 first-outside-kinds.ps first-outside-kinds.r first_outside.Pre first_outside.Post
outside_first_outside_one κs a p x y v w hv hw = (ap row_of (hv ∙ sym hw), refl)

pub operand_has_words_one : OneAnswer 0 has-words-kinds.ps has-words-kinds.r has_words.Pre has_words.Post
operand_has_words_one κs a p x y v w hv hw = (hv ∙ sym hw, refl)

pub books_entry_bits_one : OneAnswer 1 entry-bits-kinds.ps entry-bits-kinds.r entry-bits.Pre entry-bits.Post
books_entry_bits_one κs a p x y v w hv hw =
    let make : ℕ → ℕ → Gathered = λ bits next. record { bits = bits; next = next } in
    (ap₂ make (hv.is ∙ sym hw.is) (parted_once _ x.next y.next _ hv.parted hw.parted), refl)

pub books_put_ranks_one : OneAnswer 1 put-ranks-kinds.ps put-ranks-kinds.r put-ranks.Pre put-ranks.Post
books_put_ranks_one κs a p x y v w hv hw = (refl, ap (λ (l : List ℕ). (l, (tt, (tt, (tt, (tt, tt)))))) (hv ∙ sym hw))

pub word_extract_portable_one : OneAnswer 0 extract-portable-kinds.ps extract-portable-kinds.r extract-portable.Pre extract-portable.Post
word_extract_portable_one κs a p x y v w hv hw = (hv ∙ sym hw, refl)

pub word_extract_portable_loop_one : OneAnswer 0 extract-portable-loop-kinds.ps extract-portable-loop-kinds.r extract-portable-loop.Pre extract-portable-loop.Post
word_extract_portable_loop_one κs a p x y v w hv hw = (hv ∙ sym hw, refl)

pub network_extract_bytewise_one : OneAnswer 0 extract-bytewise-kinds.ps extract-bytewise-kinds.r extract-bytewise.Pre extract-bytewise.Post
network_extract_bytewise_one κs a p x y v w hv hw = (hv ∙ sym hw, refl)
