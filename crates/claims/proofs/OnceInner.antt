-- The contracts of the C library and of what stands in the `inner` modules admit one answer and one content of what is lent, on what they
-- take: both are said to equal a function of the inputs.
-- Assumes nothing.
use mathlib.Core.Path.{sym, ap, ap₂, ◌∙◌, refl}
use mathlib.Core.List.{List}
use Prim.Native.Nat.{ℕ}
use Rattle.claims.specs.OneAnswer.{OneAnswer}
use Rattle.rows.specs.declared.Row.{Row}
use Rattle.books.proofs.inner.self_chunk.Kinds as books-self-chunk-kinds
use Rattle.books.proofs.inner.self_chunk.Reads as books-self-chunk
use Rattle.books.proofs.inner.rank_chunk.Kinds as books-rank-chunk-kinds
use Rattle.books.proofs.inner.rank_chunk.Reads as books-rank-chunk
use Rattle.books.proofs.inner.self_bits.Kinds as books-self-bits-kinds
use Rattle.books.proofs.inner.self_bits.Reads as books-self-bits
use Rattle.books.proofs.inner.rank_bits.Kinds as books-rank-bits-kinds
use Rattle.books.proofs.inner.rank_bits.Reads as books-rank-bits
use Rattle.books.specs.declared.inner.Gathered.{Gathered}
use Rattle.books.proofs.GatherLaws.{parted_once}
use Rattle.books.proofs.inner.rank_bits_for_chunk.Kinds as books-gather-kinds
use Rattle.books.proofs.inner.rank_bits_for_chunk.Reads as books-gather
use Rattle.books.proofs.inner.into_window.Kinds as books-into-window-kinds
use Rattle.books.proofs.inner.into_window.Reads as books-into-window
use Rattle.books.proofs.inner.run_bits.Kinds as books-run-bits-kinds
use Rattle.books.proofs.inner.run_bits.Reads as books-run-bits
use Rattle.books.proofs.inner.run_bits_for_chunk.Kinds as books-run-bits-for-chunk-kinds
use Rattle.books.proofs.inner.run_bits_for_chunk.Reads as books-run-bits-for-chunk
use Rattle.books.proofs.inner.put_rows.Kinds as books-put-rows-kinds
use Rattle.books.proofs.inner.put_rows.Reads as books-put-rows
use Rattle.books.proofs.inner.mark_row.Kinds as books-mark-row-kinds
use Rattle.books.proofs.inner.mark_row.Reads as books-mark-row
use Rattle.host.proofs.boltamber_deposit.Kinds as host-boltamber-deposit-kinds
use Rattle.host.proofs.boltamber_deposit.Reads as host-boltamber-deposit
use Rattle.host.proofs.boltamber_select.Kinds as host-boltamber-select-kinds
use Rattle.host.proofs.boltamber_select.Reads as host-boltamber-select
use Rattle.routes.proofs.inner.few.Kinds as routes-few-kinds
use Rattle.routes.proofs.inner.few.Reads as routes-few
use Rattle.by_route.proofs.inner.lay_by_route.Kinds as by-route-lay-by-route-kinds
use Rattle.by_route.proofs.inner.lay_by_route.Reads as by-route-lay-by-route
use Rattle.intersect_by_rank.proofs.inner.lay.lay_composition.Kinds as intersect-by-rank-lay-composition-kinds
use Rattle.intersect_by_rank.proofs.inner.lay.lay_composition.Reads as intersect-by-rank-lay-composition
use Rattle.routes.proofs.inner.document_factors.Kinds as routes-document-factors-kinds
use Rattle.routes.proofs.inner.document_factors.Reads as routes-document-factors
use Rattle.intersect_by_rank.proofs.inner.judge.judge_both.Kinds as intersect-by-rank-judge-both-kinds
use Rattle.intersect_by_rank.proofs.inner.judge.judge_both.Reads as intersect-by-rank-judge-both
use Rattle.intersect_by_rank.proofs.inner.compose.compose_with.Kinds as intersect-by-rank-compose-with-kinds
use Rattle.intersect_by_rank.proofs.inner.compose.compose_with.Reads as intersect-by-rank-compose-with
use Rattle.marks.proofs.inner.lay_entry_at_rank.Kinds as marks-lay-entry-at-rank-kinds
use Rattle.marks.proofs.inner.lay_entry_at_rank.Reads as marks-lay-entry-at-rank
use Rattle.marks.proofs.inner.lay_entry_if_set.Kinds as marks-lay-entry-if-set-kinds
use Rattle.marks.proofs.inner.lay_entry_if_set.Reads as marks-lay-entry-if-set
use Rattle.marks.proofs.inner.lay_driven_by_list.Kinds as marks-lay-driven-by-list-kinds
use Rattle.marks.proofs.inner.lay_driven_by_list.Reads as marks-lay-driven-by-list
use Rattle.marks.proofs.inner.lay_driven_by_words.Kinds as marks-lay-driven-by-words-kinds
use Rattle.marks.proofs.inner.lay_driven_by_words.Reads as marks-lay-driven-by-words
use Rattle.deposits.proofs.inner.intersect_bit_buffer_by_rank_indices.Kinds as deposits-intersect-bit-buffer-by-rank-indices-kinds
use Rattle.deposits.proofs.inner.intersect_bit_buffer_by_rank_indices.Reads as deposits-intersect-bit-buffer-by-rank-indices
use Rattle.deposits.proofs.inner.intersect_bit_buffers.Kinds as deposits-intersect-bit-buffers-kinds
use Rattle.deposits.proofs.inner.intersect_bit_buffers.Reads as deposits-intersect-bit-buffers
use Rattle.lent.proofs.inner.word_at.Kinds as lent-word-at-kinds
use Rattle.lent.proofs.inner.word_at.Reads as lent-word-at
use Rattle.lent.proofs.inner.joined.Kinds as lent-joined-kinds
use Rattle.lent.proofs.inner.joined.Reads as lent-joined
use Rattle.lent.proofs.inner.read.Kinds as lent-read-kinds
use Rattle.lent.proofs.inner.read.Reads as lent-read
use Rattle.lent.proofs.inner.whole_word.Kinds as lent-whole-word-kinds
use Rattle.lent.proofs.inner.whole_word.Reads as lent-whole-word
use Rattle.lent.proofs.inner.ones.Kinds as lent-ones-kinds
use Rattle.lent.proofs.inner.ones.Reads as lent-ones
use Rattle.lent.proofs.inner.chunk.Kinds as lent-chunk-kinds
use Rattle.lent.proofs.inner.chunk.Reads as lent-chunk
use Rattle.lent.proofs.inner.chunk_len.Kinds as lent-chunk-len-kinds
use Rattle.lent.proofs.inner.chunk_len.Reads as lent-chunk-len
use Rattle.lent.proofs.inner.has_count.Kinds as lent-has-count-kinds
use Rattle.lent.proofs.inner.has_count.Reads as lent-has-count
use Rattle.lent.proofs.inner.count_view.Kinds as lent-count-view-kinds
use Rattle.lent.proofs.inner.count_view.Reads as lent-count-view
use Rattle.laid.proofs.inner.put.Kinds as laid-put-kinds
use Rattle.laid.proofs.inner.put.Reads as laid-put
use Rattle.laid.proofs.inner.clear.Kinds as laid-clear-kinds
use Rattle.laid.proofs.inner.clear.Reads as laid-clear
use Rattle.laid.proofs.inner.set_bit.Kinds as laid-set-bit-kinds
use Rattle.laid.proofs.inner.set_bit.Reads as laid-set-bit
use Rattle.lent.proofs.inner.words_for.Kinds as lent-words-for-kinds
use Rattle.lent.proofs.inner.words_for.Reads as lent-words-for
use Rattle.laid.proofs.inner.clear_last.Kinds as laid-clear-last-kinds
use Rattle.laid.proofs.inner.clear_last.Reads as laid-clear-last
use Rattle.operand.proofs.inner.checks.check.Kinds as operand-check-kinds
use Rattle.operand.proofs.inner.checks.check.Reads as operand-check
use Rattle.operand.proofs.inner.checks.check_set.Kinds as operand-check-set-kinds
use Rattle.operand.proofs.inner.checks.check_set.Reads as operand-check-set
use Rattle.operand.proofs.inner.forms.length_of.Kinds as operand-length-of-kinds
use Rattle.operand.proofs.inner.forms.length_of.Reads as operand-length-of
use Rattle.operand.proofs.inner.forms.start_of.Kinds as operand-start-of-kinds
use Rattle.operand.proofs.inner.forms.start_of.Reads as operand-start-of
use Rattle.operand.proofs.inner.counts.is_empty.Kinds as operand-is-empty-kinds
use Rattle.operand.proofs.inner.counts.is_empty.Reads as operand-is-empty
use Rattle.operand.proofs.inner.counts.is_full.Kinds as operand-is-full-kinds
use Rattle.operand.proofs.inner.counts.is_full.Reads as operand-is-full
use Rattle.operand.proofs.inner.chunks.chunk_of.Kinds as operand-chunk-of-kinds
use Rattle.operand.proofs.inner.chunks.chunk_of.Reads as operand-chunk-of
use Rattle.mask.proofs.inner.lay.lay_rows.Kinds as mask-lay-rows-kinds
use Rattle.mask.proofs.inner.lay.lay_rows.Reads as mask-lay-rows
use Rattle.mask.proofs.inner.lay.write_rows.Kinds as mask-write-rows-kinds
use Rattle.mask.proofs.inner.lay.write_rows.Reads as mask-write-rows
use Rattle.operand.proofs.inner.answers.density.Kinds as operand-density-kinds
use Rattle.operand.proofs.inner.answers.density.Reads as operand-density
use Rattle.operand.proofs.inner.answers.accepted.Kinds as operand-accepted-kinds
use Rattle.operand.proofs.inner.answers.accepted.Reads as operand-accepted
use Rattle.network.proofs.inner.counts_of_bytes.Kinds as network-counts-of-bytes-kinds
use Rattle.network.proofs.inner.counts_of_bytes.Reads as network-counts-of-bytes
use Rattle.places.proofs.inner.place_in.Kinds as places-place-in-kinds
use Rattle.places.proofs.inner.place_in.Reads as places-place-in
use Rattle.network.proofs.inner.deposit_bytewise.Kinds as network-deposit-bytewise-kinds
use Rattle.network.proofs.inner.deposit_bytewise.Reads as network-deposit-bytewise
use Rattle.rowwise.proofs.inner.answer.Kinds as rowwise-answer-kinds
use Rattle.rowwise.proofs.inner.answer.Reads as rowwise-answer
use Rattle.word.proofs.inner.deposit_portable.Kinds as word-deposit-portable-kinds
use Rattle.word.proofs.inner.deposit_portable.Reads as word-deposit-portable
use Rattle.word.proofs.inner.deposit_portable_loop.Kinds as word-deposit-portable-loop-kinds
use Rattle.word.proofs.inner.deposit_portable_loop.Reads as word-deposit-portable-loop
use Rattle.word.proofs.inner.select_bit_position.Kinds as word-select-bit-position-kinds
use Rattle.word.proofs.inner.select_bit_position.Reads as word-select-bit-position
use Rattle.rows.proofs.inner.verdicts.refusal.Kinds as rows-refusal-kinds
use Rattle.rows.proofs.inner.verdicts.refusal.Reads as rows-refusal
use Rattle.rows.proofs.inner.verdicts.at_most.Kinds as rows-at-most-kinds
use Rattle.rows.proofs.inner.verdicts.at_most.Reads as rows-at-most
use Rattle.rows.proofs.inner.verdicts.has_room.Kinds as rows-has-room-kinds
use Rattle.rows.proofs.inner.verdicts.has_room.Reads as rows-has-room
use Rattle.rows.proofs.inner.verdicts.equal.Kinds as rows-equal-kinds
use Rattle.rows.proofs.inner.verdicts.equal.Reads as rows-equal
use Rattle.word.proofs.inner.deposit_by.Kinds as word-deposit-by-kinds
use Rattle.word.proofs.inner.deposit_by.Reads as word-deposit-by
use Rattle.operand.proofs.inner.forms.counts_as_list.Kinds as operand-counts-as-list-kinds
use Rattle.operand.proofs.inner.forms.counts_as_list.Reads as operand-counts-as-list
use Rattle.operand.proofs.inner.forms.has_row_numbers.Kinds as operand-has-row-numbers-kinds
use Rattle.operand.proofs.inner.forms.has_row_numbers.Reads as operand-has-row-numbers
use Rattle.routes.proofs.inner.number.Kinds as routes-number-kinds
use Rattle.routes.proofs.inner.number.Reads as routes-number
use Rattle.routes.proofs.inner.choose_route.Kinds as routes-choose-route-kinds
use Rattle.routes.proofs.inner.choose_route.Reads as routes-choose-route
use Rattle.intersect_by_rank.proofs.inner.judge.judge.Kinds as intersect-by-rank-judge-kinds
use Rattle.intersect_by_rank.proofs.inner.judge.judge.Reads as intersect-by-rank-judge
use Rattle.laid.proofs.inner.copy_words.Kinds as laid-copy-words-kinds
use Rattle.laid.proofs.inner.copy_words.Reads as laid-copy-words
use Rattle.books.proofs.inner.clear_rows.Kinds as books-clear-rows-kinds
use Rattle.books.proofs.inner.clear_rows.Reads as books-clear-rows
use Rattle.fills.proofs.inner.lay.lay_runs.Kinds as fills-lay-runs-kinds
use Rattle.fills.proofs.inner.lay.lay_runs.Reads as fills-lay-runs
use Rattle.fills.proofs.inner.list.list_runs.Kinds as fills-list-runs-kinds
use Rattle.fills.proofs.inner.list.list_runs.Reads as fills-list-runs
use Rattle.under.proofs.inner.lay_ranks_under_runs.Kinds as ranks-under-runs-kinds
use Rattle.under.proofs.inner.lay_ranks_under_runs.Reads as ranks-under-runs
use Rattle.fills.proofs.inner.lay.lay_run.Kinds as fills-lay-run-kinds
use Rattle.fills.proofs.inner.lay.lay_run.Reads as fills-lay-run
use Rattle.mask.proofs.inner.answers.own_answer.Kinds as mask-own-answer-kinds
use Rattle.mask.proofs.inner.answers.own_answer.Reads as mask-own-answer
use Rattle.mask.proofs.inner.runs.count_runs.Kinds as mask-count-runs-kinds
use Rattle.mask.proofs.inner.runs.count_runs.Reads as mask-count-runs
use Rattle.mask.proofs.inner.runs.write_runs.Kinds as mask-write-runs-kinds
use Rattle.mask.proofs.inner.runs.write_runs.Reads as mask-write-runs
use Rattle.operand.proofs.inner.checks.run_fits.Kinds as operand-run-fits-kinds
use Rattle.operand.proofs.inner.checks.run_fits.Reads as operand-run-fits
use Rattle.operand.proofs.inner.states.judge_state.Kinds as operand-judge-state-kinds
use Rattle.operand.proofs.inner.states.judge_state.Reads as operand-judge-state
use Rattle.turns.proofs.inner.sum_runs.Kinds as turns-sum-runs-kinds
use Rattle.turns.proofs.inner.sum_runs.Reads as turns-sum-runs
use Rattle.fills.proofs.inner.lay.set_run.Kinds as fills-set-run-kinds
use Rattle.fills.proofs.inner.lay.set_run.Reads as fills-set-run
use Rattle.marks.proofs.inner.entry_at.Kinds as marks-entry-at-kinds
use Rattle.marks.proofs.inner.entry_at.Reads as marks-entry-at
use Rattle.under.proofs.inner.lay_runs_in_runs.Kinds as runs-in-runs-kinds
use Rattle.under.proofs.inner.lay_runs_in_runs.Reads as runs-in-runs
use Rattle.kept.proofs.inner.lay_entries_by_runs.Kinds as entries-by-runs-kinds
use Rattle.kept.proofs.inner.lay_entries_by_runs.Reads as entries-by-runs
use Rattle.kept.proofs.inner.keep_words.Kinds as kept-keep-words-kinds
use Rattle.kept.proofs.inner.keep_words.Reads as kept-keep-words
use Rattle.under.proofs.inner.lay_entries_in_runs.Kinds as entries-in-runs-kinds
use Rattle.under.proofs.inner.lay_entries_in_runs.Reads as entries-in-runs
use Rattle.laid.proofs.inner.lay_same.Kinds as laid-lay-same-kinds
use Rattle.laid.proofs.inner.lay_same.Reads as laid-lay-same
use Rattle.laid.proofs.inner.fill.Kinds as laid-fill-kinds
use Rattle.laid.proofs.inner.fill.Reads as laid-fill
use Rattle.operand.proofs.inner.forms.has_runs.Kinds as operand-has-runs-kinds
use Rattle.operand.proofs.inner.forms.has_runs.Reads as operand-has-runs
use Rattle.turns.proofs.inner.count_turns.Kinds as turns-count-turns-kinds
use Rattle.turns.proofs.inner.count_turns.Reads as turns-count-turns
use Rattle.turns.proofs.inner.list_chunk.Kinds as turns-list-chunk-kinds
use Rattle.turns.proofs.inner.list_chunk.Reads as turns-list-chunk
use Rattle.turns.proofs.inner.write_turns.Kinds as turns-write-turns-kinds
use Rattle.turns.proofs.inner.write_turns.Reads as turns-write-turns
use Rattle.turns.proofs.inner.count_list_turns.Kinds as count-list-turns-kinds
use Rattle.turns.proofs.inner.count_list_turns.Reads as count-list-turns
use Rattle.turns.proofs.inner.write_list_turns.Kinds as write-list-turns-kinds
use Rattle.turns.proofs.inner.write_list_turns.Reads as write-list-turns
use Rattle.rows.proofs.inner.verdicts.refusal_of.Kinds as rows-refusal-of-kinds
use Rattle.rows.proofs.inner.verdicts.refusal_of.Reads as rows-refusal-of
use Rattle.rows.proofs.inner.numbers.number.Kinds as rows-number-kinds
use Rattle.rows.proofs.inner.numbers.number.Reads as rows-number
use Rattle.rows.proofs.inner.numbers.operand_number.Kinds as rows-operand-number-kinds
use Rattle.rows.proofs.inner.numbers.operand_number.Reads as rows-operand-number
use Rattle.rows.proofs.inner.numbers.row_of.Kinds as rows-row-of-kinds
use Rattle.rows.proofs.inner.numbers.row_of.Reads as rows-row-of
use Rattle.rows.proofs.inner.numbers.numbers.Kinds as rows-numbers-kinds
use Rattle.rows.proofs.inner.numbers.numbers.Reads as rows-numbers
use Rattle.operand.proofs.inner.answers.summary_told.Kinds as operand-summary-told-kinds
use Rattle.operand.proofs.inner.answers.summary_told.Reads as operand-summary-told
use Rattle.routes.proofs.inner.route_number.Kinds as routes-route-number-kinds
use Rattle.routes.proofs.inner.route_number.Reads as routes-route-number
use Rattle.outside.proofs.FirstLaws.{first_same}
use Rattle.outside.proofs.inner.seek.Kinds as outside-seek-kinds
use Rattle.outside.proofs.inner.seek.Reads as outside-seek

pub books_self_chunk_one : OneAnswer 1 books-self-chunk-kinds.ps books-self-chunk-kinds.r books-self-chunk.Pre books-self-chunk.Post
books_self_chunk_one κs a p x y v w hv hw = (hv ∙ sym hw, refl)

pub books_rank_chunk_one : OneAnswer 1 books-rank-chunk-kinds.ps books-rank-chunk-kinds.r books-rank-chunk.Pre books-rank-chunk.Post
books_rank_chunk_one κs a p x y v w hv hw = (hv ∙ sym hw, refl)

pub books_self_bits_one : OneAnswer 1 books-self-bits-kinds.ps books-self-bits-kinds.r books-self-bits.Pre books-self-bits.Post
books_self_bits_one κs a p x y v w hv hw = (hv ∙ sym hw, refl)

pub books_rank_bits_one : OneAnswer 1 books-rank-bits-kinds.ps books-rank-bits-kinds.r books-rank-bits.Pre books-rank-bits.Post
books_rank_bits_one κs a p x y v w hv hw = (hv ∙ sym hw, refl)

pub books_rank_bits_for_chunk_one : OneAnswer 1 books-gather-kinds.ps books-gather-kinds.r books-gather.Pre books-gather.Post
books_rank_bits_for_chunk_one κs a p x y v w hv hw =
    let make : ℕ → ℕ → Gathered = λ bits next. record { bits = bits; next = next } in
    (ap₂ make (hv.is ∙ sym hw.is) (parted_once _ x.next y.next _ hv.parted hw.parted), refl)

pub books_into_window_one : OneAnswer 0 books-into-window-kinds.ps books-into-window-kinds.r books-into-window.Pre books-into-window.Post
books_into_window_one κs a p x y v w hv hw = (hv ∙ sym hw, refl)

pub books_run_bits_one : OneAnswer 1 books-run-bits-kinds.ps books-run-bits-kinds.r books-run-bits.Pre books-run-bits.Post
books_run_bits_one κs a p x y v w hv hw =
    let make : ℕ → ℕ → Gathered = λ bits next. record { bits = bits; next = next } in
    (ap₂ make (hv.0 ∙ sym hw.0) (hv.2 ∙ sym hw.2), refl)

pub books_run_bits_for_chunk_one : OneAnswer 1 books-run-bits-for-chunk-kinds.ps books-run-bits-for-chunk-kinds.r books-run-bits-for-chunk.Pre books-run-bits-for-chunk.Post
books_run_bits_for_chunk_one κs a p x y v w hv hw =
    let make : ℕ → ℕ → Gathered = λ bits next. record { bits = bits; next = next } in
    (ap₂ make (hv.0 ∙ sym hw.0) (hv.2 ∙ sym hw.2), refl)

pub books_put_rows_one : OneAnswer 1 books-put-rows-kinds.ps books-put-rows-kinds.r books-put-rows.Pre books-put-rows.Post
books_put_rows_one κs a p x y v w hv hw = (refl, ap (λ (l : List ℕ). (l, (tt, (tt, (tt, (tt, tt)))))) (hv ∙ sym hw))

pub books_mark_row_one : OneAnswer 1 books-mark-row-kinds.ps books-mark-row-kinds.r books-mark-row.Pre books-mark-row.Post
books_mark_row_one κs a p x y v w hv hw = (refl, ap (λ (l : List ℕ). (l, (tt, (tt, tt)))) (hv ∙ sym hw))

pub host_boltamber_deposit_one : OneAnswer 0 host-boltamber-deposit-kinds.ps host-boltamber-deposit-kinds.r host-boltamber-deposit.Pre host-boltamber-deposit.Post
host_boltamber_deposit_one κs a p x y v w hv hw = (hv ∙ sym hw, refl)

pub host_boltamber_select_one : OneAnswer 0 host-boltamber-select-kinds.ps host-boltamber-select-kinds.r host-boltamber-select.Pre host-boltamber-select.Post
host_boltamber_select_one κs a p x y v w hv hw = (hv ∙ sym hw, refl)

pub routes_few_one : OneAnswer 0 routes-few-kinds.ps routes-few-kinds.r routes-few.Pre routes-few.Post
routes_few_one κs a p x y v w hv hw = (hv ∙ sym hw, refl)

pub by_route_lay_by_route_one : OneAnswer 5 by-route-lay-by-route-kinds.ps by-route-lay-by-route-kinds.r by-route-lay-by-route.Pre by-route-lay-by-route.Post
by_route_lay_by_route_one κs a p x y v w hv hw = (refl, ap (λ (l : List ℕ). (tt, (tt, (tt, (tt, (tt, (tt, (tt, (tt, (l, tt)))))))))) (hv ∙ sym hw))

pub intersect_by_rank_lay_composition_one : OneAnswer 5 intersect-by-rank-lay-composition-kinds.ps intersect-by-rank-lay-composition-kinds.r intersect-by-rank-lay-composition.Pre intersect-by-rank-lay-composition.Post
intersect_by_rank_lay_composition_one κs a p x y v w hv hw = (hv.0 ∙ sym hw.0, ap (λ (l : List ℕ). (tt, (tt, (tt, (tt, (tt, (tt, (tt, (tt, (l, tt)))))))))) (hv.1 ∙ sym hw.1))

pub routes_document_factors_one : OneAnswer 0 routes-document-factors-kinds.ps routes-document-factors-kinds.r routes-document-factors.Pre routes-document-factors.Post
routes_document_factors_one κs a p x y v w hv hw = (hv ∙ sym hw, refl)

pub intersect_by_rank_judge_both_one : OneAnswer 4 intersect-by-rank-judge-both-kinds.ps intersect-by-rank-judge-both-kinds.r intersect-by-rank-judge-both.Pre intersect-by-rank-judge-both.Post
intersect_by_rank_judge_both_one κs a p x y v w hv hw = (hv ∙ sym hw, refl)

pub intersect_by_rank_compose_with_one : OneAnswer 5 intersect-by-rank-compose-with-kinds.ps intersect-by-rank-compose-with-kinds.r intersect-by-rank-compose-with.Pre intersect-by-rank-compose-with.Post
intersect_by_rank_compose_with_one κs a p x y v w hv hw = (hv.0 ∙ sym hw.0, ap (λ (l : List ℕ). (tt, (tt, (tt, (tt, (tt, (tt, (tt, (l, tt))))))))) (hv.1 ∙ sym hw.1))

pub marks_lay_entry_at_rank_one : OneAnswer 3 marks-lay-entry-at-rank-kinds.ps marks-lay-entry-at-rank-kinds.r marks-lay-entry-at-rank.Pre marks-lay-entry-at-rank.Post
marks_lay_entry_at_rank_one κs a p x y v w hv hw = (refl, ap (λ (l : List ℕ). (tt, (tt, (tt, (tt, (tt, (l, tt))))))) (hv ∙ sym hw))

pub marks_lay_entry_if_set_one : OneAnswer 3 marks-lay-entry-if-set-kinds.ps marks-lay-entry-if-set-kinds.r marks-lay-entry-if-set.Pre marks-lay-entry-if-set.Post
marks_lay_entry_if_set_one κs a p x y v w hv hw = (refl, ap (λ (l : List ℕ). (tt, (tt, (tt, (tt, (tt, (tt, (l, tt)))))))) (hv ∙ sym hw))

pub marks_lay_driven_by_list_one : OneAnswer 3 marks-lay-driven-by-list-kinds.ps marks-lay-driven-by-list-kinds.r marks-lay-driven-by-list.Pre marks-lay-driven-by-list.Post
marks_lay_driven_by_list_one κs a p x y v w hv hw = (refl, ap (λ (l : List ℕ). (tt, (tt, (tt, (tt, (tt, (l, tt))))))) (hv ∙ sym hw))

pub marks_lay_driven_by_words_one : OneAnswer 3 marks-lay-driven-by-words-kinds.ps marks-lay-driven-by-words-kinds.r marks-lay-driven-by-words.Pre marks-lay-driven-by-words.Post
marks_lay_driven_by_words_one κs a p x y v w hv hw = (refl, ap (λ (l : List ℕ). (tt, (tt, (tt, (tt, (tt, (tt, (tt, (l, tt))))))))) (hv ∙ sym hw))

pub deposits_intersect_bit_buffer_by_rank_indices_one : OneAnswer 3 deposits-intersect-bit-buffer-by-rank-indices-kinds.ps deposits-intersect-bit-buffer-by-rank-indices-kinds.r deposits-intersect-bit-buffer-by-rank-indices.Pre deposits-intersect-bit-buffer-by-rank-indices.Post
deposits_intersect_bit_buffer_by_rank_indices_one κs a p x y v w hv hw = (refl, ap (λ (l : List ℕ). (tt, (tt, (tt, (tt, (tt, (tt, (l, tt)))))))) (hv ∙ sym hw))

pub deposits_intersect_bit_buffers_one : OneAnswer 3 deposits-intersect-bit-buffers-kinds.ps deposits-intersect-bit-buffers-kinds.r deposits-intersect-bit-buffers.Pre deposits-intersect-bit-buffers.Post
deposits_intersect_bit_buffers_one κs a p x y v w hv hw = (refl, ap (λ (l : List ℕ). (tt, (tt, (tt, (tt, (tt, (tt, (tt, (l, tt))))))))) (hv ∙ sym hw))

pub lent_word_at_one : OneAnswer 1 lent-word-at-kinds.ps lent-word-at-kinds.r lent-word-at.Pre lent-word-at.Post
lent_word_at_one κs a p x y v w hv hw = (hv ∙ sym hw, refl)

pub lent_joined_one : OneAnswer 0 lent-joined-kinds.ps lent-joined-kinds.r lent-joined.Pre lent-joined.Post
lent_joined_one κs a p x y v w hv hw = (hv ∙ sym hw, refl)

pub lent_read_one : OneAnswer 1 lent-read-kinds.ps lent-read-kinds.r lent-read.Pre lent-read.Post
lent_read_one κs a p x y v w hv hw = (hv ∙ sym hw, refl)

pub lent_whole_word_one : OneAnswer 1 lent-whole-word-kinds.ps lent-whole-word-kinds.r lent-whole-word.Pre lent-whole-word.Post
lent_whole_word_one κs a p x y v w hv hw = (hv ∙ sym hw, refl)

pub lent_ones_one : OneAnswer 0 lent-ones-kinds.ps lent-ones-kinds.r lent-ones.Pre lent-ones.Post
lent_ones_one κs a p x y v w hv hw = (hv ∙ sym hw, refl)

pub lent_chunk_one : OneAnswer 1 lent-chunk-kinds.ps lent-chunk-kinds.r lent-chunk.Pre lent-chunk.Post
lent_chunk_one κs a p x y v w hv hw = (hv ∙ sym hw, refl)

pub lent_chunk_len_one : OneAnswer 0 lent-chunk-len-kinds.ps lent-chunk-len-kinds.r lent-chunk-len.Pre lent-chunk-len.Post
lent_chunk_len_one κs a p x y v w hv hw = (hv ∙ sym hw, refl)

pub lent_has_count_one : OneAnswer 1 lent-has-count-kinds.ps lent-has-count-kinds.r lent-has-count.Pre lent-has-count.Post
lent_has_count_one κs a p x y v w hv hw = (hv ∙ sym hw, refl)

pub lent_count_view_one : OneAnswer 1 lent-count-view-kinds.ps lent-count-view-kinds.r lent-count-view.Pre lent-count-view.Post
lent_count_view_one κs a p x y v w hv hw = (hv ∙ sym hw, refl)

pub laid_put_one : OneAnswer 1 laid-put-kinds.ps laid-put-kinds.r laid-put.Pre laid-put.Post
laid_put_one κs a p x y v w hv hw = (refl, ap (λ (l : List ℕ). (l, (tt, (tt, (tt, tt))))) (hv ∙ sym hw))

pub laid_clear_one : OneAnswer 1 laid-clear-kinds.ps laid-clear-kinds.r laid-clear.Pre laid-clear.Post
laid_clear_one κs a p x y v w hv hw = (refl, ap (λ (l : List ℕ). (l, (tt, (tt, tt)))) (hv ∙ sym hw))

pub laid_set_bit_one : OneAnswer 1 laid-set-bit-kinds.ps laid-set-bit-kinds.r laid-set-bit.Pre laid-set-bit.Post
laid_set_bit_one κs a p x y v w hv hw = (refl, ap (λ (l : List ℕ). (l, (tt, tt))) (hv ∙ sym hw))

pub lent_words_for_one : OneAnswer 0 lent-words-for-kinds.ps lent-words-for-kinds.r lent-words-for.Pre lent-words-for.Post
lent_words_for_one κs a p x y v w hv hw = (hv ∙ sym hw, refl)

pub laid_clear_last_one : OneAnswer 1 laid-clear-last-kinds.ps laid-clear-last-kinds.r laid-clear-last.Pre laid-clear-last.Post
laid_clear_last_one κs a p x y v w hv hw = (refl, ap (λ (l : List ℕ). (l, (tt, tt))) (hv ∙ sym hw))

pub operand_check_one : OneAnswer 2 operand-check-kinds.ps operand-check-kinds.r operand-check.Pre operand-check.Post
operand_check_one κs a p x y v w hv hw = (hv ∙ sym hw, refl)

pub operand_check_set_one : OneAnswer 2 operand-check-set-kinds.ps operand-check-set-kinds.r operand-check-set.Pre operand-check-set.Post
operand_check_set_one κs a p x y v w hv hw = (hv ∙ sym hw, refl)

pub operand_length_of_one : OneAnswer 0 operand-length-of-kinds.ps operand-length-of-kinds.r operand-length-of.Pre operand-length-of.Post
operand_length_of_one κs a p x y v w hv hw = (hv ∙ sym hw, refl)

pub operand_start_of_one : OneAnswer 0 operand-start-of-kinds.ps operand-start-of-kinds.r operand-start-of.Pre operand-start-of.Post
operand_start_of_one κs a p x y v w hv hw = (hv ∙ sym hw, refl)

pub operand_is_empty_one : OneAnswer 0 operand-is-empty-kinds.ps operand-is-empty-kinds.r operand-is-empty.Pre operand-is-empty.Post
operand_is_empty_one κs a p x y v w hv hw = (hv ∙ sym hw, refl)

pub operand_is_full_one : OneAnswer 0 operand-is-full-kinds.ps operand-is-full-kinds.r operand-is-full.Pre operand-is-full.Post
operand_is_full_one κs a p x y v w hv hw = (hv ∙ sym hw, refl)

pub operand_chunk_of_one : OneAnswer 1 operand-chunk-of-kinds.ps operand-chunk-of-kinds.r operand-chunk-of.Pre operand-chunk-of.Post
operand_chunk_of_one κs a p x y v w hv hw = (hv ∙ sym hw, refl)

pub mask_lay_rows_one : OneAnswer 3 mask-lay-rows-kinds.ps mask-lay-rows-kinds.r mask-lay-rows.Pre mask-lay-rows.Post
mask_lay_rows_one κs a p x y v w hv hw = (refl, ap (λ (l : List ℕ). (tt, (tt, (tt, (tt, (l, tt)))))) (hv ∙ sym hw))

pub mask_write_rows_one : OneAnswer 3 mask-write-rows-kinds.ps mask-write-rows-kinds.r mask-write-rows.Pre mask-write-rows.Post
mask_write_rows_one κs a p x y v w hv hw = (refl, ap (λ (l : List ℕ). (tt, (tt, (tt, (l, tt))))) (hv ∙ sym hw))

pub operand_density_one : OneAnswer 0 operand-density-kinds.ps operand-density-kinds.r operand-density.Pre operand-density.Post
operand_density_one κs a p x y v w hv hw = (hv ∙ sym hw, refl)

pub operand_accepted_one : OneAnswer 0 operand-accepted-kinds.ps operand-accepted-kinds.r operand-accepted.Pre operand-accepted.Post
operand_accepted_one κs a p x y v w hv hw = (hv ∙ sym hw, refl)

pub network_counts_of_bytes_one : OneAnswer 0 network-counts-of-bytes-kinds.ps network-counts-of-bytes-kinds.r network-counts-of-bytes.Pre network-counts-of-bytes.Post
network_counts_of_bytes_one κs a p x y v w hv hw = (hv ∙ sym hw, refl)

pub places_place_in_one : OneAnswer 0 places-place-in-kinds.ps places-place-in-kinds.r places-place-in.Pre places-place-in.Post
places_place_in_one κs a p x y v w hv hw = (hv ∙ sym hw, refl)

pub network_deposit_bytewise_one : OneAnswer 0 network-deposit-bytewise-kinds.ps network-deposit-bytewise-kinds.r network-deposit-bytewise.Pre network-deposit-bytewise.Post
network_deposit_bytewise_one κs a p x y v w hv hw = (hv ∙ sym hw, refl)

pub rowwise_answer_one : OneAnswer 3 rowwise-answer-kinds.ps rowwise-answer-kinds.r rowwise-answer.Pre rowwise-answer.Post
rowwise_answer_one κs a p x y v w hv hw = (hv.0 ∙ sym hw.0, ap (λ (l : List ℕ). (tt, (tt, (tt, (tt, (tt, (l, tt))))))) (hv.1 ∙ sym hw.1))

pub word_deposit_portable_one : OneAnswer 0 word-deposit-portable-kinds.ps word-deposit-portable-kinds.r word-deposit-portable.Pre word-deposit-portable.Post
word_deposit_portable_one κs a p x y v w hv hw = (hv ∙ sym hw, refl)

pub word_deposit_portable_loop_one : OneAnswer 0 word-deposit-portable-loop-kinds.ps word-deposit-portable-loop-kinds.r word-deposit-portable-loop.Pre word-deposit-portable-loop.Post
word_deposit_portable_loop_one κs a p x y v w hv hw = (hv ∙ sym hw, refl)

pub word_select_bit_position_one : OneAnswer 0 word-select-bit-position-kinds.ps word-select-bit-position-kinds.r word-select-bit-position.Pre word-select-bit-position.Post
word_select_bit_position_one κs a p x y v w hv hw = (hv ∙ sym hw, refl)

pub rows_refusal_one : OneAnswer 0 rows-refusal-kinds.ps rows-refusal-kinds.r rows-refusal.Pre rows-refusal.Post
rows_refusal_one κs a p x y v w hv hw = (hv ∙ sym hw, refl)

pub rows_at_most_one : OneAnswer 0 rows-at-most-kinds.ps rows-at-most-kinds.r rows-at-most.Pre rows-at-most.Post
rows_at_most_one κs a p x y v w hv hw = (hv ∙ sym hw, refl)

pub rows_has_room_one : OneAnswer 0 rows-has-room-kinds.ps rows-has-room-kinds.r rows-has-room.Pre rows-has-room.Post
rows_has_room_one κs a p x y v w hv hw = (hv ∙ sym hw, refl)

pub rows_equal_one : OneAnswer 0 rows-equal-kinds.ps rows-equal-kinds.r rows-equal.Pre rows-equal.Post
rows_equal_one κs a p x y v w hv hw = (hv ∙ sym hw, refl)

pub word_deposit_by_one : OneAnswer 0 word-deposit-by-kinds.ps word-deposit-by-kinds.r word-deposit-by.Pre word-deposit-by.Post
word_deposit_by_one κs a p x y v w hv hw = (hv ∙ sym hw, refl)

pub operand_counts_as_list_one : OneAnswer 0 operand-counts-as-list-kinds.ps operand-counts-as-list-kinds.r operand-counts-as-list.Pre operand-counts-as-list.Post
operand_counts_as_list_one κs a p x y v w hv hw = (hv ∙ sym hw, refl)

pub operand_has_row_numbers_one : OneAnswer 0 operand-has-row-numbers-kinds.ps operand-has-row-numbers-kinds.r operand-has-row-numbers.Pre operand-has-row-numbers.Post
operand_has_row_numbers_one κs a p x y v w hv hw = (hv ∙ sym hw, refl)

pub routes_number_one : OneAnswer 0 routes-number-kinds.ps routes-number-kinds.r routes-number.Pre routes-number.Post
routes_number_one κs a p x y v w hv hw = (hv ∙ sym hw, refl)

pub routes_choose_route_one : OneAnswer 0 routes-choose-route-kinds.ps routes-choose-route-kinds.r routes-choose-route.Pre routes-choose-route.Post
routes_choose_route_one κs a p x y v w hv hw = (hv ∙ sym hw, refl)

pub intersect_by_rank_judge_one : OneAnswer 4 intersect-by-rank-judge-kinds.ps intersect-by-rank-judge-kinds.r intersect-by-rank-judge.Pre intersect-by-rank-judge.Post
intersect_by_rank_judge_one κs a p x y v w hv hw = (hv ∙ sym hw, refl)

pub laid_copy_words_one : OneAnswer 2 laid-copy-words-kinds.ps laid-copy-words-kinds.r laid-copy-words.Pre laid-copy-words.Post
laid_copy_words_one κs a p x y v w hv hw = (refl, ap (λ (l : List ℕ). (tt, (tt, (tt, (l, tt))))) (hv ∙ sym hw))

pub books_clear_rows_one : OneAnswer 1 books-clear-rows-kinds.ps books-clear-rows-kinds.r books-clear-rows.Pre books-clear-rows.Post
books_clear_rows_one κs a p x y v w hv hw = (refl, ap (λ (l : List ℕ). (l, (tt, (tt, (tt, tt))))) (hv ∙ sym hw))

pub fills_lay_runs_one : OneAnswer 2 fills-lay-runs-kinds.ps fills-lay-runs-kinds.r fills-lay-runs.Pre fills-lay-runs.Post
fills_lay_runs_one κs a p x y v w hv hw = (refl, ap (λ (l : List ℕ). (tt, (tt, (tt, (l, tt))))) (hv ∙ sym hw))

pub fills_set_run_one : OneAnswer 1 fills-set-run-kinds.ps fills-set-run-kinds.r fills-set-run.Pre fills-set-run.Post
fills_set_run_one κs a p x y v w hv hw = (refl, ap (λ (l : List ℕ). (l, (tt, (tt, (tt, tt))))) (hv ∙ sym hw))

pub fills_list_runs_one : OneAnswer 2 fills-list-runs-kinds.ps fills-list-runs-kinds.r fills-list-runs.Pre fills-list-runs.Post
fills_list_runs_one κs a p x y v w hv hw = (refl, ap (λ (l : List ℕ). (tt, (tt, (l, tt)))) (hv ∙ sym hw))

pub under_lay_ranks_under_runs_one : OneAnswer 3 ranks-under-runs-kinds.ps ranks-under-runs-kinds.r ranks-under-runs.Pre ranks-under-runs.Post
under_lay_ranks_under_runs_one κs a p x y v w hv hw = (hv.0 ∙ sym hw.0, ap (λ (l : List ℕ). (tt, (tt, (tt, (tt, (tt, (l, tt))))))) (hv.1 ∙ sym hw.1))

pub kept_keep_words_one : OneAnswer 3 kept-keep-words-kinds.ps kept-keep-words-kinds.r kept-keep-words.Pre kept-keep-words.Post
kept_keep_words_one κs a p x y v w hv hw = (hv.0 ∙ sym hw.0, ap (λ (l : List ℕ). (tt, (tt, (tt, (tt, (tt, (l, tt))))))) (hv.1 ∙ sym hw.1))

pub under_lay_runs_in_runs_one : OneAnswer 3 runs-in-runs-kinds.ps runs-in-runs-kinds.r runs-in-runs.Pre runs-in-runs.Post
under_lay_runs_in_runs_one κs a p x y v w hv hw = (hv.0 ∙ sym hw.0, ap (λ (l : List ℕ). (tt, (tt, (tt, (tt, (l, tt)))))) (hv.1 ∙ sym hw.1))

pub kept_lay_entries_by_runs_one : OneAnswer 3 entries-by-runs-kinds.ps entries-by-runs-kinds.r entries-by-runs.Pre entries-by-runs.Post
kept_lay_entries_by_runs_one κs a p x y v w hv hw = (hv.0 ∙ sym hw.0, ap (λ (l : List ℕ). (tt, (tt, (tt, (tt, (tt, (l, tt))))))) (hv.1 ∙ sym hw.1))

pub under_lay_entries_in_runs_one : OneAnswer 3 entries-in-runs-kinds.ps entries-in-runs-kinds.r entries-in-runs.Pre entries-in-runs.Post
under_lay_entries_in_runs_one κs a p x y v w hv hw = (hv.0 ∙ sym hw.0, ap (λ (l : List ℕ). (tt, (tt, (tt, (tt, (tt, (l, tt))))))) (hv.1 ∙ sym hw.1))

pub laid_lay_same_one : OneAnswer 1 laid-lay-same-kinds.ps laid-lay-same-kinds.r laid-lay-same.Pre laid-lay-same.Post
laid_lay_same_one κs a p x y v w hv hw = (refl, ap (λ (l : List ℕ). (l, (tt, (tt, (tt, tt))))) (hv ∙ sym hw))

pub laid_fill_one : OneAnswer 1 laid-fill-kinds.ps laid-fill-kinds.r laid-fill.Pre laid-fill.Post
laid_fill_one κs a p x y v w hv hw = (refl, ap (λ (l : List ℕ). (l, (tt, (tt, tt)))) (hv ∙ sym hw))

-- a row is its number
abbrev row_of : ℕ → Row
row_of n = record { 0 = n }

pub marks_entry_at_one : OneAnswer 1 marks-entry-at-kinds.ps marks-entry-at-kinds.r marks-entry-at.Pre marks-entry-at.Post
marks_entry_at_one κs a p x y v w hv hw = (ap row_of (hv ∙ sym hw), refl)

pub operand_has_runs_one : OneAnswer 0 operand-has-runs-kinds.ps operand-has-runs-kinds.r operand-has-runs.Pre operand-has-runs.Post
operand_has_runs_one κs a p x y v w hv hw = (hv ∙ sym hw, refl)

pub turns_count_turns_one : OneAnswer 1 turns-count-turns-kinds.ps turns-count-turns-kinds.r turns-count-turns.Pre turns-count-turns.Post
turns_count_turns_one κs a p x y v w hv hw = (hv ∙ sym hw, refl)

pub turns_list_chunk_one : OneAnswer 1 turns-list-chunk-kinds.ps turns-list-chunk-kinds.r turns-list-chunk.Pre turns-list-chunk.Post
turns_list_chunk_one κs a p x y v w hv hw = (hv.0 ∙ sym hw.0, ap (λ (l : List ℕ). (tt, (tt, (tt, (l, tt))))) (hv.1 ∙ sym hw.1))

pub turns_write_turns_one : OneAnswer 2 turns-write-turns-kinds.ps turns-write-turns-kinds.r turns-write-turns.Pre turns-write-turns.Post
turns_write_turns_one κs a p x y v w hv hw = (refl, ap (λ (l : List ℕ). (tt, (tt, (tt, (l, tt))))) (hv ∙ sym hw))

pub turns_count_list_turns_one : OneAnswer 1 count-list-turns-kinds.ps count-list-turns-kinds.r count-list-turns.Pre count-list-turns.Post
turns_count_list_turns_one κs a p x y v w hv hw = (hv ∙ sym hw, refl)

pub turns_write_list_turns_one : OneAnswer 2 write-list-turns-kinds.ps write-list-turns-kinds.r write-list-turns.Pre write-list-turns.Post
turns_write_list_turns_one κs a p x y v w hv hw = (refl, ap (λ (l : List ℕ). (tt, (tt, (l, tt)))) (hv ∙ sym hw))

-- ---- what the edge calls too

pub fills_lay_run_one : OneAnswer 1 fills-lay-run-kinds.ps fills-lay-run-kinds.r fills-lay-run.Pre fills-lay-run.Post
fills_lay_run_one κs a p x y v w hv hw = (refl, ap (λ (l : List ℕ). (tt, (tt, (tt, (tt, (l, tt)))))) (hv ∙ sym hw))

pub mask_own_answer_one : OneAnswer 0 mask-own-answer-kinds.ps mask-own-answer-kinds.r mask-own-answer.Pre mask-own-answer.Post
mask_own_answer_one κs a p x y v w hv hw = (hv ∙ sym hw, refl)

pub mask_count_runs_one : OneAnswer 2 mask-count-runs-kinds.ps mask-count-runs-kinds.r mask-count-runs.Pre mask-count-runs.Post
mask_count_runs_one κs a p x y v w hv hw = (hv ∙ sym hw, refl)

pub mask_write_runs_one : OneAnswer 3 mask-write-runs-kinds.ps mask-write-runs-kinds.r mask-write-runs.Pre mask-write-runs.Post
mask_write_runs_one κs a p x y v w hv hw = (refl, ap (λ (l : List ℕ). (tt, (tt, (tt, (l, tt))))) (hv ∙ sym hw))

pub operand_judge_state_one : OneAnswer 0 operand-judge-state-kinds.ps operand-judge-state-kinds.r operand-judge-state.Pre operand-judge-state.Post
operand_judge_state_one κs a p x y v w hv hw = (hv ∙ sym hw, refl)

pub operand_run_fits_one : OneAnswer 0 operand-run-fits-kinds.ps operand-run-fits-kinds.r operand-run-fits.Pre operand-run-fits.Post
operand_run_fits_one κs a p x y v w hv hw = (hv ∙ sym hw, refl)

pub turns_sum_runs_one : OneAnswer 1 turns-sum-runs-kinds.ps turns-sum-runs-kinds.r turns-sum-runs.Pre turns-sum-runs.Post
turns_sum_runs_one κs a p x y v w hv hw = (hv ∙ sym hw, refl)

pub rows_refusal_of_one : OneAnswer 0 rows-refusal-of-kinds.ps rows-refusal-of-kinds.r rows-refusal-of.Pre rows-refusal-of.Post
rows_refusal_of_one κs a p x y v w hv hw = (hv ∙ sym hw, refl)

pub rows_number_one : OneAnswer 0 rows-number-kinds.ps rows-number-kinds.r rows-number.Pre rows-number.Post
rows_number_one κs a p x y v w hv hw = (hv ∙ sym hw, refl)

pub rows_operand_number_one : OneAnswer 0 rows-operand-number-kinds.ps rows-operand-number-kinds.r rows-operand-number.Pre rows-operand-number.Post
rows_operand_number_one κs a p x y v w hv hw = (hv ∙ sym hw, refl)

pub rows_row_of_one : OneAnswer 0 rows-row-of-kinds.ps rows-row-of-kinds.r rows-row-of.Pre rows-row-of.Post
rows_row_of_one κs a p x y v w hv hw = (hv ∙ sym hw, refl)

pub rows_numbers_one : OneAnswer 0 rows-numbers-kinds.ps rows-numbers-kinds.r rows-numbers.Pre rows-numbers.Post
rows_numbers_one κs a p x y v w hv hw = ((λ i. record { 0 = (hv.0 ∙ sym hw.0) i; 1 = (hv.1 ∙ sym hw.1) i }), refl)

pub operand_summary_told_one : OneAnswer 0 operand-summary-told-kinds.ps operand-summary-told-kinds.r operand-summary-told.Pre operand-summary-told.Post
operand_summary_told_one κs a p x y v w hv hw = (hv ∙ sym hw, refl)

pub routes_route_number_one : OneAnswer 0 routes-route-number-kinds.ps routes-route-number-kinds.r routes-route-number.Pre routes-route-number.Post
routes_route_number_one κs a p x y v w hv hw = (hv ∙ sym hw, refl)

-- the first row sought is one row alone
pub outside_seek_one : OneAnswer 1 outside-seek-kinds.ps outside-seek-kinds.r outside-seek.Pre outside-seek.Post
outside_seek_one κs a p x y v w hv hw = (first_same _ _ _ x y hv hw, refl)
