-- Demand 3: feeds run from the fresh state are one composition, forward and back. By recursion over the feeds: a piece more is laid
-- where the ones before end, and `compose` of joined pieces is the pieces' composed, joined. Assumes nothing.
use Prim.Native.Nat.{ℕ, ◌+◌, ◌*◌, ◌≤◌}
use native.Mathlib.Nat.{zero-add, add-zero, add_assoc}
use native.Mathlib.Omega.{arith}
use mathlib.Core.Path.{◌≡◌, refl, sym, ap, subst, ◌∙◌}
use mathlib.Core.Bool.{Bool}
use mathlib.Core.List.{List, [], ◌∷◌, ◌++◌}
use lib.ListN.{length, length-append}
use Rattle.rows.specs.Table.{Verdict}
use Rattle.std.specs.Prelude.{Ok, Err}
use Rattle.rows.specs.Rows.{count, compose, splice}
use Rattle.rows.specs.Words.{bits_of_all}
use Rattle.rows.specs.Laid.{words_for, laid, written}
use Rattle.rows.specs.Table.{first}
use Rattle.rows.proofs.RowLaws.{compose_length, compose_append, count_append, count_le_length}
use Rattle.rows.proofs.SpliceLaws.{splice_nil}
use Rattle.rows.proofs.LaidLaws.{laid_length}
use Rattle.rules.specs.Answer.{Answer}
use Rattle.rules.specs.declared.State.{State}
use Rattle.rules.specs.Operand.{limit, in_words, rows_of, length_of, Accepted}
use Rattle.rules.specs.Answer.{answered}
use Rattle.rules.specs.Route.{published}
use Rattle.rules.specs.Compose.{Paired, compose_checks, routed, composed, composed_out}
use Rattle.rules.specs.Stream.{Pair, pair_of, long, kept, state_of, fresh, moved, judged, fed_by, out_by, Run, after, run}
use Rattle.rules.specs.Demand3.{once, once_out, Pieces, joined, AllAccepted, taken, summed, Whole, Forward, Converse, ConverseInWords}
use Rattle.rules.proofs.OperandLaws.{accepted_length, accepted_count, in_words_rows, in_words_accepted}
use Rattle.rules.proofs.Compositions.{compose_fine, composed_accepts}
use Rattle.rules.proofs.Feeds.{feed_fine, feed_takes}
use Rattle.rules.proofs.StreamLaws.{laid_then, laid_within, laid_past, Within, Accepts, self_length, self_limit, rank_length, kept_length, moved_within}
use Rattle.rows.specs.Table.{number_told}
use Rattle.rules.specs.Answer.{summary_told}

abbrev selves : List Pair → List Bool
selves ps = joined (λ p. p.self) ps

abbrev ranks : List Pair → List Bool
ranks ps = joined (λ p. p.rank) ps

-- ---- a run from any state: what the accepted feeds did to it, s and r their rows joined

record Ran (st : State) (out : List ℕ) (t : Run) (s r : List Bool) : Type 0 where
  matched : length r ≡ count s
  bits : bits_of_all 64 t.out ≡ splice st.done.0 (bits_of_all 64 out) (compose s r)
  counts : summed t.answers ≡ count (compose s r)
  state : t.state ≡ state_of (st.done.0 + length s) (st.ranks.0 + count s) (st.kept + count (compose s r))
  limited : st.done.0 ≤ limit → st.done.0 + length s ≤ limit
  room : st.done.0 ≤ length out * 64 → st.done.0 + length s ≤ length out * 64

abbrev Goes : List Pair → State → List ℕ → Run → Type 0
Goes ps st out t = Ran st out t (selves (taken ps t.answers)) (ranks (taken ps t.answers))

step : (st : State) (p : Pair) (out : List ℕ) (ps : List Pair) (v : Verdict) → judged st p (length out) ≡ v
    → ((st : State) (out : List ℕ) → Goes ps st out (run st out ps))
    → Goes (p ∷ ps) st out (after (fed_by v st p).answer (run (fed_by v st p).state (out_by v st p out) ps))
step st p out ps (Ok u) e ih =
    let a = feed_takes st p (length out) e in
    let st' = moved st p in
    let out' = laid st.done.0 (kept p) out in
    let t = run st' out' ps in
    let S = selves (taken ps t.answers) in
    let R = ranks (taken ps t.answers) in
    let q : Ran st' out' t S R = ih st' out' in
    let join : compose (rows_of p.self ++ S) (rows_of p.rank ++ R) ≡ kept p ++ compose S R = compose_append (rows_of p.self) S (rows_of p.rank) R (rank_length p a.matched) in
    let more : length (rows_of p.self ++ S) ≡ length (rows_of p.self) + length S = length-append (rows_of p.self) S in
    let set : count (rows_of p.self ++ S) ≡ count (rows_of p.self) + count S = count_append (rows_of p.self) S in
    let size : length out' ≡ length out = laid_length 64 st.done.0 (kept p) out in
    let self = self_length p a.matched in
    record {
      matched = omega (arith, length-append (rows_of p.rank) R, set, rank_length p a.matched, q.matched);
      bits =
          laid_then st.done.0 (length (rows_of p.self)) (kept p) (compose S R) out t.out (compose_length (rows_of p.self) (rows_of p.rank)) q.bits
          ∙ ap (splice st.done.0 (bits_of_all 64 out)) (sym join);
      counts = rw (join, count_append (kept p) (compose S R)) (ap (λ (n : ℕ). count (kept p) + n) q.counts);
      state = q.state ∙ rw (join, count_append (kept p) (compose S R), more, set) (simp add_assoc);
      limited = λ h. omega (arith, more, self, q.limited (omega (arith, self, a.limited)));
      room = λ h. (let g : st.done.0 + length (rows_of p.self) ≤ length out' * 64 = omega (arith, self, a.space) in omega (arith, more, q.room g));
    }
step st p out ps (Err x) e ih =
    let q = ih st out in
    record { matched = q.matched; bits = q.bits; counts = zero-add _ ∙ q.counts; state = q.state; limited = q.limited; room = q.room }

ran : (ps : List Pair) (st : State) (out : List ℕ) → Goes ps st out (run st out ps)
ran [] st out =
    record {
      matched = refl;
      bits = sym (splice_nil st.done.0 (bits_of_all 64 out));
      counts = refl;
      state = simp add-zero;
      limited = λ h. omega arith;
      room = λ h. omega arith;
    }
ran (p ∷ ps) st out = step st p out ps (judged st p (length out)) refl (ran ps)

-- ---- from the fresh state

-- the whole, where it is accepted
answers : (w : Pair) (out : List ℕ) → first (compose_checks w.self w.rank (length out)) ≡ Ok tt
    → (once w out ≡ answered (Ok tt) (kept w) (routed published w.self w.rank)) × (once_out w out ≡ written (long w) (kept w) out)
unfolding composed composed_out
answers w out f = rw f (refl, refl)

whole : (w : Pair) (out : List ℕ) (t : Run) → Accepted w.self → Accepted w.rank → Ran fresh out t (rows_of w.self) (rows_of w.rank) → Whole w out t
whole w out t ws wr q =
    let ls : length (rows_of w.self) ≡ long w = accepted_length w.self ws in
    let cs = accepted_count w.self ws in
    let lr = accepted_length w.rank wr in
    let fits : long w ≤ length out * 64 = omega (arith, zero-add (length (rows_of w.self)), ls, q.room (omega arith)) in
    let m : Paired w.self w.rank = record { self = ws; rank = wr; ranks = sym lr ∙ q.matched ∙ cs } in
    let f = (compose_fine w.self w.rank (length out)).1 (m, omega (arith, fits)) in
    let d = answers w out f in
    let n : (summary_told (once w out)).count ≡ count (kept w) = ap (λ (a : Answer). (summary_told a).count) d.0 in
    let lk : length (kept w) ≡ long w = kept_length w m in
    record {
      accepted = ap (λ (a : Answer). (number_told a)) d.0;
      rows = rw d.1 (laid_within (long w) (kept w) out t.out lk fits q.bits);
      others = laid_past (long w) (kept w) out t.out lk fits q.bits;
      counts = q.counts ∙ sym n;
      state = q.state ∙ rw (n, ls) (simp zero-add);
    }

-- any feeds, run: the accepted ones are one composition, of any well formed operands whose rows are theirs joined
pub converse : Converse
converse w out ps ws wr j = whole w out (run fresh out ps) ws wr (rw (j.selves, j.ranks) (ran ps fresh out))

-- in words
pub converse_in_words : ConverseInWords
converse_in_words out ps =
    let qs = taken ps (run fresh out ps).answers in
    let S = joined (λ (p : Pair). p.self) qs in
    let R = joined (λ (p : Pair). p.rank) qs in
    let q : Ran fresh out (run fresh out ps) S R = ran ps fresh out in
    let short : length S ≤ limit = omega (arith, zero-add (length S), q.limited (omega arith)) in
    converse (pair_of (in_words S) (in_words R)) out ps (in_words_accepted S short) (in_words_accepted R (omega (arith, q.matched, count_le_length S)))
    (record { selves = in_words_rows S; ranks = in_words_rows R })

-- ---- pieces that fit are accepted, each

now_fine : (st : State) (p : Pair) (room : ℕ) → Within st → Accepted p.self → Accepted p.rank → length_of p.rank.form ≡ count (rows_of p.self)
    → st.done.0 + length (rows_of p.self) ≤ limit → words_for (st.done.0 + length (rows_of p.self)) ≤ room → Accepts st p room
now_fine st p room h a b c d e =
    let m : Paired p.self p.rank = record { self = a; rank = b; ranks = c ∙ accepted_count p.self a } in
    let self = self_length p m in
    record { within = h; matched = m; limited = omega (arith, self, d); space = subst (λ (n : ℕ). words_for (st.done.0 + n) ≤ room) self e }

all_taken : (ps : List Pair) (st : State) (out : List ℕ) → Within st → Pieces ps → st.done.0 + length (selves ps) ≤ limit → words_for (st.done.0 + length (selves ps)) ≤ length out
    → AllAccepted (run st out ps).answers × (taken ps (run st out ps).answers ≡ ps)
all_taken [] st out h f l w = (tt, refl)
all_taken (p ∷ ps) st out h f l w =
    let more : length (rows_of p.self ++ selves ps) ≡ length (rows_of p.self) + length (selves ps) = length-append (rows_of p.self) (selves ps) in
    let size : length (laid st.done.0 (kept p) out) ≡ length out = laid_length 64 st.done.0 (kept p) out in
    let a = now_fine st p (length out) h f.0 f.1 f.2 (omega (arith, more, l)) (omega (arith, more, w)) in
    let ih = all_taken ps (moved st p) (laid st.done.0 (kept p) out) (moved_within st p (length out) a) f.3 (omega (arith, more, l)) (omega (arith, more, size, w)) in
    rw ((feed_fine st p (length out)).1 a) ((refl, ih.0), ap (λ (l : List Pair). p ∷ l) ih.1)

-- a pair that demand 2 accepts, cut into pieces that match: every feed is accepted, and the run is the whole
pub forward : Forward
forward w out ps ok f j =
    let a = (composed_accepts w.self w.rank published out).0 ok in
    let ls = self_length w a.0 in
    let same : length (selves ps) ≡ long w = ap length (sym j.selves) ∙ ls in
    let all = all_taken ps fresh out (omega arith, omega arith, omega arith) f (omega (arith, same, zero-add (length (selves ps)), self_limit w a.0)) (omega (arith, same, zero-add (length (selves ps)), a.1)) in
    (all.0, converse w out ps a.0.self a.0.rank (record { selves = rw all.1 j.selves; ranks = rw all.1 j.ranks }))
