-- The cut rule of recovery: feeds run from the fresh state are one recovery, forward and back. By recursion over the feeds: a piece's ranks more are
-- laid where those before end, and `recover` of joined pieces is the pieces' recovered, joined. Assumes nothing.
use Prim.Native.Nat.{ℕ, ◌+◌, ◌*◌, ◌≤◌}
use native.Mathlib.Nat.{zero-add, add-zero, add_assoc}
use native.Mathlib.Omega.{arith}
use mathlib.Core.Path.{◌≡◌, refl, sym, ap, ◌∙◌}
use mathlib.Core.Bool.{Bool}
use mathlib.Core.List.{List, [], ◌∷◌, ◌++◌}
use lib.ListN.{length, length-append}
use Rattle.rows.specs.Table.{Verdict}
use Rattle.std.specs.Prelude.{Ok, Err}
use Rattle.rows.specs.Rows.{count, recover, outside, splice}
use Rattle.rows.specs.Words.{bits_of_all}
use Rattle.rows.specs.Laid.{words_for, laid, written}
use Rattle.rows.specs.Table.{first}
use Rattle.rows.proofs.RowLaws.{count_append}
use Rattle.rows.proofs.RecoverLaws.{recover_length, recover_append, inside_append}
use Rattle.rows.proofs.SpliceLaws.{splice_nil}
use Rattle.rows.proofs.LaidLaws.{laid_length}
use Rattle.rules.specs.Answer.{Answer}
use Rattle.rules.specs.declared.RecoveryState.{RecoveryState}
use Rattle.rules.specs.Operand.{limit, in_words, rows_of, Accepted}
use Rattle.rules.specs.Answer.{answered, no_route}
use Rattle.rules.specs.Recover.{strays, Within, recover_checks, recovered, recovered_out}
use Rattle.rules.specs.RecoverStream.{Masks, masks_of, long, set, ranks, state_of, fresh, moved, judged, fed_by, out_by, Run, after, run}
use Rattle.rules.specs.Demand3.{joined, AllAccepted, taken, summed}
use Rattle.rules.specs.RecoverCut.{once, once_out, Pieces, Whole, Forward, Converse, ConverseInWords}
use Rattle.rules.proofs.OperandLaws.{accepted_length, accepted_count, accepted_limit, in_words_rows, in_words_accepted}
use Rattle.rules.proofs.StreamLaws.{laid_then, laid_within, laid_past}
use Rattle.rules.proofs.Recoveries.{lengths_same, recover_fine, recovered_accepts}
use Rattle.rules.proofs.RecoverFeeds.{Bounded, Accepts, self_length, self_count, ranks_length, moved_bounded, feed_fine}
use Rattle.rows.specs.Table.{number_told}
use Rattle.rules.specs.Answer.{summary_told}

abbrev selves : List Masks → List Bool
selves ms = joined (λ m. m.self) ms

abbrev kepts : List Masks → List Bool
kepts ms = joined (λ m. m.kept) ms

-- ---- a run from any state: what the accepted feeds did to it, s and k their rows joined

record Ran (st : RecoveryState) (out : List ℕ) (t : Run) (s k : List Bool) : Type 0 where
  matched : length k ≡ length s
  inside : count (outside s k) ≡ 0
  bits : bits_of_all 64 t.out ≡ splice st.ranks.0 (bits_of_all 64 out) (recover s k)
  counts : summed t.answers ≡ count (recover s k)
  state : t.state ≡ state_of (st.done.0 + length s) (st.ranks.0 + count s) (st.kept + count (recover s k))
  limited : st.done.0 ≤ limit → st.done.0 + length s ≤ limit
  room : st.ranks.0 ≤ length out * 64 → st.ranks.0 + count s ≤ length out * 64

abbrev Goes : List Masks → RecoveryState → List ℕ → Run → Type 0
Goes ms st out t = Ran st out t (selves (taken ms t.answers)) (kepts (taken ms t.answers))

step : (st : RecoveryState) (m : Masks) (out : List ℕ) (ms : List Masks) (v : Verdict) → judged st m (length out) ≡ v
    → ((st : RecoveryState) (out : List ℕ) → Goes ms st out (run st out ms))
    → Goes (m ∷ ms) st out (after (fed_by v st m).answer (run (fed_by v st m).state (out_by v st m out) ms))
step st m out ms (Ok u) e ih =
    let a = (feed_fine st m (length out)).0 e in
    let w = a.within in
    let st' = moved st m in
    let out' = laid st.ranks.0 (ranks m) out in
    let t = run st' out' ms in
    let s = rows_of m.self in
    let k = rows_of m.kept in
    let S = selves (taken ms t.answers) in
    let K = kepts (taken ms t.answers) in
    let q : Ran st' out' t S K = ih st' out' in
    let same : length k ≡ length s = lengths_same m.self m.kept w in
    let join : recover (s ++ S) (k ++ K) ≡ ranks m ++ recover S K = recover_append s S k K same in
    let more : length (s ++ S) ≡ length s + length S = length-append s S in
    let sets : count (s ++ S) ≡ count s + count S = count_append s S in
    let size : length out' ≡ length out = laid_length 64 st.ranks.0 (ranks m) out in
    record {
      matched = omega (arith, length-append k K, more, same, q.matched);
      inside = inside_append s S k K same ∙ omega (arith, w.inside, q.inside);
      bits =
          laid_then st.ranks.0 (count s) (ranks m) (recover S K) out t.out (recover_length s k) q.bits
          ∙ ap (splice st.ranks.0 (bits_of_all 64 out)) (sym join);
      counts = rw (join, count_append (ranks m) (recover S K)) (ap (λ (n : ℕ). count (ranks m) + n) q.counts);
      state = q.state ∙ rw (join, count_append (ranks m) (recover S K), more, sets) (simp add_assoc);
      limited = λ h. omega (arith, more, self_length m w, q.limited (omega (arith, self_length m w, a.limited)));
      room = λ h. (let g : st.ranks.0 + count s ≤ length out' * 64 = omega (arith, size, self_count m w, a.space) in omega (arith, size, sets, q.room g));
    }
step st m out ms (Err x) e ih =
    let q = ih st out in
    record {
      matched = q.matched;
      inside = q.inside;
      bits = q.bits;
      counts = zero-add _ ∙ q.counts;
      state = q.state;
      limited = q.limited;
      room = q.room;
    }

ran : (ms : List Masks) (st : RecoveryState) (out : List ℕ) → Goes ms st out (run st out ms)
ran [] st out =
    record {
      matched = refl;
      inside = refl;
      bits = sym (splice_nil st.ranks.0 (bits_of_all 64 out));
      counts = refl;
      state = simp add-zero;
      limited = λ h. omega arith;
      room = λ h. omega arith;
    }
ran (m ∷ ms) st out = step st m out ms (judged st m (length out)) refl (ran ms)

-- ---- from the fresh state

-- the whole, where it is accepted
answers : (w : Masks) (out : List ℕ) → first (recover_checks w.self w.kept (length out)) ≡ Ok tt
    → (once w out ≡ answered (Ok tt) (ranks w) no_route) × (once_out w out ≡ written (set w) (ranks w) out)
unfolding recovered recovered_out
answers w out f = rw f (refl, refl)

whole : (w : Masks) (out : List ℕ) (t : Run) → Accepted w.self → Accepted w.kept → Ran fresh out t (rows_of w.self) (rows_of w.kept) → Whole w out t
whole w out t ws wk q =
    let ls : length (rows_of w.self) ≡ long w = accepted_length w.self ws in
    let cs : count (rows_of w.self) ≡ set w = accepted_count w.self ws in
    let lk = accepted_length w.kept wk in
    let fits : set w ≤ length out * 64 = omega (arith, zero-add (count (rows_of w.self)), cs, q.room (omega arith)) in
    let m : Within w.self w.kept = record { self = ws; kept = wk; lengths = sym lk ∙ q.matched ∙ ls; inside = q.inside } in
    let d = answers w out ((recover_fine w.self w.kept (length out)).1 (m, omega (arith, fits))) in
    let n : (summary_told (once w out)).count ≡ count (ranks w) = ap (λ (a : Answer). (summary_told a).count) d.0 in
    let lr : length (ranks w) ≡ set w = ranks_length w m in
    record {
      accepted = ap (λ (a : Answer). (number_told a)) d.0;
      ranks = rw d.1 (laid_within (set w) (ranks w) out t.out lr fits q.bits);
      others = laid_past (set w) (ranks w) out t.out lr fits q.bits;
      counts = q.counts ∙ sym n;
      state = q.state ∙ rw (n, ls) (simp zero-add);
    }

-- any feeds, run: the accepted ones are one recovery, of any well formed operands whose rows are theirs joined
pub converse : Converse
converse w out ms ws wk j = whole w out (run fresh out ms) ws wk (rw (j.selves, j.kepts) (ran ms fresh out))

-- in words
pub converse_in_words : ConverseInWords
converse_in_words out ms =
    let qs = taken ms (run fresh out ms).answers in
    let S = joined (λ (m : Masks). m.self) qs in
    let K = joined (λ (m : Masks). m.kept) qs in
    let q : Ran fresh out (run fresh out ms) S K = ran ms fresh out in
    let short : length S ≤ limit = omega (arith, zero-add (length S), q.limited (omega arith)) in
    converse (masks_of (in_words S) (in_words K)) out ms (in_words_accepted S short) (in_words_accepted K (omega (arith, q.matched, short)))
    (record { selves = in_words_rows S; kepts = in_words_rows K })

-- ---- pieces that fit are accepted, each

all_taken : (ms : List Masks) (st : RecoveryState) (out : List ℕ) → Bounded st → Pieces ms → count (outside (selves ms) (kepts ms)) ≡ 0
    → st.done.0 + length (selves ms) ≤ limit → words_for (st.ranks.0 + count (selves ms)) ≤ length out
    → AllAccepted (run st out ms).answers × (taken ms (run st out ms).answers ≡ ms)
all_taken [] st out b f i l w = (tt, refl)
all_taken (m ∷ ms) st out b f i l w =
    let s = rows_of m.self in
    let k = rows_of m.kept in
    let ls : length s ≡ long m = accepted_length m.self f.0 in
    let cs : count s ≡ set m = accepted_count m.self f.0 in
    let same : length k ≡ length s = accepted_length m.kept f.1 ∙ f.2 ∙ sym ls in
    let parts : count (strays m.self m.kept) + count (outside (selves ms) (kepts ms)) ≡ 0 = sym (inside_append s (selves ms) k (kepts ms) same) ∙ i in
    let more : length (s ++ selves ms) ≡ length s + length (selves ms) = length-append s (selves ms) in
    let sets : count (s ++ selves ms) ≡ count s + count (selves ms) = count_append s (selves ms) in
    let out' = laid st.ranks.0 (ranks m) out in
    let size : length out' ≡ length out = laid_length 64 st.ranks.0 (ranks m) out in
    let within : Within m.self m.kept = record { self = f.0; kept = f.1; lengths = f.2; inside = omega (arith, parts) } in
    let now : Accepts st m (length out) = record { bounded = b; within = within; limited = omega (arith, more, ls, l); space = omega (arith, sets, cs, w) } in
    let next = moved_bounded st m (length out) now in
    let ih = all_taken ms (moved st m) out' next f.3 (omega (arith, parts)) (omega (arith, more, l)) (omega (arith, sets, size, w)) in
    rw ((feed_fine st m (length out)).1 now) ((refl, ih.0), ap (λ (l : List Masks). m ∷ l) ih.1)

-- two masks that recovery accepts, cut into pieces that match: every feed is accepted, and the run is the whole
pub forward : Forward
forward w out ms ok f j =
    let a = (recovered_accepts w.self w.kept out).0 ok in
    let t = a.0 in
    let S = selves ms in
    let ls : length S ≡ long w = ap length (sym j.selves) ∙ accepted_length w.self t.self in
    let cs : count S ≡ set w = ap count (sym j.selves) ∙ accepted_count w.self t.self in
    let inside : count (outside S (kepts ms)) ≡ 0 = rw (← j.selves, ← j.kepts) t.inside in
    let limited : 0 + length S ≤ limit = omega (arith, ls, zero-add (length S), accepted_limit w.self t.self) in
    let space : words_for (0 + count S) ≤ length out = omega (arith, cs, zero-add (count S), a.1) in
    let all = all_taken ms fresh out (omega arith, omega arith, omega arith) f inside limited space in
    (all.0, converse w out ms t.self t.kept (record { selves = rw all.1 j.selves; kepts = rw all.1 j.kepts }))
