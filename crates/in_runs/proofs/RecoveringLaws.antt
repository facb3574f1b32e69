-- What a loop keeps that lays the ranks of the rows before a row: a law for no row, a law for some rows more, and how much room they take.
-- By both masks cut at the same row. Assumes nothing.
use Prim.Native.Nat.{ℕ, ◌+◌, ◌^◌, ◌≤◌}
use mathlib.Core.Path.{◌≡◌, refl, sym, ap, ap₂, ◌∙◌}
use mathlib.Core.Bool.{Bool}
use mathlib.Core.List.{List, ◌++◌}
use native.Mathlib.Omega.{arith}
use lib.ListN.{length, take, drop, length-take, length-drop, take-append-drop}
use lib.Seq.{drop-drop}
use Rattle.rows.specs.Rows.{count, rank_at, recover}
use Rattle.rows.specs.Words.{Below}
use Rattle.rows.specs.Laid.{laid}
use Rattle.rows.proofs.RowLaws.{count_append, count_split}
use Rattle.rows.proofs.RecoverLaws.{recover_length, recover_append}
use Rattle.rows.proofs.ProgressLaws.{Progress, progress_none, progress_part, progress_as}

module _ (s k : List Bool) (at : ℕ) where
  pub record Recovering (row rank : ℕ) (out₀ out : List ℕ) : Type 0 where
    pub ranked : rank ≡ rank_at s row
    pub progress : Progress (recover s k) at rank (recover (drop row s) (drop row k)) out₀ out

  pub recovering_none : (out : List ℕ) → Below (2 ^ 64) out → Recovering 0 0 out out
  recovering_none out small = record { ranked = refl; progress = progress_none (recover s k) at out small }

  module _ (same : length k ≡ length s) (row rank : ℕ) (out₀ out : List ℕ) (r : Recovering row rank out₀ out) where
    -- n rows more, or as many as there are
    pub recovering_chunk : (n past : ℕ) (then : List ℕ) → past ≡ rank + count (take n (drop row s))
        → then ≡ laid (at + rank) (recover (take n (drop row s)) (take n (drop row k))) out → Recovering (row + n) past out₀ then
    recovering_chunk n past then e t =
        let s₁ = take n (drop row s) in
        let k₁ = take n (drop row k) in
        let rest = recover (drop (row + n) s) (drop (row + n) k) in
        let cut : (l : List Bool) → drop row l ≡ take n (drop row l) ++ drop (row + n) l = λ l.
        sym (take-append-drop n (drop row l)) ∙ ap (λ (m : List Bool). take n (drop row l) ++ m) (drop-drop n row l) in
        let long : length k₁ ≡ length s₁ = omega (arith, length-take n (drop row k), length-take n (drop row s), length-drop row k, length-drop row s) in
        let parts : recover (drop row s) (drop row k) ≡ recover s₁ k₁ ++ rest =
        ap₂ recover (cut s) (cut k) ∙ recover_append s₁ (drop (row + n) s) k₁ (drop (row + n) k) long in
        record {
          ranked = e ∙ ap (λ (x : ℕ). x + count s₁) r.ranked ∙ sym (count_split row n s);
          progress =
              progress_part (recover s k) (recover s₁ k₁) rest at rank past out₀ out then (e ∙ ap (λ (x : ℕ). rank + x) (sym (recover_length s₁ k₁))) t
              (progress_as (recover s k) (recover (drop row s) (drop row k)) (recover s₁ k₁ ++ rest) at rank out₀ out parts r.progress);
        }

    -- what is known of the output's room
    pub recovering_room : (n : ℕ) → rank + count (take n (drop row s)) ≤ count s
    recovering_room n =
        let all : count s ≡ count (take (row + n) s) + count (drop (row + n) s) =
        ap count (sym (take-append-drop (row + n) s)) ∙ count_append (take (row + n) s) (drop (row + n) s) in
        omega (arith, all, count_split row n s, r.ranked)
