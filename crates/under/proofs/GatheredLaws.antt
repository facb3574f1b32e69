-- What a loop keeps that copies the rank bits of a list: those before `done` are laid, and the list is parted at the rank behind them. With a law for
-- none, a law for some more, and a law for all. By the laws of rows laid part by part.
-- Assumes nothing.
use Prim.Native.Nat.{ℕ, ◌+◌, ◌-◌, ◌^◌, ◌≤◌}
use native.Mathlib.Nat.{add-zero}
use mathlib.Core.Path.{◌≡◌, sym, ap, ap₂, ◌∙◌, subst}
use mathlib.Core.Bool.{Bool}
use mathlib.Core.List.{List, [], ◌++◌, append-nil}
use native.Mathlib.Omega.{arith}
use lib.ListN.{length}
use Rattle.rows.specs.Word.{bits_of}
use Rattle.rows.specs.Words.{Below}
use Rattle.rows.specs.Lists.{tab, member}
use Rattle.rows.specs.Laid.{laid}
use Rattle.rows.proofs.WordLaws.{bits_of_word_of_at}
use Rattle.rows.proofs.ListLaws.{tab_length}
use Rattle.rows.proofs.RunLaws.{tab_add}
use Rattle.rows.proofs.ProgressLaws.{Progress, progress_none, progress_as, progress_part}
use Rattle.books.specs.Gathers.{Parted, Gathers}

module _ (ranks : List ℕ) (rank n at : ℕ) where
  -- the bits of m ranks from rank b on
  abbrev bits : ℕ → ℕ → List Bool
  bits b m = tab b m (λ i. member i ranks)

  abbrev rest : ℕ → List Bool
  rest done = bits (rank + done) (n - done)

  pub record Copied (done next : ℕ) (out₀ out : List ℕ) : Type 0 where
    pub within : done ≤ n
    pub parted : Parted (rank + done) next ranks
    pub progress : Progress (bits rank n) at done (rest done) out₀ out

  pub copied_none : (next : ℕ) (out : List ℕ) → Parted rank next ranks → Below (2 ^ 64) out → Copied 0 next out out
  copied_none next out p small =
      let whole : bits rank n ≡ rest 0 = let z : n ≡ n - 0 = omega arith in ap₂ (λ (b m : ℕ). bits b m) (sym (add-zero rank)) z in
      record {
        within = omega arith;
        parted = subst (λ (k : ℕ). Parted k next ranks) (sym (add-zero rank)) p;
        progress = progress_as (bits rank n) (bits rank n) (rest 0) at 0 out out whole (progress_none (bits rank n) at out small);
      }

  module _ (done next : ℕ) (out₀ out : List ℕ) (c : Copied done next out₀ out) where
    -- m more, gathered as the word x, are laid at `place`; the list is then parted at `past`
    pub copied_part : (m x past end place : ℕ) (then : List ℕ) → done + m ≡ end → end ≤ n → place ≡ at + done → Gathers (rank + done) m ranks x past
        → then ≡ laid place (bits_of m x) out → Copied end past out₀ then
    copied_part m x past end place then e h p g t =
        let part = bits (rank + done) m in
        let long : length part ≡ m = tab_length (rank + done) m (λ i. member i ranks) in
        let is : bits_of m x ≡ part = ap (bits_of m) g.is ∙ bits_of_word_of_at m part long in
        let behind : rank + done + m ≡ rank + end = omega arith in
        let sum : n - done ≡ m + (n - end) = omega arith in
        let split : rest done ≡ part ++ rest end =
        ap (λ (k : ℕ). bits (rank + done) k) sum ∙ tab_add (rank + done) m (n - end) (λ i. member i ranks)
        ∙ ap (λ (k : ℕ). part ++ bits k (n - end)) behind in
        record {
          within = h;
          parted = subst (λ (k : ℕ). Parted k past ranks) behind g.parted;
          progress =
              progress_part (bits rank n) part (rest end) at done end out₀ out then (sym e ∙ ap (λ (k : ℕ). done + k) (sym long))
              (t ∙ ap₂ (λ (k : ℕ) (l : List Bool). laid k l out) p is)
              (progress_as (bits rank n) (rest done) (part ++ rest end) at done out₀ out split c.progress);
        }

    pub copied_all : n ≤ done → Parted (rank + n) next ranks × (out ≡ laid at (tab rank n (λ i. member i ranks)) out₀)
    copied_all h =
        let whole : done ≡ n = omega (arith, c.within) in
        let end : n - done ≡ 0 = omega arith in
        let none : rest done ≡ [] = ap (λ (k : ℕ). bits (rank + done) k) end in
        let p = c.progress in (
          subst (λ (k : ℕ). Parted (rank + k) next ranks) whole c.parted,
          p.lies ∙ ap (λ (l : List Bool). laid at l out₀) (sym (p.parts ∙ ap (λ (l : List Bool). p.front ++ l) none ∙ append-nil p.front)),
        )
