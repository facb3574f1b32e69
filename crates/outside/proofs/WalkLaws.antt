-- A walk over an operand's rows, form by form: where it begins, its next set row, and how far from a row on it has all. From the laws of spans and of
-- lists of rows that are all the same.
-- Assumes nothing.
use Prim.Native.Nat.{ℕ, ◌≤◌, ◌<◌}
use native.Mathlib.Nat.{zero-add}
use native.Mathlib.Omega.{arith}
use mathlib.Core.Path.{◌≡◌, sym, ap, ◌∙◌}
use mathlib.Core.List.{List}
use Rattle.rows.specs.Lists.{member, listed}
use Rattle.rows.specs.Runs.{held, in_runs}
use Rattle.rows.proofs.ListLaws.{tab_at}
use Rattle.rules.specs.declared.Form.{Form}
use Rattle.rules.specs.declared.Form.TheVariants.{All, None, Words, List as Listed, Runs}
use Rattle.rules.specs.Operand.{lent, rows_of, length_of, Accepted}
use Rattle.rules.proofs.OperandLaws.{words_reach, ascending, apart}
use Rattle.outside.specs.First.{has, First, Reach}
use Rattle.outside.specs.Spans.{doubled, Come}
use Rattle.outside.specs.Walks.{Walks}
use Rattle.outside.proofs.FirstLaws.{first_as, reach_as}
use Rattle.outside.proofs.SpanLaws.{apart_rising, ascending_rising, doubled_held, come_start, come_later}

-- ---- what numbers say of a row

listed_has : (len : ℕ) (es : List ℕ) (i : ℕ) → i < len → has (listed len es) i ≡ held i (doubled es)
listed_has len es i h = tab_at 0 len (λ k. member k es) i h ∙ ap (λ (k : ℕ). member k es) (zero-add i) ∙ sym (doubled_held i es)

runs_has : (len : ℕ) (ns : List ℕ) (i : ℕ) → i < len → has (in_runs len ns) i ≡ held i ns
runs_has len ns i h = tab_at 0 len (λ k. held k ns) i h ∙ ap (λ (k : ℕ). held k ns) (zero-add i)

-- ---- it begins at row 0

pub accepted_walks : (f : Form) (ws es : List ℕ) → Accepted (lent f ws es) → Walks f ws es 0 0
accepted_walks (All n) ws es m = tt
accepted_walks (None n) ws es m = tt
accepted_walks (Words start len claimed) ws es m =
    (m.0, m.1.0, omega (arith, words_reach start len claimed (lent (Words start len claimed) ws es) m))
accepted_walks (Listed len) ws es m = come_start (doubled es) len (ascending_rising 0 len es (ascending len es m.1.0 m.1.1.0))
accepted_walks (Runs len) ws es m = come_start es len (apart_rising 0 0 len es (omega arith) (apart 0 len es m.1.0))

pub walks_later : (f : Form) (ws es : List ℕ) (i b c : ℕ) → b ≤ c → Walks f ws es i b → Walks f ws es i c
walks_later (All n) ws es i b c h w = tt
walks_later (None n) ws es i b c h w = tt
walks_later (Words start len claimed) ws es i b c h w = w
walks_later (Listed len) ws es i b c h w = come_later (doubled es) len i b c h w
walks_later (Runs len) ws es i b c h w = come_later es len i b c h w

-- ---- its next set row r from row b on

abbrev pub NextSet : Form → List ℕ → List ℕ → ℕ → ℕ → ℕ → Type 0
NextSet f ws es b i r = Walks f ws es i r × First (has (rows_of (lent f ws es))) b (length_of f) r

module _ (ws es : List ℕ) (b i : ℕ) where
  pub set_listed : (len r : ℕ) → Come (doubled es) len i r → First (λ k. held k (doubled es)) b len r → NextSet (Listed len) ws es b i r
  set_listed len r w f = (w, first_as (λ k. held k (doubled es)) (has (listed len es)) b len r (listed_has len es) f)

  pub set_runs : (len r : ℕ) → Come es len i r → First (λ k. held k es) b len r → NextSet (Runs len) ws es b i r
  set_runs len r w f = (w, first_as (λ k. held k es) (has (in_runs len es)) b len r (runs_has len es) f)

-- ---- it has all rows from row b to before r

abbrev pub Reaches : Form → List ℕ → List ℕ → ℕ → ℕ → ℕ → Type 0
Reaches f ws es b i r = Walks f ws es i r × Reach (has (rows_of (lent f ws es))) b (length_of f) r

module _ (ws es : List ℕ) (b i : ℕ) where
  pub reach_listed : (len r : ℕ) → b < len → Come (doubled es) len i r → Reach (λ k. held k (doubled es)) b len r
      → Reaches (Listed len) ws es b i r
  reach_listed len r h w f = (w, reach_as (λ k. held k (doubled es)) (has (listed len es)) b len r h (listed_has len es) f)

  pub reach_runs : (len r : ℕ) → b < len → Come es len i r → Reach (λ k. held k es) b len r
      → Reaches (Runs len) ws es b i r
  reach_runs len r h w f = (w, reach_as (λ k. held k es) (has (in_runs len es)) b len r h (runs_has len es) f)
