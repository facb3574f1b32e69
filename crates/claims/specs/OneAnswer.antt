-- One answer for each input: any two results, and any two contents of what is lent to be written, that a contract allows are the
-- same. `Pre` and `Post` are a function's own, from its generated `Reads`; `v` and `w` are what stands behind each `&mut` at the end.
-- Assumes nothing.
use Rattle.std.specs.Prelude.{◌≡◌, List, ℕ}
use contract.Lifetimes.{Lfts}
use borrow.Fn.Kinds.{ParamKind, ResultKind, In, Out, Dens, res_t, ended_of}
use denote.Triple.Clauses.{Lasts, at_exit}

abbrev pub OneAnswer : (n : ℕ) (ps : List (ParamKind n)) (r : ResultKind n) → In n ps → Out n ps r → Type 0
OneAnswer n ps r Pre Post =
    (κs : Lfts n) (a : Dens κs ps) → Pre κs a → (x y : (res_t r κs).Denot) (v w : Lasts (ended_of n ps r) κs a) → Post κs a x (at_exit (ended_of n ps r) κs a v)
    → Post κs a y (at_exit (ended_of n ps r) κs a w) → (x ≡ y) × (v ≡ w)
