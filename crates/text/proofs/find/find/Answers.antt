-- `text::find::find` meets its contract: each return is a way to be malformed, and the last the one way not to be.
-- By the laws of the two lines against the bytes. Assumes nothing.
use Prim.Native.Nat.{◌+◌}
use mathlib.Core.Path.{◌≡◌, sym, ◌∙◌}
use mathlib.Core.List.{◌∷◌}
use native.Mathlib.Omega.{arith}
use lib.ListN.{length, drop, length-drop}
use Rattle.lines.specs.Text.{self_key, rank_key, self_in, rank_in}
use Rattle.lines.proofs.FindLaws.{rows_within}
use Rattle.lines.proofs.SaidLaws.{begins_length, rank_counted, no_first_key, self_long, no_second_key, rank_long, no_newline, other_length, both_found}
use Rattle.text.proofs.find.find.Goals as goal

pub returns-then-not-has_key : goal.returns-then-not-has_key
returns-then-not-has_key c = sym (no_first_key c.args.input.now (sym c.has_key.ensures ∙ c.if-not-has_key.true))

pub returns-then-s-gt8192 : goal.returns-then-s-gt8192
returns-then-s-gt8192 c = sym (self_long c.args.input.now c.count_digits-s.result c.count_digits-s.ensures c.if-s-gt8192.true)

pub has_key-requires-2 : goal.has_key-requires-2
has_key-requires-2 c =
    let input = c.args.input.now in
    let n = c.count_digits-s.result in
    let p : n ≡ length (self_in input) = c.count_digits-s.ensures in
    omega (arith, p, rows_within (drop 5 input), length-drop 5 input, begins_length self_key input (sym c.has_key.ensures ∙ c.if-not-has_key.false))

pub returns-then-not-has_key-2 : goal.returns-then-not-has_key-2
returns-then-not-has_key-2 c =
    sym (no_second_key c.args.input.now c.count_digits-s.result c.count_digits-s.ensures (sym c.has_key-2.ensures ∙ c.if-not-has_key-2.true))

pub count_digits-r-requires : goal.count_digits-r-requires
count_digits-r-requires c =
    let input = c.args.input.now in
    let n = c.count_digits-s.result in
    omega (arith, length-drop (5 + n) input, begins_length (10 ∷ rank_key) (drop (5 + n) input) (sym c.has_key-2.ensures ∙ c.if-not-has_key-2.false))

pub returns-then-r-gt8192 : goal.returns-then-r-gt8192
returns-then-r-gt8192 c =
    let input = c.args.input.now in
    let n = c.count_digits-s.result in
    let p : n ≡ length (self_in input) = c.count_digits-s.ensures in
    let m = c.count_digits-r.result in
    sym (rank_long input n p m (rank_counted input n m p c.count_digits-r.ensures) c.if-r-gt8192.true)

pub has_key-requires-3 : goal.has_key-requires-3
has_key-requires-3 c =
    let input = c.args.input.now in
    let n = c.count_digits-s.result in
    omega (
      arith,
      c.count_digits-r.ensures,
      rows_within (drop (11 + n) input),
      length-drop (11 + n) input,
      length-drop (5 + n) input,
      begins_length (10 ∷ rank_key) (drop (5 + n) input) (sym c.has_key-2.ensures ∙ c.if-not-has_key-2.false),
    )

pub returns-then-not-has_key-3 : goal.returns-then-not-has_key-3
returns-then-not-has_key-3 c =
    let input = c.args.input.now in
    let n = c.count_digits-s.result in
    let p : n ≡ length (self_in input) = c.count_digits-s.ensures in
    let m = c.count_digits-r.result in
    sym (no_newline input n p m (rank_counted input n m p c.count_digits-r.ensures) (sym c.has_key-3.ensures ∙ c.if-not-has_key-3.true))

pub returns-then-input-s : goal.returns-then-input-s
returns-then-input-s c =
    let input = c.args.input.now in
    let n = c.count_digits-s.result in
    let p : n ≡ length (self_in input) = c.count_digits-s.ensures in
    let m = c.count_digits-r.result in
    sym (other_length input n p m (rank_counted input n m p c.count_digits-r.ensures) c.if-input-s.true)

pub returns : goal.returns
returns c =
    let input = c.args.input.now in
    let n = c.count_digits-s.result in
    let p : n ≡ length (self_in input) = c.count_digits-s.ensures in
    let m = c.count_digits-r.result in
    let q : m ≡ length (rank_in input) = rank_counted input n m p c.count_digits-r.ensures in
    sym (both_found input n p m q (sym c.has_key.ensures ∙ c.if-not-has_key.false) (sym c.has_key-2.ensures ∙ c.if-not-has_key-2.false)
    (sym c.has_key-3.ensures ∙ c.if-not-has_key-3.false) c.if-input-s.false c.if-s-gt8192.false c.if-r-gt8192.false)
