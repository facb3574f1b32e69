-- The operand examples that document 01 settles, the runs of masks, and densities as concrete values, one statement over one list, by
-- computation on the definitions that the contracts cite. scripts/densities.py makes the quotients anew, of whole numbers alone.
-- Assumes nothing.
use Prim.Native.Nat.{ℕ, ◌-◌, ◌^◌}
use mathlib.Core.Path.{◌≡◌, refl}
use mathlib.Core.List.{List, [], ◌∷◌}
use native.Mathlib.Decide.{ℕ_discrete, dec_le}
use mathlib.Core.Bool.{Bool, true, false}
use lib.IntN.{ℤ, pos, negsuc}
use lib.Ieee.{fin, round}
use Rattle.rows.specs.declared.Reason.{Reason}
use Rattle.rows.specs.declared.Refusal.{Refusal}
use Rattle.rows.specs.Word.{bits_of}
use Rattle.rows.specs.Runs.{runs_of}
use Rattle.rows.specs.Table.{first, refusal, number_of, numbered}
use Rattle.rules.specs.declared.Form.TheVariants.{All, None, Words, List as Listed, Runs}
use Rattle.rules.specs.Operand.{Operand, lent, operand_checks}
use Rattle.rules.specs.Answer.{density_of}
use Rattle.rows.specs.declared.Reason.TheVariants.{LengthOverLimit, StartOver63, TooFewWords, CountDiffers, NotAscending, EntryPastLength, RunsUnfit}
use Rattle.rows.specs.Table.{Verdict, operand_1}
use Rattle.std.specs.Prelude.{Ok, Err}

-- what is told of it as operand 1
abbrev pub verdict_of : Operand → Verdict
verdict_of o = first (operand_checks operand_1 o)

-- the refusal of operand 1 that has this number
abbrev pub of_1 : (n : ℕ) (why : Reason) → number_of why ≡ n → Refusal
of_1 n why fits = refusal (numbered n why fits) operand_1

-- an operand that is accepted, or one with its refusal; or rows and their runs; or a count, a length, and the density m * 2 ^ e
pub data Case : Type 0 where
  accepts : (o : Operand) → Case
  refuses : (o : Operand) (x : Refusal) → Case
  runs : (rows : List Bool) (ns : List ℕ) → Case
  quotient : (n len m : ℕ) (e : ℤ) → Case

abbrev pub Holds : Case → Type 0
Holds (accepts o) = verdict_of o ≡ Ok tt
Holds (refuses o x) = verdict_of o ≡ Err x
Holds (runs rows ns) = runs_of rows ≡ ns
Holds (quotient n len m e) = density_of n len ≡ fin false m e

abbrev pub Every : List Case → Type 0
Every [] = Unit {0}
Every (c ∷ cs) = Holds c × Every cs

abbrev pub cases : List Case
cases =
    refuses (lent (Listed 10) [] (3 ∷ 9 ∷ 9 ∷ [])) (of_1 5 NotAscending refl)
    ∷ refuses (lent (Listed 10) [] (3 ∷ 10 ∷ [])) (of_1 6 EntryPastLength refl)
    ∷ accepts (lent (Listed 10) [] [])
    ∷ refuses (lent (Listed 10) [] (11 ∷ 3 ∷ [])) (of_1 5 NotAscending refl)
    ∷ refuses (lent (Listed 0) [] (0 ∷ [])) (of_1 6 EntryPastLength refl)
    ∷ accepts (lent (All 1048576) [] [])
    ∷ refuses (lent (All 1048577) [] []) (of_1 1 LengthOverLimit refl)
    ∷ refuses (lent (None (2 ^ 64 - 1)) [] []) (of_1 1 LengthOverLimit refl)
    ∷ accepts (lent (Words 0 0 0) [] [])
    ∷ refuses (lent (Words 1 0 0) [] []) (of_1 3 TooFewWords refl)
    ∷ accepts (lent (Words 1 0 0) (7 ∷ []) [])
    ∷ refuses (lent (Words 64 1048577 9) [] []) (of_1 1 LengthOverLimit refl)
    ∷ refuses (lent (Words 64 1 9) [] []) (of_1 2 StartOver63 refl)
    ∷ accepts (lent (Words 60 6 2) ((2 ^ 63) ∷ 1 ∷ []) [])
    ∷ refuses (lent (Words 60 6 3) ((2 ^ 63) ∷ 1 ∷ []) []) (of_1 4 CountDiffers refl)
    ∷ accepts (lent (Runs 10) [] [])
    ∷ accepts (lent (Runs 10) [] (0 ∷ 3 ∷ 4 ∷ 10 ∷ []))
    ∷ refuses (lent (Runs 10) [] (0 ∷ 3 ∷ 3 ∷ 5 ∷ [])) (of_1 14 RunsUnfit refl)
    ∷ refuses (lent (Runs 10) [] (4 ∷ 4 ∷ [])) (of_1 14 RunsUnfit refl)
    ∷ refuses (lent (Runs 10) [] (4 ∷ 11 ∷ [])) (of_1 14 RunsUnfit refl)
    ∷ refuses (lent (Runs 10) [] (4 ∷ 6 ∷ 8 ∷ [])) (of_1 14 RunsUnfit refl)
    ∷ refuses (lent (Runs 0) [] (0 ∷ 0 ∷ [])) (of_1 14 RunsUnfit refl)
    ∷ refuses (lent (Runs 10) [] (6 ∷ 8 ∷ 2 ∷ 4 ∷ [])) (of_1 14 RunsUnfit refl)
    ∷ refuses (lent (Runs 10) [] (4294967295 ∷ 0 ∷ [])) (of_1 14 RunsUnfit refl)
    ∷ refuses (lent (Runs 1048577) [] (4 ∷ 4 ∷ [])) (of_1 1 LengthOverLimit refl)
    ∷ runs [] []
    ∷ runs (false ∷ false ∷ false ∷ []) []
    ∷ runs (true ∷ true ∷ true ∷ []) (0 ∷ 3 ∷ [])
    ∷ runs (false ∷ true ∷ true ∷ false ∷ true ∷ []) (1 ∷ 3 ∷ 4 ∷ 5 ∷ [])
    ∷ runs (true ∷ false ∷ true ∷ false ∷ []) (0 ∷ 1 ∷ 2 ∷ 3 ∷ [])
    ∷ quotient 0 0 0 (pos 0)
    ∷ quotient 0 1 0 (pos 0)
    ∷ quotient 1 1 1 (pos 0)
    ∷ quotient 2 8 1 (negsuc 1)
    ∷ quotient 1 3 6004799503160661 (negsuc 53)
    ∷ quotient 2 3 6004799503160661 (negsuc 52)
    ∷ quotient 1 10 3602879701896397 (negsuc 54)
    ∷ quotient 3 6200 4462921953316827 (negsuc 62)
    ∷ quotient 5 6200 7438203255528045 (negsuc 62)
    ∷ quotient 1 1048576 1 (negsuc 19)
    ∷ quotient 1048575 1048576 1048575 (negsuc 19)
    ∷ quotient 349525 1048576 349525 (negsuc 19)
    ∷ quotient 699051 1048576 699051 (negsuc 19)
    ∷ quotient 1 1048575 1099512676353 (negsuc 59)
    ∷ quotient 1048574 1048575 1099510579199 (negsuc 39)
    ∷ quotient 524287 1048575 1099510579199 (negsuc 40)
    ∷ quotient 1048576 1048576 1 (pos 0)
    ∷ []

pub examples : Every cases
unfolding density_of round first bits_of ℕ_discrete dec_le
examples = (
  refl,
  (
    refl,
    (
      refl,
      (
        refl,
        (
          refl,
          (
            refl,
            (
              refl,
              (
                refl,
                (
                  refl,
                  (
                    refl,
                    (
                      refl,
                      (
                        refl,
                        (
                          refl,
                          (
                            refl,
                            (
                              refl,
                              (
                                refl,
                                (
                                  refl,
                                  (
                                    refl,
                                    (
                                      refl,
                                      (
                                        refl,
                                        (
                                          refl,
                                          (
                                            refl,
                                            (
                                              refl,
                                              (
                                                refl,
                                                (
                                                  refl,
                                                  (
                                                    refl,
                                                    (
                                                      refl,
                                                      (
                                                        refl,
                                                        (
                                                          refl,
                                                          (
                                                            refl,
                                                            (
                                                              refl,
                                                              (
                                                                refl,
                                                                (refl, (refl, (refl, (refl, (refl, (refl, (refl, (refl, (refl, (refl, (refl, (refl, (refl, (refl, (refl, tt))))))))))))))),
                                                              ),
                                                            ),
                                                          ),
                                                        ),
                                                      ),
                                                    ),
                                                  ),
                                                ),
                                              ),
                                            ),
                                          ),
                                        ),
                                      ),
                                    ),
                                  ),
                                ),
                              ),
                            ),
                          ),
                        ),
                      ),
                    ),
                  ),
                ),
              ),
            ),
          ),
        ),
      ),
    ),
  ),
)
