-- E1 to E12 of document 01, one statement over one list, of the definitions that the contracts cite: E11, the program's masks, in each mix
-- of forms, and E12, the same in two feeds, stand here, by computation.
-- Assumes nothing.
use Prim.Native.Nat.{ℕ, ◌+◌, ◌-◌, ◌^◌}
use mathlib.Core.Path.{◌≡◌, refl}
use mathlib.Core.List.{List, [], ◌∷◌, ◌++◌, map}
use mathlib.Core.Bool.{false}
use native.Mathlib.Decide.{ℕ_discrete, dec_le}
use lib.IntN.{negsuc}
use lib.Ieee.{Float, fin, round}
use Rattle.rows.specs.Word.{bits_of, word_of}
use Rattle.rows.specs.Table.{first, in_order}
use Rattle.rules.specs.Answer.{Answer}
use Rattle.rules.specs.declared.Form.TheVariants.{Words, List as Listed}
use Rattle.rules.specs.Operand.{Operand, lent}
use Rattle.rules.specs.Answer.{density_of, summary}
use Rattle.rules.specs.Route.{published, route_by}
use Rattle.rules.specs.Compose.{composed, composed_out}
use Rattle.rules.specs.Stream.{Pair, pair_of, state_of, fresh, judged, run}
use Rattle.std.specs.Prelude.{Ok}
use Rattle.rules.proofs.WordExamples as word-examples
use Rattle.rules.proofs.ReadExamples as lent-examples
use Rattle.std.specs.Prelude.{Some}
use Rattle.rules.specs.declared.Route.{Route}
use Rattle.rules.specs.declared.Route.TheVariants.{EntryAtRank, EntryIfSet, Gathered, Read}
use Rattle.rows.specs.declared.Way.TheVariants.{Network}

-- 2 of 8 rows, and 1 of 4: 1 * 2 ^ -2
abbrev pub quarter : Float
quarter = fin false 1 (negsuc 1)

-- 01101011 composed with 10010 is 01000010, by routes 9, 7, 5 and 4. The output had all ones, and a second word that stays

pub data Case : Type 0 where
  gives : (s r : Operand) (route : Route) → Case

abbrev pub before : List ℕ
before = (2 ^ 64 - 1) ∷ 7 ∷ []

abbrev pub Holds : Case → Type 0
Holds (gives s r n) = (composed published s r before ≡ Ok (summary 2 (Some n) quarter)) × (composed_out s r before ≡ 66 ∷ 7 ∷ [])

abbrev pub masks : List Case
masks =
    gives (lent (Words 0 8 5) (214 ∷ []) []) (lent (Words 0 5 2) (9 ∷ []) []) (Read Network)
    ∷ gives (lent (Words 0 8 5) (214 ∷ []) []) (lent (Listed 5) [] (0 ∷ 3 ∷ [])) (Gathered Network)
    ∷ gives (lent (Listed 8) [] (1 ∷ 2 ∷ 4 ∷ 6 ∷ 7 ∷ [])) (lent (Words 0 5 2) (9 ∷ []) []) EntryIfSet
    ∷ gives (lent (Listed 8) [] (1 ∷ 2 ∷ 4 ∷ 6 ∷ 7 ∷ [])) (lent (Listed 5) [] (0 ∷ 3 ∷ [])) EntryAtRank
    ∷ []

-- E12, the same fed as 0110 with 10, then 1011 with 010, in each mix of forms: bits 0 to 7 are 01000010, and the others stay

pub data Fed : Type 0 where
  feeds : (one two : Pair) (first second : Route) → Fed

abbrev pub keeps_one : Route → Answer
keeps_one route = Ok (summary 1 (Some route) quarter)

abbrev pub FeedsHold : Fed → Type 0
FeedsHold (feeds one two n m) = run fresh before (one ∷ two ∷ []) ≡ record { answers = keeps_one n ∷ keeps_one m ∷ []; state = state_of 8 5 2; out = (2 ^ 64 - 256 + 66) ∷ 7 ∷ [] }

abbrev pub pieces : List Fed
pieces =
    feeds (pair_of (lent (Words 0 4 2) (6 ∷ []) []) (lent (Words 0 2 1) (1 ∷ []) [])) (pair_of (lent (Words 0 4 3) (13 ∷ []) []) (lent (Words 0 3 1) (2 ∷ []) [])) (Read Network) (Read Network)
    ∷ feeds (pair_of (lent (Listed 4) [] (1 ∷ 2 ∷ [])) (lent (Listed 2) [] (0 ∷ []))) (pair_of (lent (Words 4 4 3) (214 ∷ []) []) (lent (Listed 3) [] (1 ∷ []))) EntryAtRank (Gathered Network)
    ∷ feeds (pair_of (lent (Words 0 4 2) (214 ∷ []) []) (lent (Listed 2) [] (0 ∷ []))) (pair_of (lent (Listed 4) [] (0 ∷ 2 ∷ 3 ∷ [])) (lent (Words 2 3 1) (9 ∷ []) [])) (Gathered Network) EntryIfSet
    ∷ []

-- ---- E1 to E12, one statement over one list: the words' and the reads' stand beside their definitions

pub data Example : Type 0 where
  word : word-examples.Case → Example
  read : lent-examples.Case → Example
  composition : Case → Example
  stream : Fed → Example

abbrev pub True : Example → Type 0
True (word c) = word-examples.Holds c
True (read c) = lent-examples.Holds c
True (composition c) = Holds c
True (stream c) = FeedsHold c

abbrev pub AllTrue : List Example → Type 0
AllTrue [] = Unit {0}
AllTrue (e ∷ es) = True e × AllTrue es

-- E1 to E8, E9 and E10, E11, E12
abbrev pub document : List Example
document = map word word-examples.cases ++ map read lent-examples.cases ++ map composition masks ++ map stream pieces

all_append : (xs ys : List Example) → AllTrue xs → AllTrue ys → AllTrue (xs ++ ys)
all_append [] ys a b = b
all_append (x ∷ xs) ys a b = (a.0, all_append xs ys a.1 b)

masks_true : AllTrue (map composition masks)
unfolding density_of round composed composed_out route_by first in_order bits_of word_of ℕ_discrete dec_le
masks_true = ((refl, refl), ((refl, refl), ((refl, refl), ((refl, refl), tt))))

pieces_true : AllTrue (map stream pieces)
unfolding density_of round judged composed composed_out route_by first in_order bits_of word_of ℕ_discrete dec_le
pieces_true = (refl, (refl, (refl, tt)))

pub examples : AllTrue document
examples =
    let words = map word word-examples.cases in
    let reads = map read lent-examples.cases in
    let whole = map composition masks in
    all_append (words ++ reads ++ whole) (map stream pieces)
    (all_append (words ++ reads) whole
    (all_append words reads word-examples.examples lent-examples.examples)
    masks_true)
    pieces_true
