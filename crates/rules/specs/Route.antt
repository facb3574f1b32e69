-- Document 01's route table: the first line that fits, after all checks.
-- Hold it against the table, line by line; "8 and 10 apply when 16 x self count < self length"; and "self words, 32 x rank count < rank length".
-- Document 02, P1: "runs count as a list for route choice". The table reads an operand's form and its count, and nothing else.
-- Assumes nothing.
use Rattle.std.specs.Prelude.{ℕ, ◌*◌, cond, ltb, Option, Some, None}
use Rattle.rows.specs.declared.Way.{Way}
use Rattle.rows.specs.declared.Way.TheVariants.{Network, Loop}
use Rattle.rules.specs.declared.Factors.{Factors}
use Rattle.rules.specs.declared.Route.{Route}
use Rattle.rules.specs.declared.Route.TheVariants.{RankMask, SelfMask, NoRows, EntryAtRank, EntryIfSet, MaskDriven, Gathered, Read}
use Rattle.rules.specs.declared.Form.{Form}
use Rattle.rules.specs.Operand.{Operand, length_of, count_of, empty_by, full_by, counts_as_list}

-- the loop form where 16 x self count < self length
abbrev pub way_by : Factors → Form → ℕ → Way
way_by k f n = cond (ltb (k.sparse * n) (length_of f)) Loop Network

-- self's form and its count n, the rank mask's form and its count m
unfoldable pub route_by : Factors → Form → ℕ → Form → ℕ → Route
route_by k s n r m =
    cond (full_by s n) RankMask
    (cond (full_by r m) SelfMask
    (cond (empty_by n) NoRows
    (cond (empty_by m) NoRows
    (cond (counts_as_list s) (cond (counts_as_list r) EntryAtRank EntryIfSet)
    (cond (ltb (k.driven * m) (length_of r)) MaskDriven
    (cond (counts_as_list r) (Gathered (way_by k s n)) (Read (way_by k s n))))))))

abbrev pub route_of : Factors → Operand → Operand → Route
route_of k s r = route_by k s.form (count_of s) r.form (count_of r)

abbrev pub number_of : Route → ℕ
number_of RankMask = 1
number_of SelfMask = 2
number_of NoRows = 3
number_of EntryAtRank = 4
number_of EntryIfSet = 5
number_of MaskDriven = 6
number_of (Gathered Network) = 7
number_of (Gathered Loop) = 8
number_of (Read Network) = 9
number_of (Read Loop) = 10

-- as C callers and the program's lines have it: 0 outside composition
abbrev pub route_number : Option Route → ℕ
route_number None = 0
route_number (Some r) = number_of r

-- document 01's factors
abbrev pub published : Factors
published = record { sparse = 16; driven = 32 }
