-- Document 01's example in full, two masks with no rows, lengths that do not go together, and inputs that are not well formed: one
-- statement over one list, by computation on the definition that the contract cites.
-- Assumes nothing.
use Prim.Native.Nat.{ℕ}
use native.Mathlib.Decide.{ℕ_discrete, dec_le}
use mathlib.Core.Path.{◌≡◌, refl}
use mathlib.Core.List.{List, [], ◌∷◌}
use Rattle.rows.specs.Word.{bits_of, word_of}
use Rattle.rows.specs.Table.{first, in_order}
use Rattle.rules.specs.Route.{route_by}
use Rattle.rules.specs.Compose.{composed}
use Rattle.lines.specs.Text.{ascii, rows_in, dec_same, parsed, decimal_in, decimal, lines, lines_of, answer_for, text_of}

-- an input, and the text
pub data Case : Type 0 where
  written_for : (input text : List ℕ) → Case

abbrev pub Every : List Case → Type 0
Every [] = Unit {0}
Every (written_for input text ∷ cs) = (text_of input ≡ text) × Every cs

abbrev pub cases : List Case
cases =
    written_for (ascii "self=01101011\nrank=10010\n") (ascii "refusal=0\nroute=9\ncount=2\nbits=01000010\n")
    ∷ written_for (ascii "self=\nrank=\n") (ascii "refusal=0\nroute=3\ncount=0\nbits=\n")
    ∷ written_for (ascii "self=01101011\nrank=1001\n") (ascii "refusal=7\nroute=0\ncount=0\nbits=\n")
    ∷ written_for (ascii "self=01101011\nrank=10010\n\n") (ascii "refusal=13\nroute=0\ncount=0\nbits=\n")
    ∷ written_for (ascii "rank=10010\nself=01101011\n") (ascii "refusal=13\nroute=0\ncount=0\nbits=\n")
    ∷ written_for (ascii "self=0\nrank=") (ascii "refusal=13\nroute=0\ncount=0\nbits=\n")
    ∷ written_for (ascii "") (ascii "refusal=13\nroute=0\ncount=0\nbits=\n")
    ∷ []

pub examples : Every cases
unfolding text_of answer_for parsed rows_in dec_same ℕ_discrete dec_le lines lines_of decimal decimal_in composed route_by first in_order bits_of word_of
examples = (refl, (refl, (refl, (refl, (refl, (refl, (refl, tt)))))))
