-- What ails a line that is not in the form: 02's 13, 14 and 15, "tried in that order just ahead of 3". Assumes nothing.
use Rattle.std.specs.Prelude.{ℕ, ◌+◌, Bool, false, not, ◌&&◌, ◌||◌, List, [], ◌∷◌, leb, eqb}
use Rattle.model.specs.Refusals.{unless}
use Rattle.model.specs.Shares.{pick}
use Rattle.text.specs.Kinds.{kind_of, is_opening, is_closing, is_letter}
use Rattle.text.specs.Parsed.{parsed, failed, word}
use Rattle.text.specs.Words.{bytes}

-- the line at the front of a text: up to its first byte 10, and with it
unfoldable pub front_line : List ℕ → List ℕ
front_line [] = []
front_line (b ∷ s) = b ∷ pick (eqb b 10) [] (front_line s)

-- 13 "a last line without byte 10": whether it has one
unfoldable pub ended : List ℕ → Bool
ended [] = false
ended (b ∷ s) = eqb b 10 || ended s

-- 1 for an opening bracket
abbrev pub openings : ℕ → ℕ
openings b = pick (is_opening (kind_of b)) 1 0

-- 1 for a closing bracket
abbrev pub closings : ℕ → ℕ
closings b = pick (is_closing (kind_of b)) 1 0

-- 14 "closing brackets at some byte outnumber the opening ones or .. counts differ at the end": neither, with so many of both ahead
unfoldable pub paired : ℕ → ℕ → List ℕ → Bool
paired opened closed [] = eqb opened closed
paired opened closed (b ∷ s) =
    leb (closed + closings b) (opened + openings b) && paired (opened + openings b) (closed + closings b) s

-- whether a letter comes next
unfoldable pub letter_next : List ℕ → Bool
letter_next [] = false
letter_next (b ∷ s) = is_letter (kind_of b)

-- whether a word comes next that is "the whole run of letters"
unfoldable pub is_run : List ℕ → List ℕ → Bool
is_run w s = elim (word w s) [ parsed u rest ↦ not (letter_next rest) | failed ↦ false ]

-- "the word unit, group or shut"
unfoldable pub is_name : List ℕ → Bool
is_name s = is_run (bytes "unit") s || (is_run (bytes "group") s || is_run (bytes "shut") s)

-- 15 "first byte isn't an opening bracket with the word .. straight after it": whether it is
unfoldable pub is_named : List ℕ → Bool
is_named [] = false
is_named (b ∷ s) = is_opening (kind_of b) && is_name s

-- the first of 13, 14 and 15 that ails the line, or else 3
unfoldable pub ailment_of : List ℕ → ℕ
ailment_of line = unless (ended line) 13 (unless (paired 0 0 line) 14 (unless (is_named line) 15 3))
