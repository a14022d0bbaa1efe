-- What the answers at a spot of a text say of the bytes from there on. Assumes nothing.
use Rattle.std.specs.Prelude.{ℕ, ◌+◌, ◌-◌, ◌*◌, List, [], ◌∷◌, drop, Option, Some, None}
use Rattle.model.specs.Shares.{pick}
use Rattle.text.specs.Kinds.{kind_of}
use Rattle.text.specs.Parsed.{Parsed, parsed, failed}
use Rattle.text.specs.Numbers.{is_digit}
use Rattle.text.specs.Inner.Numbers.{held}
use Rattle.text.specs.declared.Spot.{Spot}

-- the bytes from a spot on
abbrev pub bytes_from : List ℕ → Spot → List ℕ
bytes_from text spot = drop spot.at text

-- the spot after a word
abbrev pub stepped : List ℕ → Option Spot → Parsed (Unit {0})
stepped text (Some spot) = parsed tt (bytes_from text spot)
stepped text None = failed

-- a number and the spot after it
abbrev pub counted : List ℕ → Option (ℕ × Spot) → Parsed ℕ
counted text (Some (v, spot)) = parsed v (bytes_from text spot)
counted text None = failed

-- the first digit
unfoldable pub first_digit : List ℕ → Option ℕ
first_digit [] = None
first_digit (b ∷ s) = pick (is_digit (kind_of b)) (Some (b - 48)) None

-- the digits that go on a number, with the value held at every step
unfoldable pub digits_held : ℕ → List ℕ → Parsed ℕ
digits_held v [] = parsed v []
digits_held v (b ∷ s) = pick (is_digit (kind_of b)) (digits_held (held (v * 10 + (b - 48))) s) (parsed v (b ∷ s))
