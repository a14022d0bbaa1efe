-- The six kinds of a byte. Assumes nothing.
use Rattle.std.specs.Prelude.{ℕ, Bool, true, false, ◌&&◌, leb, eqb}
use Rattle.model.specs.Shares.{pick}
use Rattle.text.specs.declared.Kind.{Kind}
use Rattle.text.specs.declared.Kind.TheVariants.{Opening, Closing, Space, Digit, Letter, Foreign}

-- 01: "40 opening, 41 closing, 32 space, 48 to 57 digit, 97 to 122 letter, all others foreign"
abbrev pub kind_of : ℕ → Kind
kind_of byte =
    pick (eqb byte 40) Opening
    (pick (eqb byte 41) Closing
    (pick (eqb byte 32) Space
    (pick (leb 48 byte && leb byte 57) Digit (pick (leb 97 byte && leb byte 122) Letter Foreign))))

-- the kind of the opening bracket
abbrev pub is_opening : Kind → Bool
is_opening Opening = true
is_opening Closing = false
is_opening Space = false
is_opening Digit = false
is_opening Letter = false
is_opening Foreign = false

-- the kind of the closing bracket
abbrev pub is_closing : Kind → Bool
is_closing Opening = false
is_closing Closing = true
is_closing Space = false
is_closing Digit = false
is_closing Letter = false
is_closing Foreign = false

-- the kind of the letters
abbrev pub is_letter : Kind → Bool
is_letter Opening = false
is_letter Closing = false
is_letter Space = false
is_letter Digit = false
is_letter Letter = true
is_letter Foreign = false
