-- Laws of the kinds: that a kind is a certain one is what its test says. Assumes nothing.
use Rattle.std.specs.Prelude.{◌≡◌, refl}
use denote.Enum.Bare.{sameb}
use Rattle.text.specs.Kinds.{is_opening, is_letter}
use Rattle.text.specs.Numbers.{is_digit}
use Rattle.text.specs.contracts.Kind.{the_type}
use Rattle.text.specs.declared.Kind.{Kind}
use Rattle.text.specs.declared.Kind.TheVariants.{Opening, Closing, Space, Digit, Letter, Foreign}

-- the opening bracket's
pub same_opening : (kind : Kind) → sameb the_type kind Opening ≡ is_opening kind
same_opening Opening = refl
same_opening Closing = refl
same_opening Space = refl
same_opening Digit = refl
same_opening Letter = refl
same_opening Foreign = refl

-- the digits'
pub same_digit : (kind : Kind) → sameb the_type kind Digit ≡ is_digit kind
same_digit Opening = refl
same_digit Closing = refl
same_digit Space = refl
same_digit Digit = refl
same_digit Letter = refl
same_digit Foreign = refl

-- the letters'
pub same_letter : (kind : Kind) → sameb the_type kind Letter ≡ is_letter kind
same_letter Opening = refl
same_letter Closing = refl
same_letter Space = refl
same_letter Digit = refl
same_letter Letter = refl
same_letter Foreign = refl
