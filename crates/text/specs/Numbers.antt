-- Numbers in base ten. Assumes nothing.
use Rattle.std.specs.Prelude.{ℕ, zero, suc, ◌+◌, ◌-◌, ◌*◌, ◌/◌, ◌%◌, Bool, true, false, List, [], ◌∷◌, ◌++◌, eqb, ltb}
use Rattle.model.specs.Shares.{pick}
use Rattle.text.specs.Kinds.{kind_of}
use Rattle.text.specs.Parsed.{Parsed, parsed, failed, and_then, word}
use Rattle.text.specs.declared.Kind.{Kind}
use Rattle.text.specs.declared.Kind.TheVariants.{Opening, Closing, Space, Digit, Letter, Foreign}

-- the kind of the digits
abbrev pub is_digit : Kind → Bool
is_digit Opening = false
is_digit Closing = false
is_digit Space = false
is_digit Digit = true
is_digit Letter = false
is_digit Foreign = false

-- the digits that go on a number whose first ones have the value v
unfoldable pub digits : ℕ → List ℕ → Parsed ℕ
digits v [] = parsed v []
digits v (b ∷ s) = pick (is_digit (kind_of b)) (digits (v * 10 + (b - 48)) s) (parsed v (b ∷ s))

-- 01: "Numbers stand in base ten without a leading zero; 0 itself is allowed": after a first 0 nothing goes on
unfoldable pub number : List ℕ → Parsed ℕ
number [] = failed
number (b ∷ s) = pick (is_digit (kind_of b)) (pick (eqb b 48) (parsed 0 s) (digits (b - 48) s)) failed

-- a word and the number after it
unfoldable pub number_after : List ℕ → List ℕ → Parsed ℕ
number_after w s = and_then (word w s) (λ u s. number s)

-- the digits of v, where there are at most as many as steps
unfoldable pub digits_of : ℕ → ℕ → List ℕ
digits_of zero v = []
digits_of (suc steps) v =
    elim (ltb v 10) [ true ↦ (48 + v) ∷ [] | false ↦ digits_of steps (v / 10) ++ (48 + v % 10) ∷ [] ]

-- a number as it is written
unfoldable pub print_number : ℕ → List ℕ
print_number v = digits_of (suc v) v
