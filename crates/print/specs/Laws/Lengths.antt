-- How long numbers and lines are. Assumes nothing.
use Rattle.std.specs.Prelude.{ℕ, zero, suc, ◌+◌, ◌*◌, ◌/◌, ◌%◌, ◌^◌, ◌≤◌, ◌<◌, ◌≡◌, refl, length, get_or}
use mathlib.Core.List.{List, [], ◌∷◌, ◌++◌, map, flatten}
use Rattle.std.proofs.Common.{pow-suc, arith, length-append}
use Rattle.std.proofs.Math.Decide.{dec_lt}
use Rattle.text.specs.Numbers.{print_number}
use Rattle.text.specs.Laws.Printed.{print_one, print_more}
use Rattle.text.specs.Words.{bytes}
use Rattle.print.specs.Items.{item, items, form, printed_line}

-- a number below a power of ten has at most so many digits
pub print_length : (k v : ℕ) → v < 10 ^ suc k → length (print_number v) ≤ suc k
print_length zero v h = rw (print_one v h) (omega arith)
print_length (suc k) v h =
    elim (dec_lt v 10) [
      | yes p ↦ rw (print_one v p) (omega arith)
      | no p ↦
          let tenth : length (print_number (v / 10)) ≤ suc k = print_length k (v / 10) (omega (arith, pow-suc 10 (suc k))) in
          rw (print_more v (omega arith)) (omega (arith, length-append (print_number (v / 10)) ((48 + v % 10) ∷ [])))
    ]

-- so it takes one byte more after a space
pub item_length : (k v : ℕ) → v < 10 ^ suc k → length (item v) ≤ k + 2
unfolding item flatten
item_length k v h = omega (arith, print_length k v h, length-append (print_number v) [])

-- no items take no bytes
pub items_none : length (items []) ≡ 0
unfolding items flatten
items_none = refl

-- the length of items is that of the first and of the others
pub items_more : (v : ℕ) (vs : List ℕ) → length (items (v ∷ vs)) ≡ length (item v) + length (items vs)
unfolding items flatten
items_more v vs = length-append (item v) (flatten (map item vs))

-- numbers below a power of ten take at most so many bytes each
pub items_length : (k : ℕ) (vs : List ℕ) → ((i : ℕ) → i < length vs → get_or vs i 0 < 10 ^ suc k)
    → length (items vs) ≤ length vs * (k + 2)
items_length k [] h = omega (arith, items_none)
items_length k (v ∷ vs) h =
    omega (
      arith,
      items_more v vs,
      item_length k v (h 0 (omega arith)),
      items_length k vs (λ i below. h (suc i) (omega arith)),
    )

-- a form is as long as its word and its items
pub form_length : (word vs : List ℕ) → length (form word vs) ≡ length word + length (items vs)
unfolding form flatten
form_length word vs = omega (arith, length-append word (items vs ++ []), length-append (items vs) [])

-- and a line two bytes longer
pub line_length : (word vs : List ℕ) → length (printed_line word vs) ≡ length word + length (items vs) + 2
unfolding printed_line flatten
line_length word vs = omega (arith, length-append (form word vs) (bytes ")\n"), form_length word vs)
