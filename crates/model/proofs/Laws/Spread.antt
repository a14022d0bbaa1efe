-- The spread: it is 002's figure, it never goes below zero, and sums of shares stay small. Assumes nothing.
use Rattle.std.specs.Prelude.{ℕ, suc, ◌+◌, ◌*◌, ◌≤◌, ◌<◌, List, [], ◌∷◌, ◌≡◌, length, get_or}
use Rattle.std.proofs.Math.Decide.{dec_le}
use Rattle.std.proofs.Math.Nat.{le_of_mul-le-mul_left, mul-sub}
use Rattle.std.proofs.Common.{mul-le-mul, arith}
use Rattle.model.proofs.Laws.Lists.{sum_sum_of}
use Rattle.model.specs.Shares.{sum, sum_of}
use Rattle.model.specs.Figures.{apart, spread}

-- the square of a difference, without subtraction
difference_squared : (a b d : ℕ) → a + d ≡ b → d * d + 2 * (a * b) ≡ a * a + b * b
difference_squared a b d e = rw (← e) (omega arith)

-- the square of a distance, without subtraction
apart_squared : (a b : ℕ) → apart a b * apart a b + 2 * (a * b) ≡ a * a + b * b
apart_squared a b =
    elim (dec_le a b) [
      | yes p ↦ difference_squared a b (apart a b) (omega arith)
      | no p ↦ omega (arith, difference_squared b a (apart a b) (omega arith))
    ]

-- the squared distances of n × share from any total, without subtraction
squares_apart : (n total : ℕ) (xs : List ℕ)
    → sum_of (λ x. apart (n * x) total * apart (n * x) total) xs + 2 * (n * total * sum xs)
    ≡ n * n * sum_of (λ x. x * x) xs + length xs * (total * total)
unfolding sum sum_of
squares_apart n total [] = omega arith
squares_apart n total (x ∷ xs) = omega (arith, apart_squared (n * x) total, squares_apart n total xs)

-- Cauchy–Schwarz, n times
scaled : (xs : List ℕ) → length xs * (sum xs * sum xs) ≤ length xs * (length xs * sum_of (λ x. x * x) xs)
scaled xs = omega (arith, squares_apart (length xs) (sum xs) xs)

-- S × S ≤ n × (sum of squares): the difference in the spread never goes below zero
pub cauchy_schwarz : (xs : List ℕ) → sum xs * sum xs ≤ length xs * sum_of (λ x. x * x) xs
unfolding sum
cauchy_schwarz [] = omega arith
cauchy_schwarz (x ∷ xs) = le_of_mul-le-mul_left {k = length (x ∷ xs)} (scaled (x ∷ xs)) (omega arith)

-- n × spread is the sum of the squares of n × share − S: n × n times 002's squared deviation
pub spread_squares : (xs : List ℕ)
    → length xs * spread (length xs) (sum xs) xs
    ≡ sum_of (λ x. apart (length xs * x) (sum xs) * apart (length xs * x) (sum xs)) xs
unfolding spread
spread_squares xs = rw mul-sub (omega (arith, squares_apart (length xs) (sum xs) xs))

-- a sum of n values, each at most b, is at most n × b
pub sum_of_bound : (f : ℕ → ℕ) (b : ℕ) (xs : List ℕ)
    → ((i : ℕ) → i < length xs → f (get_or xs i 0) ≤ b) → sum_of f xs ≤ length xs * b
unfolding sum_of
sum_of_bound f b [] h = omega arith
sum_of_bound f b (x ∷ xs) h =
    omega (arith, h 0 (omega arith), sum_of_bound f b xs (λ i below. h (suc i) (omega arith)))

-- n shares of at most m add up to at most n × m
pub sum_bound : (m : ℕ) (xs : List ℕ) → ((i : ℕ) → get_or xs i 0 ≤ m) → sum xs ≤ length xs * m
sum_bound m xs h = rw sum_sum_of (sum_of_bound (λ x. x) m xs (λ i below. h i))

-- the squares of n shares of at most m add up to at most n × m × m
pub squares_bound : (m : ℕ) (xs : List ℕ)
    → ((i : ℕ) → get_or xs i 0 ≤ m) → sum_of (λ x. x * x) xs ≤ length xs * (m * m)
squares_bound m xs h = sum_of_bound (λ x. x * x) (m * m) xs (λ i below. mul-le-mul (h i) (h i))
