-- The pair differences of shares of which some have moved from one value to another. Assumes nothing.
use Rattle.std.specs.Prelude.{ℕ, suc, ◌+◌, ◌*◌, List, [], ◌∷◌, ◌≡◌, refl, length}
use Rattle.std.proofs.Math.Path.{ap}
use native.Mathlib.Omega.{arith}
use Rattle.model.specs.Shares.{sum_of}
use Rattle.model.specs.Figures.{apart, pairs}
use Rattle.breakpoints.specs.Inner.Distances.{above_level}
use Rattle.model.proofs.Laws.Pairs.{distances, sum_of_plus, sum_of_same, apart_swap, pairs_twice}

-- a multiple of each part is one of the sum
sum_of_times : (c : ℕ) (f : ℕ → ℕ) (xs : List ℕ) → sum_of (λ x. c * f x) xs ≡ c * sum_of f xs
unfolding sum_of
sum_of_times c f [] = omega arith
sum_of_times c f (x ∷ xs) = omega (arith, sum_of_times c f xs)

-- what is moved, in plain numbers: both lists' pair differences, and their distances from p and q
moved_by : (c d from_p from_q before after cross near_p near_q : ℕ) → 2 * after + c * near_p ≡ cross + c * near_q → cross + c * from_p ≡ 2 * before + c * from_q
    → near_p ≡ from_p + c * d → near_q + c * d ≡ from_q → after + (c * from_p + c * (c * d)) ≡ before + c * from_q
moved_by c d from_p from_q before after cross near_p near_q one two p q =
    omega (arith, one, two, ap (λ (t : ℕ). c * t) p, ap (λ (t : ℕ). c * t) q)

-- c shares moved from p to q
module _ (xs ys : List ℕ) (c p q : ℕ) (moves : (f : ℕ → ℕ) → sum_of f xs + c * f p ≡ sum_of f ys + c * f q) where
  -- the distances between both lists
  crossed : sum_of (λ y. sum_of (apart y) xs) ys + c * sum_of (apart p) ys ≡ 2 * pairs ys + c * sum_of (apart q) ys
  unfolding distances
  crossed =
      omega (
        arith,
        pairs_twice ys,
        sum_of_same (λ y. sum_of (apart y) xs + c * apart y p) (λ y. sum_of (apart y) ys + c * apart y q) (λ y. moves (apart y)) ys,
        sum_of_plus (λ y. sum_of (apart y) xs) (λ y. c * apart y p) ys,
        sum_of_plus (λ y. sum_of (apart y) ys) (λ y. c * apart y q) ys,
        sum_of_times c (λ y. apart y p) ys,
        sum_of_times c (λ y. apart y q) ys,
        ap (λ (t : ℕ). c * t) (sum_of_same (λ y. apart y p) (apart p) (λ y. apart_swap y p) ys),
        ap (λ (t : ℕ). c * t) (sum_of_same (λ y. apart y q) (apart q) (λ y. apart_swap y q) ys),
      )

  pub pairs_moved : pairs xs + (c * sum_of (apart p) ys + c * (c * apart p q)) ≡ pairs ys + c * sum_of (apart q) ys
  unfolding distances
  pairs_moved =
      let none : (x : ℕ) → c * apart x x ≡ 0 = (λ x. let at : apart x x ≡ 0 = omega arith in rw at (omega arith)) in
      moved_by c (apart p q) (sum_of (apart p) ys) (sum_of (apart q) ys) (pairs ys) (pairs xs) (sum_of (λ y. sum_of (apart y) xs) ys)
      (sum_of (apart p) xs) (sum_of (apart q) xs)
      (omega (arith, pairs_twice xs, moves (λ y. sum_of (apart y) xs)))
      crossed
      (omega (arith, moves (apart p), none p))
      (omega (arith, moves (apart q), none q, ap (λ (t : ℕ). c * t) (apart_swap q p)))

-- from w + 1 every share is one further than from w, but those above w are one nearer
one_up : (w x : ℕ) → apart (suc w) x + 2 * above_level w x ≡ apart w x + 1
one_up w x = omega arith

pub distances_up : (w : ℕ) (xs : List ℕ) → sum_of (apart (suc w)) xs + 2 * sum_of (above_level w) xs ≡ sum_of (apart w) xs + length xs
unfolding sum_of
distances_up w [] = refl
distances_up w (x ∷ xs) = omega (arith, one_up w x, distances_up w xs)
