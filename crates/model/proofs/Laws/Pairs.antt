-- The pair differences: twice they are the distances of every share from every share, and an exchange never raises them. Assumes nothing.
use Rattle.std.specs.Prelude.{ℕ, zero, suc, ◌+◌, ◌*◌, ◌≤◌, ◌<◌, List, [], ◌∷◌, ◌≡◌, refl, length, get_or, drop}
use Rattle.std.proofs.Common.{◌∙◌, arith, le_refl, length-drop, drop_of_length-le, get_or-drop}
use Rattle.std.proofs.Math.Seq.{drop-cons}
use Rattle.model.specs.Shares.{sum, sum_of}
use Rattle.model.specs.Figures.{apart, pairs}
use Rattle.model.specs.Transfers.{transfer, SchurConvex, Convex}
use Rattle.model.specs.Inner.Orders.{Rising}
use Rattle.model.proofs.Laws.Orders.{rising}
use Rattle.model.proofs.Laws.Transfer.{plus_convex, sum_of_schur, apart_convex}

-- the distances of every share of one list from every share of another
unfoldable pub distances : List ℕ → List ℕ → ℕ
distances xs ys = sum_of (λ y. sum_of (apart y) xs) ys

-- a sum of sums of two functions
pub sum_of_plus : (f g : ℕ → ℕ) (xs : List ℕ) → sum_of (λ x. f x + g x) xs ≡ sum_of f xs + sum_of g xs
unfolding sum_of
sum_of_plus f g [] = refl
sum_of_plus f g (x ∷ xs) = omega (arith, sum_of_plus f g xs)

-- a sum of nothing
sum_of_none : (xs : List ℕ) → sum_of (λ x. 0) xs ≡ 0
unfolding sum_of
sum_of_none [] = refl
sum_of_none (x ∷ xs) = omega (arith, sum_of_none xs)

-- sums of the same parts are the same
pub sum_of_same : (f g : ℕ → ℕ) → ((x : ℕ) → f x ≡ g x) → (xs : List ℕ) → sum_of f xs ≡ sum_of g xs
unfolding sum_of
sum_of_same f g same [] = refl
sum_of_same f g same (x ∷ xs) = omega (arith, same x, sum_of_same f g same xs)

-- from either side, a distance is the same
pub apart_swap : (x y : ℕ) → apart x y ≡ apart y x
apart_swap x y = omega arith

-- one share more in the list that distances are taken from
distances_more : (x : ℕ) (xs ys : List ℕ) → distances (x ∷ xs) ys ≡ sum_of (apart x) ys + distances xs ys
unfolding distances sum_of
distances_more x xs ys =
    sum_of_plus (λ y. apart y x) (λ y. sum_of (apart y) xs) ys
    ∙ omega (arith, sum_of_same (λ y. apart y x) (apart x) (λ y. apart_swap y x) ys)

-- twice the pair differences
pub pairs_twice : (xs : List ℕ) → 2 * pairs xs ≡ distances xs xs
unfolding pairs distances sum_of
pairs_twice [] = refl
pairs_twice (x ∷ xs) = omega (arith, pairs_twice xs, distances_more x xs xs)

-- the distances from the shares of a list are convex
distances_convex : (xs : List ℕ) → Convex (λ y. sum_of (apart y) xs)
unfolding sum_of
distances_convex [] = record { bends = λ a b h. omega arith }
distances_convex (x ∷ xs) = plus_convex (apart_convex x) (distances_convex xs)

-- so that an exchange in one of two lists never raises the distances between them
distances_schur : (xs : List ℕ) → SchurConvex (distances xs)
unfolding distances
distances_schur xs = sum_of_schur (distances_convex xs)

-- distances are the same from either list
distances_swap : (xs ys : List ℕ) → distances xs ys ≡ distances ys xs
unfolding distances sum_of
distances_swap [] ys = sum_of_none ys
distances_swap (x ∷ xs) ys = distances_more x xs ys ∙ omega (arith, distances_swap xs ys)

-- the pair differences are never raised by an exchange: it is made in one of the two lists after the other
pub pairs_schur : SchurConvex pairs
pairs_schur = record {
  lowers = λ xs i j p q h.
      let ys : List ℕ = transfer i j xs in
      omega (
        arith,
        pairs_twice xs,
        pairs_twice ys,
        (distances_schur ys).lowers xs i j p q h,
        distances_swap ys xs,
        (distances_schur xs).lowers xs i j p q h,
      );
}

-- shares of which every sum is the same have the same pair differences
pub pairs_same : (xs ys : List ℕ) → ((f : ℕ → ℕ) → sum_of f xs ≡ sum_of f ys) → pairs xs ≡ pairs ys
unfolding distances
pairs_same xs ys same =
    omega (arith, pairs_twice xs, pairs_twice ys, same (λ y. sum_of (apart y) xs), sum_of_same (λ y. sum_of (apart y) xs) (λ y. sum_of (apart y) ys) (λ y. same (apart y)) ys)

-- the distances of x from shares that are no less
pub far_above : (x : ℕ) (ys : List ℕ) → ((j : ℕ) → j < length ys → x ≤ get_or ys j 0) → sum_of (apart x) ys + length ys * x ≡ sum ys
unfolding sum_of sum
far_above x [] less = omega arith
far_above x (y ∷ ys) less = omega (arith, less 0 (omega arith), far_above x ys (λ j h. less (suc j) (omega arith)))

-- distances and pair differences are small
far_small : (x : ℕ) (ys : List ℕ) → sum_of (apart x) ys ≤ length ys * x + sum ys
unfolding sum_of sum
far_small x [] = omega arith
far_small x (y ∷ ys) = omega (arith, far_small x ys)

pub pairs_small : (xs : List ℕ) → pairs xs ≤ length xs * sum xs
unfolding pairs sum
pairs_small [] = omega arith
pairs_small (x ∷ xs) = omega (arith, pairs_small xs, far_small x xs)

-- the numbers from i on have this sum and these pair differences, and are so many
pub record PairsFrom (xs : List ℕ) (i later total told : ℕ) : Type 0 where
  pub place : later + i ≡ length xs
  pub adds : total ≡ sum (drop i xs)
  pub differ : told ≡ pairs (drop i xs)

-- none is passed yet
pub pairs_none : (xs : List ℕ) → PairsFrom xs (length xs) 0 0 0
unfolding pairs sum
pairs_none xs = record { place = omega arith; adds = rw (drop_of_length-le xs (le_refl _)); differ = rw (drop_of_length-le xs (le_refl _)) }

module _ {xs : List ℕ} {i later total told : ℕ} (risen : Rising (length xs) xs) (held : PairsFrom xs (suc i) later total told) where
  -- the number before them is no greater
  pub from_here : sum_of (apart (get_or xs i 0)) (drop (suc i) xs) + later * get_or xs i 0 ≡ total
  from_here =
      let rest : length (drop (suc i) xs) ≡ later = length-drop (suc i) xs ∙ omega (arith, held.place) in
      rw (rest, ← held.adds) at
      (far_above (get_or xs i 0) (drop (suc i) xs) (λ j h. rw (get_or-drop (suc i) xs j 0) (rising xs risen i (suc i + j) (omega arith) (omega (arith, rest, held.place)))))

  -- and is passed
  pub pairs_step : (more : ℕ) → more + later * get_or xs i 0 ≡ total → PairsFrom xs i (later + 1) (total + get_or xs i 0) (told + more)
  unfolding pairs sum sum_of
  pairs_step more is =
      let here = drop-cons xs i 0 (omega (arith, held.place)) in
      record {
        place = omega (arith, held.place);
        adds = rw here (omega (arith, held.adds));
        differ = rw here (omega (arith, held.differ, from_here));
      }

-- the numbers from i on add up to no more than all
rest_sum : (xs : List ℕ) (i : ℕ) → sum (drop i xs) ≤ sum xs
unfolding sum
rest_sum xs zero = omega arith
rest_sum [] (suc i) = omega arith
rest_sum (x ∷ xs) (suc i) = omega (arith, rest_sum xs i)

-- so that what was told of them is small
pub told_small : {xs : List ℕ} {i later total told : ℕ} → PairsFrom xs i later total told → (total ≤ sum xs) × (told ≤ later * total)
told_small {xs} {i} {later} held =
    let rest : length (drop i xs) ≡ later = length-drop i xs ∙ omega (arith, held.place) in
    (rw held.adds (rest_sum xs i), rw (held.differ, held.adds, ← rest) (pairs_small (drop i xs)))
