-- The deviation: twice its part on either side of the mean, and 01's bound below it, with where it is reached. Assumes nothing.
use Rattle.std.specs.Prelude.{ℕ, suc, ◌+◌, ◌-◌, ◌*◌, ◌≤◌, ◌<◌, ◌≡◌, length, get_or}
use mathlib.Core.List.{List, [], ◌∷◌}
use Rattle.std.proofs.Math.Path.{refl}
use Rattle.std.proofs.Common.{sym}
use Rattle.std.proofs.Math.Decide.{dec_le}
use Rattle.std.proofs.Math.Nat.{mul-le-mul_left}
use native.Mathlib.Omega.{arith}
use Rattle.model.specs.Shares.{Ranges, Within, sum, sum_of}
use Rattle.model.specs.Shares.Within.{none, also}
use Rattle.model.specs.Figures.{deviation, deviation_bound}
use Rattle.model.specs.Levels.{levelled}
use Rattle.model.proofs.Laws.Lists.{within_length}
use Rattle.model.proofs.Laws.Levelled.{near_at, levelled_near, levelled_within, levelled_adds}

module _ (n total : ℕ) where
  -- the deviation is its part above the mean and its part below it
  parts : (xs : List ℕ)
      → deviation n total xs ≡ sum_of (λ x. n * x - total) xs + sum_of (λ x. total - n * x) xs
  unfolding deviation sum_of
  parts [] = refl
  parts (x ∷ xs) = omega (arith, parts xs)

  -- the two parts differ by as much as n times the sum of the shares and the total taken for each of them
  balance : (xs : List ℕ)
      → sum_of (λ x. n * x - total) xs + length xs * total ≡ sum_of (λ x. total - n * x) xs + n * sum xs
  unfolding sum sum_of
  balance [] = omega arith
  balance (x ∷ xs) = omega (arith, balance xs)

  -- the highs lie no further below the mean than the shares
  below_highs : {lows highs xs : List ℕ} → Within lows highs xs
      → sum_of (λ h. total - n * h) highs ≤ sum_of (λ x. total - n * x) xs
  unfolding sum_of
  below_highs none = omega arith
  below_highs (also low high w) = omega (arith, mul-le-mul_left n high, below_highs w)

  -- the lows lie no further above the mean than the shares
  above_lows : {lows highs xs : List ℕ} → Within lows highs xs
      → sum_of (λ l. n * l - total) lows ≤ sum_of (λ x. n * x - total) xs
  unfolding sum_of
  above_lows none = omega arith
  above_lows (also low high w) = omega (arith, mul-le-mul_left n low, above_lows w)

  -- where each share below its high is at the mean or above it, the shares lie no further below the mean than the highs
  at_highs : (v : ℕ) {lows highs xs : List ℕ} → total ≤ n * v → Within lows highs xs
      → ((i : ℕ) → i < length xs → get_or xs i 0 < get_or highs i 0 → v ≤ get_or xs i 0)
      → sum_of (λ x. total - n * x) xs ≤ sum_of (λ h. total - n * h) highs
  unfolding sum_of
  at_highs v mean none near = omega arith
  at_highs v mean (also {h} {x} low high w) near =
      let rest = at_highs v mean w (λ i inside. near (suc i) (omega arith)) in
      elim (dec_le h x) [
        | yes p ↦ omega (arith, rest, mul-le-mul_left n p)
        | no p ↦ omega (arith, rest, mul-le-mul_left n (near 0 (omega arith) (omega arith)))
      ]

  -- where each share above its low is at the mean or below it, the shares lie no further above the mean than the lows
  at_lows : (v : ℕ) {lows highs xs : List ℕ} → n * v ≤ total → Within lows highs xs
      → ((i : ℕ) → i < length xs → get_or lows i 0 < get_or xs i 0 → get_or xs i 0 ≤ v)
      → sum_of (λ x. n * x - total) xs ≤ sum_of (λ l. n * l - total) lows
  unfolding sum_of
  at_lows v mean none near = omega arith
  at_lows v mean (also {l} {x} low high w) near =
      let rest = at_lows v mean w (λ i inside. near (suc i) (omega arith)) in
      elim (dec_le x l) [
        | yes p ↦ omega (arith, rest, mul-le-mul_left n p)
        | no p ↦ omega (arith, rest, mul-le-mul_left n (near 0 (omega arith) (omega arith)))
      ]

-- the deviation is twice its part above the mean (001, theorem 1)
pub deviation_twice : (xs : List ℕ)
    → deviation (length xs) (sum xs) xs ≡ 2 * sum_of (λ x. length xs * x - sum xs) xs
deviation_twice xs = omega (arith, parts (length xs) (sum xs) xs, balance (length xs) (sum xs) xs)

-- and twice its part below the mean
pub deviation_twice_below : (xs : List ℕ)
    → deviation (length xs) (sum xs) xs ≡ 2 * sum_of (λ x. sum xs - length xs * x) xs
deviation_twice_below xs = omega (arith, parts (length xs) (sum xs) xs, balance (length xs) (sum xs) xs)

module _ {lows highs xs : List ℕ} (within : Within lows highs xs) where
  -- the deviation is at least twice the sum of S − n × high over the members where that is positive
  pub below_bound : 2 * sum_of (λ h. sum xs - length xs * h) highs ≤ deviation (length xs) (sum xs) xs
  below_bound = omega (arith, deviation_twice_below xs, below_highs (length xs) (sum xs) within)

  -- the deviation is at least twice the sum of n × low − S over the members where that is positive
  pub above_bound : 2 * sum_of (λ l. length xs * l - sum xs) lows ≤ deviation (length xs) (sum xs) xs
  above_bound = omega (arith, deviation_twice xs, above_lows (length xs) (sum xs) within)

  -- 01's bound below the deviation
  pub deviation_bound_lem : deviation_bound (length xs) (sum xs) lows highs ≤ deviation (length xs) (sum xs) xs
  deviation_bound_lem = omega (arith, below_bound, above_bound)

  -- when n divides S, shares near one level reach the bound (001, theorem 4)
  pub reaches_bound : (v q : ℕ)
      → ((i : ℕ) → i < length xs → get_or xs i 0 < get_or highs i 0 → v ≤ get_or xs i 0)
      → ((i : ℕ) → i < length xs → get_or lows i 0 < get_or xs i 0 → get_or xs i 0 ≤ suc v)
      → sum xs ≡ length xs * q
      → deviation (length xs) (sum xs) xs ≡ deviation_bound (length xs) (sum xs) lows highs
  reaches_bound v q near_highs near_lows divides =
      elim (dec_le q v) [
        | yes p ↦
            let mean : sum xs ≤ length xs * v = omega (arith, mul-le-mul_left (length xs) p) in
            omega (arith, deviation_twice_below xs, at_highs _ _ v mean within near_highs, below_bound, above_bound)
        | no p ↦
            let past : suc v ≤ q = omega arith in
            let mean : length xs * suc v ≤ sum xs = omega (arith, mul-le-mul_left (length xs) past) in
            omega (arith, deviation_twice xs, at_lows _ _ (suc v) mean within near_lows, below_bound, above_bound)
      ]

-- when n divides S, the levelled shares reach the bound (001, theorem 4)
pub levelled_reaches_bound : {lows highs : List ℕ} → Ranges lows highs → (total q : ℕ)
    → sum lows ≤ total → total ≤ sum highs → total ≡ length lows * q
    → deviation (length lows) total (levelled lows highs total) ≡ deviation_bound (length lows) total lows highs
levelled_reaches_bound {lows} {highs} ranges total q least greatest divides =
    let xs : List ℕ = levelled lows highs total in
    let within : Within lows highs xs = levelled_within ranges total in
    let adds : sum xs ≡ total = levelled_adds ranges total least greatest in
    let many : length xs ≡ length lows = sym (within_length within).0 in
    let near = near_at (levelled_near ranges total) in
    let divided : sum xs ≡ length xs * q = rw (adds, many) divides in
    let reached = reaches_bound within _ q (λ i inside. (near i inside).0) (λ i inside. (near i inside).1) divided in
    rw (many, adds) at reached
