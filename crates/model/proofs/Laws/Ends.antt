-- How a search finds the ends of a narrowed range. Assumes nothing.
use Rattle.std.specs.Prelude.{ℕ, suc, ◌-◌, ◌≤◌, ◌<◌, true, false, List, ◌≡◌, length, get_or}
use Rattle.std.proofs.Common.{le_antisymm}
use native.Mathlib.Omega.{arith, by_contra}
use Rattle.model.specs.Shares.{Ranges}
use Rattle.model.specs.Ways.{evened}
use Rattle.model.specs.Plans.{has_plan, taken, narrowed_low, narrowed_high}
use Rattle.model.proofs.Laws.Narrowing.{kept_inside, kept_taken, taken_kept}
use Rattle.model.proofs.Laws.Pinned.{taken_plan, plan_taken}
use Rattle.model.proofs.Laws.Plans.{found_plan}
use Rattle.model.proofs.Laws.Tests.{clash}
use Rattle.model.specs.declared.Limits.{Limits}

module _ {lows highs : List ℕ} (ranges : Ranges lows highs) (total : ℕ) (limits : Limits) (found : has_plan lows highs total limits ≡ true) (i : ℕ) (below : i < length lows) where
  -- a value in the range is kept exactly where the group pinned to it has a plan
  pub taken_between : (v : ℕ) → get_or lows i 0 ≤ v → v ≤ get_or highs i 0 → taken lows highs total limits i v ≡ true
      → (narrowed_low lows highs total limits i ≤ v) × (v ≤ narrowed_high lows highs total limits i)
  taken_between v low high holds =
      let (xs, plan, value) = taken_plan ranges i below v low high holds in
      omega (arith, taken_kept ranges total limits plan i below)

  pub between_taken : (v : ℕ) → narrowed_low lows highs total limits i ≤ v → v ≤ narrowed_high lows highs total limits i
      → taken lows highs total limits i v ≡ true
  between_taken v low high =
      let (xs, plan, value) = kept_taken ranges total limits found i below v low high in
      rw value at (plan_taken ranges i below plan)

  -- the even share is kept
  pub evened_taken : taken lows highs total limits i (get_or (evened lows highs total) i 0) ≡ true
  evened_taken = plan_taken ranges i below (found_plan ranges total limits found)

  -- a value that is taken, the one before it not or none before it, is the narrowed low
  pub low_unique : (v : ℕ) → get_or lows i 0 ≤ v → v ≤ get_or highs i 0 → taken lows highs total limits i v ≡ true
      → ((w : ℕ) → suc w ≡ v → get_or lows i 0 ≤ w → taken lows highs total limits i w ≡ false)
      → narrowed_low lows highs total limits i ≡ v
  low_unique v low high holds before =
      let kept : (narrowed_low lows highs total limits i ≤ v) × (v ≤ narrowed_high lows highs total limits i) =
      taken_between v low high holds in
      le_antisymm kept.0 (by_contra v (narrowed_low lows highs total limits i) (λ less.
      clash (between_taken (v - 1) (omega arith) (omega arith))
      (before (v - 1) (omega arith) (omega (arith, kept_inside ranges total limits found i below)))))

  -- a value that is taken, the one after it not or none after it, is the narrowed high
  pub high_unique : (v : ℕ) → get_or lows i 0 ≤ v → v ≤ get_or highs i 0 → taken lows highs total limits i v ≡ true
      → (suc v ≤ get_or highs i 0 → taken lows highs total limits i (suc v) ≡ false)
      → narrowed_high lows highs total limits i ≡ v
  high_unique v low high holds after =
      let kept : (narrowed_low lows highs total limits i ≤ v) × (v ≤ narrowed_high lows highs total limits i) =
      taken_between v low high holds in
      le_antisymm (by_contra (narrowed_high lows highs total limits i) v (λ more.
      clash (between_taken (suc v) (omega arith) more)
      (after (omega (arith, kept_inside ranges total limits found i below))))) kept.1
