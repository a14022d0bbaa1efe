-- Shares, deviations and squares of a group stay far below what a number holds. Assumes nothing.
use Rattle.std.specs.Prelude.{ℕ, suc, ◌+◌, ◌*◌, ◌≤◌, ◌<◌, List, ◌≡◌, length, get_or}
use Rattle.std.proofs.Math.Nat.{mul-le-mul}
use native.Mathlib.Omega.{arith}
use Rattle.model.specs.Shares.{Within, greatest_share, sum, sum_of, greatest_total, most_units}
use Rattle.model.specs.Figures.{apart, deviation}
use Rattle.model.specs.Levels.{clamp, growth}
use Rattle.model.proofs.Laws.Lists.{within_at, within_length, ranges_at}
use Rattle.model.proofs.Laws.Level.{growth_step, clamp_at_most}
use Rattle.model.proofs.Laws.Levelled.{within_sum_high}
use Rattle.model.proofs.Laws.Spread.{sum_of_bound}
use Rattle.model.specs.Sound.{SoundRanges}
use Rattle.model.proofs.Laws.Sound.{highs_small}

-- member i's share with a copy that it can take is at most the greatest
pub share_at_small : {lows highs : List ℕ} → SoundRanges lows highs → (i v base more : ℕ) → i < length lows
    → base ≡ clamp (get_or lows i 0) (get_or highs i 0) v → more ≤ growth (get_or lows i 0) (get_or highs i 0) v
    → base + more ≤ greatest_share
share_at_small {lows} {highs} sound i v base more h is_clamp can_take =
    let range = ranges_at sound.ranges i h in
    omega (arith, growth_step (get_or lows i 0) (get_or highs i 0) v range.0, clamp_at_most (get_or lows i 0) (get_or highs i 0) (suc v) range.0)

module _ {lows highs xs : List ℕ} (sound : SoundRanges lows highs) (within : Within lows highs xs) where
  -- shares in the ranges are at most the greatest
  pub share_small : (i : ℕ) → i < length xs → get_or xs i 0 ≤ greatest_share
  share_small i h = omega (arith, within_at within i h, ranges_at sound.ranges i (omega (arith, within_length within)))

  -- their sum is a total
  pub sum_small : sum xs ≤ greatest_total
  sum_small = omega (arith, within_sum_high within, highs_small sound)

  -- their squares add up to at most 256 times the greatest share's
  pub squares_small : sum_of (λ x. x * x) xs ≤ most_units * (greatest_share * greatest_share)
  squares_small =
      omega (
        arith,
        within_length within,
        sum_of_bound (λ x. x * x) (greatest_share * greatest_share) xs (λ i h. mul-le-mul (share_small i h) (share_small i h)),
      )

  -- their deviation from a total is at most 256 times the greatest total
  pub deviation_small : (total : ℕ) → total ≤ greatest_total → deviation (length lows) total xs ≤ most_units * greatest_total
  unfolding deviation
  deviation_small total small =
      omega (
        arith,
        within_length within,
        sum_of_bound (λ x. apart (length lows * x) total) greatest_total xs
            (λ i h. omega (arith, mul-le-mul sound.few (share_small i h))),
      )
