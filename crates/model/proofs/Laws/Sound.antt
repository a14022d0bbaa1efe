-- Laws of sound lists: how large their sums are, and the levelled shares in them. Assumes nothing.
use Rattle.std.specs.Prelude.{ℕ, ◌*◌, ◌≤◌, true, leb, List, ◌≡◌, length}
use Rattle.std.proofs.Common.{leb-true, le-leb, sym}
use native.Mathlib.Omega.{arith}
use Rattle.model.specs.Shares.{Ranges, greatest_share, greatest_total, sum, most_units}
use Rattle.model.specs.Levels.{total_at, clamped, level, remainder, by_headroom, levelled}
use Rattle.model.specs.Plans.{has_shares}
use Rattle.model.specs.Running.{running}
use Rattle.model.proofs.Laws.Running.{running_ranges, running_few}
use Rattle.model.proofs.Laws.Tests.{both, both_left, both_right}
use Rattle.model.proofs.Laws.Lists.{ranges_length, within_length}
use Rattle.model.proofs.Laws.Levelled.{levelled_within}
use Rattle.model.proofs.Laws.Level.{total_at_cons, total_at_least, total_at_greatest, clamp_at_most, level_holds}
use Rattle.model.specs.Sound.{SoundRanges, HasShares}

-- what makes ranges sound
pub sound : {lows highs : List ℕ} → Ranges lows highs → length lows ≤ most_units → SoundRanges lows highs
sound ranges few = record { ranges = ranges; paired = ranges_length ranges; few = few }

-- the running members' ranges are sound too
pub running_sound : (marks : List ℕ) {lows highs : List ℕ} → SoundRanges lows highs → SoundRanges (running marks lows) (running marks highs)
running_sound marks {lows} all = sound (running_ranges marks all.ranges) (omega (arith, running_few marks lows, all.few))

-- T(v) is at most n times the greatest share
total_at_bound : {lows highs : List ℕ} → Ranges lows highs → (v : ℕ) → total_at lows highs v ≤ length lows * greatest_share
total_at_bound Ranges.none v = unfold total_at clamped sum in omega arith
total_at_bound (Ranges.also {l} {h} {ls} {hs} p q r) v =
    rw (total_at_cons l h ls hs v) (omega (arith, clamp_at_most l h v p, total_at_bound r v))

-- T(v), the sum of the lows and the sum of the highs are totals
module _ {lows highs : List ℕ} (sound : SoundRanges lows highs) where
  pub total_at_small : (v : ℕ) → total_at lows highs v ≤ greatest_total
  total_at_small v = omega (arith, total_at_bound sound.ranges v)

  pub lows_small : sum lows ≤ greatest_total
  lows_small = rw (← total_at_least sound.ranges) (total_at_small 0)

  pub highs_small : sum highs ≤ greatest_total
  highs_small = rw (← total_at_greatest sound.ranges) (total_at_small greatest_share)

-- where the test finds shares, they exist
pub has_shares_lem : {lows highs : List ℕ} → SoundRanges lows highs → (total : ℕ) → has_shares lows highs total ≡ true → HasShares lows highs total
has_shares_lem {lows} {highs} s total exist =
    record { sound = s; low = leb-true _ _ (both_left _ _ exist); high = leb-true _ _ (both_right (leb (sum lows) total) _ exist) }

-- and where they exist, the test finds them
pub shares_had : {lows highs : List ℕ} {total : ℕ} → HasShares lows highs total → has_shares lows highs total ≡ true
shares_had shared = both (le-leb _ _ shared.low) (le-leb _ _ shared.high)

-- T at the level is at most the total
pub level_within : {lows highs : List ℕ} {total : ℕ} → HasShares lows highs total → total_at lows highs (level lows highs total) ≤ total
level_within {lows} {highs} {total} shared =
    level_holds lows highs total (rw (total_at_least shared.sound.ranges) shared.low)

-- the shares at the level, with the copies left over handed out, are the levelled shares
pub levelled_is : (lows highs : List ℕ) (total v left : ℕ) → v ≡ level lows highs total → left ≡ remainder lows highs total
    → by_headroom lows highs v left ≡ levelled lows highs total
unfolding levelled
levelled_is lows highs total v left is_level is_remainder = rw (is_remainder, is_level)

-- there is one to each member
pub levelled_length : {lows highs : List ℕ} → SoundRanges lows highs → (total : ℕ) → length (levelled lows highs total) ≡ length lows
levelled_length s total = sym (within_length (levelled_within s.ranges total)).0
