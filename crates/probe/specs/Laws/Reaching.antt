-- Which values of a member the others can make up for: only those can be taken, and they form a range. Assumes nothing.
use Rattle.std.specs.Prelude.{ℕ, ◌≤◌, ◌<◌, true, false, List, ◌≡◌, length, get_or}
use native.Mathlib.Omega.{arith, by_contra}
use Rattle.model.specs.Shares.{greatest_share, sum}
use Rattle.model.specs.Plans.{taken}
use Rattle.model.proofs.Laws.Tests.{clash}
use Rattle.model.specs.declared.Limits.{Limits}
use Rattle.probe.specs.declared.terms.Terms.{Terms}
use Rattle.breakpoints.specs.Inner.Distances.{most_pairs, Paired}
use Rattle.breakpoints.specs.Inner.Rows.{row_at, last_row}
use Rattle.breakpoints.specs.Inner.Tables.{SoundWithTotal, Breakpoints}
use Rattle.probe.specs.Laws.Pinned.{pinned, unpinned}
use Rattle.probe.specs.Inner.Probes.{pinned_total, InReach}
use Rattle.probe.specs.Inner.Terms.{Termed}
use Rattle.probe.specs.Inner.Verdicts.{Lookable}
use Rattle.probe.specs.Laws.Terms.{lookable}
use Rattle.probe.specs.Laws.Verdicts.{least_total, greatest_total_lem, too_much, too_little}

-- what lies between two values in reach is in reach
pub reach_between : {table : List ℕ} {last low high a b total : ℕ} → InReach table last low high a total → InReach table last low high b total
    → (m : ℕ) → a ≤ m → m ≤ b → InReach table last low high m total
unfolding pinned_total
reach_between from up_to m above below = record { least = omega (arith, up_to.least); greatest = omega (arith, from.greatest) }

module _ {lows highs table : List ℕ} {total : ℕ} (sound : SoundWithTotal lows highs total) (held : Breakpoints lows highs table) where
  -- a group that has shares is in reach itself
  shares_reach : sum lows ≤ total → total ≤ sum highs → InReach table (last_row table) 0 0 0 total
  shares_reach least greatest = record {
    least = rw (← least_total sound (unpinned sound.ranges) held) least;
    greatest = rw (← greatest_total_lem sound (unpinned sound.ranges) held) greatest;
  }

  -- so that it can be looked up
  pub shares_lookable : sum lows ≤ total → total ≤ sum highs → {limits : Limits} {terms : Terms} → Termed lows highs table total limits terms
      → (terms.pairs < most_pairs → Paired lows highs table) → Lookable lows highs table terms 0 0 0
  shares_lookable least greatest termed paired = lookable (record {
    sound = sound;
    held = held;
    termed = termed;
    asked = record { pinned_lows = lows; pinned_highs = highs; pin = unpinned sound.ranges };
    reach = rw termed.group.ended (shares_reach least greatest);
    paired = paired;
  })

  module _ (limits : Limits) (i : ℕ) (here : i < length lows) (w : ℕ) (share : w ≤ greatest_share) where
    -- a value too small for the others is not taken
    pub short_fails : pinned_total (row_at table (last_row table)) (get_or lows i 0) (get_or highs i 0) w < total → taken lows highs total limits i w ≡ false
    short_fails = too_little sound (pinned sound.ranges i w here share) held limits

    -- nor one too great
    pub long_fails : total < pinned_total (row_at table 0) (get_or lows i 0) (get_or highs i 0) w → taken lows highs total limits i w ≡ false
    long_fails = too_much sound (pinned sound.ranges i w here share) held limits

    -- so that a value taken is in reach
    pub taken_reach : taken lows highs total limits i w ≡ true → InReach table (last_row table) (get_or lows i 0) (get_or highs i 0) w total
    taken_reach passes = record {
      least = by_contra _ _ (λ long. clash passes (long_fails (omega arith)));
      greatest = by_contra _ _ (λ short. clash passes (short_fails (omega arith)));
    }
