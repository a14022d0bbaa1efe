-- What some way to hand out the copies left over gives a member: a copy that it can take, or none. Assumes nothing.
use Rattle.std.specs.Prelude.{ℕ, zero, suc, ◌+◌, ◌-◌, ◌≤◌, ◌<◌, min, List, ◌≡◌, refl, get_or}
use Rattle.std.proofs.Common.{ap, le_of_suc-le-suc, arith}
use Rattle.std.proofs.Math.Decide.{dec_lt}
use Rattle.std.proofs.Math.ListN.{length}
use Rattle.model.specs.Shares.{Ranges, Within}
use Rattle.model.specs.Levels.{clamp, clamped, total_at, growth}
use Rattle.model.specs.Ways.{HandsOut}
use Rattle.model.proofs.Laws.Headroom.{growth_most}
use Rattle.model.proofs.Laws.Level.{growth_step}
use Rattle.model.proofs.Laws.Levelled.{shares_exist, within_sum_high}
use Rattle.model.proofs.Laws.Lists.{ranges_at, sum_set, within_set}
use Rattle.model.proofs.Laws.Pinned.{pinned_ranges, unpin}

-- a range's low is a share in it
lows_within : {lows highs : List ℕ} → Ranges lows highs → Within lows highs lows
lows_within Ranges.none = Within.none
lows_within (Ranges.also {l = l} {h = h} p q r) = Within.also {l = l} {h = h} {x = l} (omega arith) p (lows_within r)

-- the share at v of member i
pub clamped_at : {lows highs : List ℕ} → Ranges lows highs → (v i : ℕ) → i < length lows
    → get_or (clamped lows highs v) i 0 ≡ clamp (get_or lows i 0) (get_or highs i 0) v
unfolding clamped
clamped_at Ranges.none v i below = absurd (omega arith)
clamped_at (Ranges.also p q r) v zero below = refl
clamped_at (Ranges.also p q r) v (suc i) below = clamped_at r v i (le_of_suc-le-suc below)

pub clamped_length : {lows highs : List ℕ} → Ranges lows highs → (v : ℕ) → length (clamped lows highs v) ≡ length lows
unfolding clamped
clamped_length Ranges.none v = refl
clamped_length (Ranges.also p q r) v = ap suc (clamped_length r v)

-- ranges from the shares at v to those at v + 1
clamped_ranges : {lows highs : List ℕ} → Ranges lows highs → (v : ℕ) → Ranges (clamped lows highs v) (clamped lows highs (suc v))
unfolding clamped
clamped_ranges Ranges.none v = Ranges.none
clamped_ranges (Ranges.also {l = l} {h = h} p q r) v =
    Ranges.also {l = clamp l h v} {h = clamp l h (suc v)} (omega arith) (omega arith) (clamped_ranges r v)

module _ {lows highs : List ℕ} (ranges : Ranges lows highs) (v left i : ℕ) (below : i < length lows) where
  abbrev low : ℕ
  low = clamp (get_or lows i 0) (get_or highs i 0) v

  abbrev high : ℕ
  high = clamp (get_or lows i 0) (get_or highs i 0) (suc v)

  -- a member gets any share between these in some way, as far as the copies go and the others can take the rest
  way_gives : (x : ℕ) → low ≤ x → x ≤ high → x ≤ low + left → total_at lows highs v + left + high ≤ total_at lows highs (suc v) + x
      → (xs : List ℕ) × HandsOut lows highs v left xs × (get_or xs i 0 ≡ x)
  unfolding total_at
  way_gives x from up_to few rest =
      let wide = clamped_ranges ranges v in
      let here : i < length (clamped lows highs v) = rw (clamped_length ranges v) below in
      let there : i < length (clamped lows highs (suc v)) = rw (clamped_length ranges (suc v)) below in
      let is_low = clamped_at ranges v i below in
      let is_high = clamped_at ranges (suc v) i below in
      let pinned = pinned_ranges wide i here x (omega (arith, ranges_at wide i here)) in
      let (xs, within, adds) = (shares_exist pinned (total_at lows highs v + left)).1
      (omega (arith, sum_set (clamped lows highs v) i x here), omega (arith, sum_set (clamped lows highs (suc v)) i x there)) in
      let inside = unpin wide i here (omega arith) (omega arith) within in
      (xs, record { between = inside.0; adds = adds }, inside.1)

  -- no member rises by more than all do
  own_rise : total_at lows highs v + high ≤ total_at lows highs (suc v) + low
  unfolding total_at
  own_rise =
      let wide = clamped_ranges ranges v in
      let here : i < length (clamped lows highs v) = rw (clamped_length ranges v) below in
      let own = within_set (lows_within wide) i (get_or (clamped lows highs (suc v)) i 0) (ranges_at wide i here).0 (omega arith) in
      omega (arith, within_sum_high own, sum_set (clamped lows highs v) i (get_or (clamped lows highs (suc v)) i 0) here, clamped_at ranges v i below, clamped_at ranges (suc v) i below)

  -- one that can take a copy has one in some way, where there are any
  pub way_copy : left ≤ total_at lows highs (suc v) - total_at lows highs v
      → (xs : List ℕ) × HandsOut lows highs v left xs × (get_or xs i 0 ≡ low + min left (growth (get_or lows i 0) (get_or highs i 0) v))
  way_copy fits =
      let step = growth_step (get_or lows i 0) (get_or highs i 0) v (ranges_at ranges i below).0 in
      way_gives (low + min left (growth (get_or lows i 0) (get_or highs i 0) v)) (omega arith) (omega arith) (omega arith) (omega (arith, own_rise))

  -- and has none in another, where there are too few for all
  pub way_none : (0 < left → left < total_at lows highs (suc v) - total_at lows highs v)
      → (xs : List ℕ) × HandsOut lows highs v left xs × (get_or xs i 0 ≡ low)
  way_none fewer =
      let step = growth_step (get_or lows i 0) (get_or highs i 0) v (ranges_at ranges i below).0 in
      way_gives low (omega arith) (omega arith) (omega arith)
      (elim (dec_lt 0 left) [
        | yes some ↦ omega (arith, fewer some, growth_most (get_or lows i 0) (get_or highs i 0) v)
        | no none ↦ omega (arith, own_rise)
      ])
