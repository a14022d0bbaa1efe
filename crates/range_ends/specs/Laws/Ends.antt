-- The ends that the search finds are those of the narrowed range. Assumes nothing.
use Rattle.std.specs.Prelude.{ℕ, suc, ◌+◌, ◌≤◌, ◌<◌, min, Bool, true, false, List, ◌≢◌, ◌≡◌, length, get_or}
use Rattle.std.proofs.Common.{sym, ap, subst, ◌∙◌, arith}
use Rattle.model.specs.Shares.{pick, Ranges, greatest_share}
use Rattle.model.specs.Figures.{met}
use Rattle.model.specs.Levels.{clamp, growth}
use Rattle.model.specs.Ways.{HandsOut, topped}
use Rattle.model.specs.Plans.{Plan, taken, narrowed_low, narrowed_high}
use Rattle.model.proofs.Laws.Ends.{low_unique, high_unique}
use Rattle.model.proofs.Laws.Levelled.{topped_between, topped_adds}
use Rattle.model.proofs.Laws.Lists.{ranges_at, within_at, within_length}
use Rattle.model.proofs.Laws.Pinned.{plan_taken}
use Rattle.model.proofs.Laws.Plans.{found_plan}
use Rattle.model.proofs.Laws.Tests.{clash}
use Rattle.model.proofs.Laws.Given.{way_copy, way_none}
use Rattle.model.proofs.Laws.Ways.{way_within, ways_figures}
use Rattle.model.specs.declared.Limits.{Limits}
use Rattle.probe.specs.Inner.Pinned.{Reached}
use Rattle.probe.specs.Laws.Pinned.{reached_figures}
use Rattle.range_ends.specs.Inner.Tabled.{Tabled, HasPlan}
use Rattle.range_ends.specs.Inner.Edges.{Edge, Reaches, Approach, Planned}

module _ {lows highs : List ℕ} {total : ℕ} {limits : Limits} (has : HasPlan lows highs total limits)
    {m c w r : ℕ} (reached : Reached lows highs total m c w r) (i : ℕ) (below : i < length lows) where
  abbrev ranges : Ranges lows highs
  ranges = has.sound.ranges

  -- a group that has a plan gives member i what any way to hand out the copies left over at the level gives it
  way_planned : {xs : List ℕ} → HandsOut lows highs w r xs → {x : ℕ} → get_or xs i 0 ≡ x → Planned lows highs total limits i x
  way_planned {xs} way {x} is =
      let within = way_within ranges way in
      let range = within_at within i (omega (arith, within_length within)) in
      let found = found_plan ranges total limits has.found in
      let first : HandsOut lows highs w r (topped lows highs w r) = record { between = topped_between ranges w r; adds = topped_adds ranges w r reached.fits } in
      let plan : Plan lows highs total limits xs = record {
        within = within;
        adds = way.adds ∙ reached.holds;
        meets = ap (met limits) (ways_figures ranges way first (length lows) total ∙ sym (reached_figures ranges reached (length lows))) ∙ found.meets;
      } in
      record {
        has = has;
        here = below;
        low = omega (arith, range);
        high = omega (arith, range);
        passes = subst (λ (v : ℕ). taken lows highs total limits i v ≡ true) is (plan_taken ranges i below plan);
      }

  -- so, toward its low, the level moved into its range, and toward its high a copy more where it can take one of those left over
  pub near_planned : (up : Bool)
      → Planned lows highs total limits i (clamp (get_or lows i 0) (get_or highs i 0) w + min (pick up r 0) (growth (get_or lows i 0) (get_or highs i 0) w))
  near_planned true = let (xs, way, is) = way_copy ranges w r i below reached.fits in way_planned way is
  near_planned false = let (xs, way, is) = way_none ranges w r i below reached.spare in way_planned way (omega arith)

module _ {lows highs : List ℕ} {total : ℕ} {limits : Limits} {i share : ℕ} (planned : Planned lows highs total limits i share) where
  -- the member's range is one of shares
  range : (get_or lows i 0 ≤ get_or highs i 0) × (get_or highs i 0 ≤ greatest_share)
  range = ranges_at planned.has.sound.ranges i planned.here

  -- the ways from the share to the low and to the high
  module _ {table : List ℕ} (tabled : Tabled lows highs total limits table) where
    to_end : (end : ℕ) → end ≤ greatest_share → Approach lows highs table total limits i end share
    to_end end small = record {
      tabled = tabled;
      here = planned.here;
      small = small;
      share_small = omega (arith, range, planned.high);
      passes = planned.passes;
    }

    pub to_low : Approach lows highs table total limits i (get_or lows i 0) share
    to_low = to_end (get_or lows i 0) (omega (arith, range))

    pub to_high : Approach lows highs table total limits i (get_or highs i 0) share
    to_high = to_end (get_or highs i 0) range.1

  -- a low that is taken stays
  low_stays : taken lows highs total limits i (get_or lows i 0) ≡ true → get_or lows i 0 ≡ narrowed_low lows highs total limits i
  low_stays passes =
      sym (low_unique planned.has.sound.ranges total limits planned.has.found i planned.here (get_or lows i 0) (omega arith) range.0 passes
      (λ w next low. absurd (omega arith)))

  -- a high that is taken stays
  high_stays : taken lows highs total limits i (get_or highs i 0) ≡ true → get_or highs i 0 ≡ narrowed_high lows highs total limits i
  high_stays passes =
      sym (high_unique planned.has.sound.ranges total limits planned.has.found i planned.here (get_or highs i 0) range.0 (omega arith) passes
      (λ low. absurd (omega arith)))

  -- a value that is not taken is not the share
  not_share : (v : ℕ) → taken lows highs total limits i v ≡ false → v ≢ share
  not_share v fails same = clash planned.passes (ap (taken lows highs total limits i) (sym same) ∙ fails)

  -- from a low that is not taken, the search finds the narrowed low
  low_found : taken lows highs total limits i (get_or lows i 0) ≡ false
      → (r : ℕ) → Edge (taken lows highs total limits i) (get_or lows i 0) share r → r ≡ narrowed_low lows highs total limits i
  low_found fails r edge =
      let less : get_or lows i 0 < share = omega (arith, planned.low, not_share (get_or lows i 0) fails) in
      let place : (get_or lows i 0 ≤ edge.outer) × (edge.outer < r) × (r ≤ share) = edge.straddle.rising less in
      sym (low_unique planned.has.sound.ranges total limits planned.has.found i planned.here r (omega arith) (omega arith) edge.straddle.passes
      (λ w next low.
      let same : w ≡ edge.outer = omega arith in
      rw same edge.straddle.fails))

  -- from a high that is not taken, the search finds the narrowed high
  high_found : taken lows highs total limits i (get_or highs i 0) ≡ false
      → (r : ℕ) → Edge (taken lows highs total limits i) (get_or highs i 0) share r → r ≡ narrowed_high lows highs total limits i
  high_found fails r edge =
      let more : share < get_or highs i 0 = omega (arith, planned.high, not_share (get_or highs i 0) fails) in
      let place : (share ≤ r) × (r < edge.outer) × (edge.outer ≤ get_or highs i 0) = edge.straddle.falling more in
      let next : suc r ≡ edge.outer = omega arith in
      sym (high_unique planned.has.sound.ranges total limits planned.has.found i planned.here r (omega arith) (omega arith) edge.straddle.passes
      (λ high. rw next edge.straddle.fails))

  -- what the search toward the low reaches is the narrowed low
  pub low_reached : {r : ℕ} → Reaches (taken lows highs total limits i) (get_or lows i 0) share r → r ≡ narrowed_low lows highs total limits i
  low_reached (Reaches.whole passes) = low_stays passes
  low_reached (Reaches.part {r} fails edge) = low_found fails r edge

  -- and toward the high, the narrowed high
  pub high_reached : {r : ℕ} → Reaches (taken lows highs total limits i) (get_or highs i 0) share r → r ≡ narrowed_high lows highs total limits i
  high_reached (Reaches.whole passes) = high_stays passes
  high_reached (Reaches.part {r} fails edge) = high_found fails r edge
