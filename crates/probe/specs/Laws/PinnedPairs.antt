-- The pair differences of a group with one member pinned, at the level that its total reaches. Assumes nothing.
use Rattle.std.specs.Prelude.{ℕ, suc, ◌+◌, ◌-◌, ◌*◌, ◌≤◌, List, ◌≡◌, length}
use Rattle.std.proofs.Common.{ap, ◌∙◌, arith}
use Rattle.model.specs.Shares.{Ranges, sum_of, most_units}
use Rattle.model.specs.Figures.{apart, pairs}
use Rattle.model.specs.Levels.{clamp, clamped}
use Rattle.model.specs.Ways.{topped}
use Rattle.model.proofs.Laws.Levelled.{topped_between, topped_adds}
use Rattle.breakpoints.specs.declared.distances.Distances.{Distances}
use Rattle.breakpoints.specs.Inner.Distances.{most_pairs, LowsPassed, DistancesAt}
use Rattle.probe.specs.Inner.Pairs.{shares_above, WithOver, OverGiven}
use Rattle.breakpoints.specs.Inner.Distances.{above_level}
use Rattle.probe.specs.Inner.Pinned.{Pin, Reached}
use Rattle.breakpoints.specs.Laws.Distances.{far_up}
use Rattle.breakpoints.specs.Laws.Moved.{pairs_moved, distances_up}
use Rattle.breakpoints.specs.Laws.PairRows.{clamped_many}
use Rattle.breakpoints.specs.Laws.Sums.{between_sum}

module _ {lows highs lows' highs' : List ℕ} {low high v : ℕ} (ranges : Ranges lows highs) (pin : Pin lows highs low high v lows' highs') (w : ℕ) where
  -- the value in place of the member's own share
  pub value_pairs : pairs (clamped lows' highs' w) + (sum_of (apart (clamp low high w)) (clamped lows highs w) + apart (clamp low high w) v)
      ≡ pairs (clamped lows highs w) + sum_of (apart v) (clamped lows highs w)
  value_pairs =
      let once : (f : ℕ → ℕ) → sum_of f (clamped lows' highs' w) + 1 * f (clamp low high w) ≡ sum_of f (clamped lows highs w) + 1 * f v =
      (λ f. omega (arith, pin.sums f w)) in
      omega (arith, pairs_moved (clamped lows' highs' w) (clamped lows highs w) 1 (clamp low high w) v once)

  -- shares above the level: the lows that are not passed, with the value in place of the member's own
  pub above_level_lem : {m a : ℕ} → m ≤ w → LowsPassed lows m (suc w) a
      → sum_of (above_level w) (clamped lows' highs' w) + above_level w (clamp low high w) + a ≡ length lows + above_level w v
  above_level_lem {m} {a} from passed =
      let step : suc w - m ≡ suc (w - m) = omega arith in
      omega (
        arith,
        pin.sums (above_level w) w,
        clamped_many ranges w,
        distances_up w (clamped lows highs w),
        far_up ranges w (suc w) (omega arith),
        far_up ranges w w (omega arith),
        passed.sums w from (omega arith),
        rw step at (passed.sums (suc w) (omega arith) (omega arith)),
      )

  -- the copies left over, one each
  pub topped_pairs : {total m c r : ℕ} → Reached lows' highs' total m c w r
      → pairs (topped lows' highs' w r) + (r * r + 2 * (r * sum_of (above_level w) (clamped lows' highs' w))) ≡ pairs (clamped lows' highs' w) + r * length lows
  topped_pairs {r = r} reached =
      let moves : (f : ℕ → ℕ) → sum_of f (topped lows' highs' w r) + r * f w ≡ sum_of f (clamped lows' highs' w) + r * f (suc w) =
      (λ f. between_sum f pin.ranges w (topped_between pin.ranges w r) r (topped_adds pin.ranges w r reached.fits)) in
      let one : apart w (suc w) ≡ 1 = omega arith in
      let many : length (clamped lows' highs' w) ≡ length lows = clamped_many pin.ranges w ∙ pin.count in
      omega (
        arith,
        rw one at (pairs_moved (topped lows' highs' w r) (clamped lows' highs' w) r w (suc w) moves),
        ap (λ (t : ℕ). r * t) (rw many at (distances_up w (clamped lows' highs' w))),
      )

-- what is computed of the value and of the member's own share
pub value_told : {lows highs lows' highs' : List ℕ} {low high v w own near far gap : ℕ} {here : Distances} → Ranges lows highs → Pin lows highs low high v lows' highs'
    → DistancesAt lows highs w here → own ≡ clamp low high w → near ≡ sum_of (apart own) (clamped lows highs w) → far ≡ sum_of (apart v) (clamped lows highs w) → gap ≡ apart own v
    → pairs (clamped lows' highs' w) + (near + gap) ≡ here.pairs + far
value_told {w = w} ranges pin here is_own is_near is_far is_gap = rw (is_near, is_far, is_gap, is_own, here.differ) (value_pairs ranges pin w)

-- what is left of a sum
left_over : (s own passed count value : ℕ) → s + own + passed ≡ count + value → (s ≡ count + value - (passed + own)) × (passed + own ≤ count + value)
left_over s own passed count value all = (omega arith, omega arith)

-- and of the copies left over
module _ {lows highs lows' highs' : List ℕ} {low high v w m passed r before total mark moving : ℕ} (ranges : Ranges lows highs) (pin : Pin lows highs low high v lows' highs')
    (from : m ≤ w) (lows_up : LowsPassed lows m (suc w) passed) (reached : Reached lows' highs' total mark moving w r) (is : before ≡ pairs (clamped lows' highs' w)) where
  -- as many shares are above the level as are computed
  all_above : (sum_of (above_level w) (clamped lows' highs' w) ≡ shares_above (length lows) passed low high v w)
      × (passed + above_level w (clamp low high w) ≤ length lows + above_level w v)
  all_above = left_over _ _ _ _ _ (above_level_lem ranges pin w from lows_up)

  handed : pairs (topped lows' highs' w r) + r * (r + 2 * shares_above (length lows) passed low high v w) ≡ before + r * length lows
  handed = rw (← all_above.0, is) (omega (arith, topped_pairs ranges pin w reached))

  pub over_told : {pairs_with : ℕ} → WithOver (length lows) passed low high v w r before pairs_with → pairs_with ≡ pairs (topped lows' highs' w r)
  over_told told = omega (arith, told.is, handed)

  pub over_given : length lows ≤ most_units → r ≤ most_units → before ≤ most_pairs → OverGiven (length lows) passed low high v w r before
  over_given few few_over small = record {
    few = few;
    few_passed = lows_up.few;
    ordered = pin.ordered;
    few_over = few_over;
    small = small;
    above = all_above.1;
    fits = omega (arith, handed);
  }

-- nothing is left over
pub none_told : {lows highs lows' highs' : List ℕ} {low high v w r before total mark moving : ℕ} → Ranges lows highs → Pin lows highs low high v lows' highs'
    → Reached lows' highs' total mark moving w r → r ≡ 0 → before ≡ pairs (clamped lows' highs' w) → before ≡ pairs (topped lows' highs' w r)
none_told {w = w} ranges pin reached none is = rw none (omega (arith, is, rw none at (topped_pairs ranges pin w reached)))

-- the same with the count and the lows passed by other names
pub given_as : {count n passed lows low high v w r before : ℕ} → count ≡ n → lows ≡ passed → OverGiven n passed low high v w r before → OverGiven count lows low high v w r before
given_as same_count same_lows given = rw (same_count, same_lows) given

pub over_as : {count n passed lows low high v w r before told : ℕ} → count ≡ n → lows ≡ passed → WithOver count lows low high v w r before told → WithOver n passed low high v w r before told
over_as same_count same_lows held = rw (← same_count, ← same_lows) held
