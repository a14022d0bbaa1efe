-- Both bounds are shares, and no sum grows past what all bounds add up to. Assumes nothing.
use Rattle.std.proofs.Common.{◌≡◌, ℕ, ◌+◌, ◌≤◌, List, ◌∷◌, length, mul-le-mul, arith}
use Rattle.std.proofs.lemmas.List.{nil_from_length}
use Rattle.model.specs.Shares.{Ranges, greatest_share, sum_of}
use Rattle.model.proofs.Laws.Lists.{ranges_length}
use Rattle.probe.specs.Inner.Sides.{above_mean, below_mean}
use Rattle.probe.specs.Laws.Sides.{bounds_small}
use Rattle.probe.proofs.sides.both_sides.Goals as goal
use Rattle.probe.proofs.sides.both_sides.Goals.{In-Some}

-- the first member's bounds, and the members after it
first : {l h : ℕ} {ls hs : List ℕ} → Ranges (l ∷ ls) (h ∷ hs) → (l ≤ greatest_share) × (h ≤ greatest_share) × Ranges ls hs
first (Ranges.also p q r) = (omega arith, q, r)

-- a part is added
added : (f : ℕ → ℕ) (xs : List ℕ) (x sum : ℕ) {all : ℕ} → sum + sum_of f (x ∷ xs) ≡ all → sum + f x + sum_of f xs ≡ all
unfolding sum_of
added f xs x sum e = omega (arith, e)

-- none is left
ended : (f : ℕ → ℕ) (xs : List ℕ) {sum all : ℕ} → sum + sum_of f xs ≡ all → length xs ≡ 0 → sum ≡ all
unfolding sum_of
ended f xs e none = omega (arith, rw (nil_from_length xs none) at e)

module _ (t : In-Some) where
  bounds : (t.in-Some.low.now ≤ greatest_share) × (t.in-Some.high.now ≤ greatest_share) × Ranges t.next.new.self.a.rest.now t.next.new.self.b.rest.now
  bounds = first (rw (t.in-Some.ensures.steps.0, t.in-Some.ensures.steps.1) at t.loop-low.invariant.ranges)

  above : t.loop-low.above + above_mean (length t.args.lows.now) t.args.total t.in-Some.low.now + sum_of (above_mean (length t.args.lows.now) t.args.total) t.next.new.self.a.rest.now
      ≡ sum_of (above_mean (length t.args.lows.now) t.args.total) t.args.lows.now
  above = added _ _ _ _ (rw t.in-Some.ensures.steps.0 at t.loop-low.invariant.lows_passed)

  below : t.loop-low.below + below_mean (length t.args.lows.now) t.args.total t.in-Some.high.now + sum_of (below_mean (length t.args.lows.now) t.args.total) t.next.new.self.b.rest.now
      ≡ sum_of (below_mean (length t.args.lows.now) t.args.total) t.args.highs.now
  below = added _ _ _ _ (rw t.in-Some.ensures.steps.1 at t.loop-low.invariant.highs_passed)

pub overflow_mul-count : goal.overflow_mul-count
overflow_mul-count c = omega (arith, mul-le-mul c.requires.few (bounds (goal.at.overflow_mul-count c).In-Some).0)

pub overflow_add-above : goal.overflow_add-above
overflow_add-above c = omega (arith, c.saturating_sub-above.ensures, above (goal.at.overflow_add-above c).In-Some, (bounds_small _ _ c.requires c.requires.few).0)

pub overflow_mul-count-in-loop-low : goal.overflow_mul-count-in-loop-low
overflow_mul-count-in-loop-low c = omega (arith, mul-le-mul c.requires.few (bounds (goal.at.overflow_mul-count-in-loop-low c).In-Some).1)

pub overflow_add-below : goal.overflow_add-below
overflow_add-below c = omega (arith, c.saturating_sub-below.ensures, below (goal.at.overflow_add-below c).In-Some, (bounds_small _ _ c.requires c.requires.few).1)

pub loop-low-preserved : goal.loop-low-preserved
loop-low-preserved c =
    let at = (goal.at.loop-low-preserved c).In-Some in
    record {
      ranges = (bounds at).2;
      lows_passed = rw c.saturating_sub-above.ensures (above at);
      highs_passed = rw c.saturating_sub-below.ensures (below at);
    }

pub returns : goal.returns
returns c =
    let inv = c.loop-low.invariant in
    let none : length c.loop-low.low-iterator.a.rest.now ≡ 0 = grind (arith, c.in-None.ensures.steps, ranges_length inv.ranges) in
    record {
      lows_above = ended _ _ inv.lows_passed none;
      highs_below = ended _ _ inv.highs_passed (omega (arith, none, ranges_length inv.ranges));
    }
