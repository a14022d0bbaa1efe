-- Each sum of the lows passed and those left is the sum over all lows, which are the shares at level 0. Assumes nothing.
use Rattle.std.proofs.Common.{ℕ, ◌+◌, ◌*◌, ◌≤◌, List, length, get_or, refl, arith}
use Rattle.model.specs.Shares.{greatest_share, sum_of}
use Rattle.model.proofs.Laws.Lists.{ranges_at}
use Rattle.breakpoints.specs.Laws.Sums.{Added, added_none, added_one, added_all, clamped_least}
use Rattle.breakpoints.specs.Laws.Tables.{Small, small_itself, small_square, clamped_small}
use Rattle.breakpoints.specs.Inner.Tables.{greatest_part, itself, square}
use Rattle.breakpoints.proofs.table.first_row.Goals as goal
use Rattle.breakpoints.proofs.table.first_row.Goals.{In-loop-low}

pub loop-low-init : goal.loop-low-init
loop-low-init c = (added_none _ _, added_none _ _)

-- one turn: the low is a share, and no sum grows past what all lows add up to
module _ (t : In-loop-low) where
  abbrev lows : List ℕ
  lows = t.args.lows.now

  abbrev i : ℕ
  i = t.loop-low.low-index

  share : get_or lows i 0 ≤ greatest_share
  share = omega (arith, ranges_at t.requires.ranges i (omega arith))

  fits : (f : ℕ → ℕ) → Small f → {sum : ℕ} → Added f lows i sum → sum + f (get_or lows i 0) ≤ 256 * greatest_part
  fits f small {sum} added =
      let all : sum_of f lows ≤ length lows * greatest_part =
      rw (clamped_least t.requires.ranges) at (clamped_small t.requires.ranges small 0) in
      omega (arith, (added_one f lows (omega arith) added).adds)

pub overflow_add-copies : goal.overflow_add-copies
overflow_add-copies c = omega (arith, fits (goal.at.overflow_add-copies c).In-loop-low itself small_itself c.loop-low.invariant.0)

pub square-squares-requires : goal.square-squares-requires
square-squares-requires c = omega (arith, share (goal.at.square-squares-requires c).In-loop-low)

pub overflow_add-squares : goal.overflow_add-squares
overflow_add-squares c =
    omega (arith, c.square-squares.ensures, fits (goal.at.overflow_add-squares c).In-loop-low square small_square c.loop-low.invariant.1)

pub loop-low-preserved : goal.loop-low-preserved
loop-low-preserved c =
    let inv = c.loop-low.invariant in (added_one _ _ (omega arith) inv.0, rw c.square-squares.ensures (added_one _ _ (omega arith) inv.1))

pub returns : goal.returns
returns c =
    let inv = c.loop-low.invariant in
    record {
      sums = record {
        share = omega arith;
        totals = rw (clamped_least c.requires.ranges) (added_all _ _ c.loop-low-test.false inv.0);
        squares = rw (clamped_least c.requires.ranges) (added_all _ _ c.loop-low-test.false inv.1);
        few_lows = omega arith;
        few_highs = omega arith;
      };
      at = refl;
      no_lows = refl;
      no_highs = refl;
    }
