-- The shares of the members passed are written, and the bar tells those of the others. Assumes nothing.
use borrow.Author.Rules.{rules}
use native.Mathlib.Omega.{arith}
use mathlib.Core.Path.{◌≡◌}
use Prim.Native.Nat.{◌+◌, ◌-◌}
use lib.ListN.{length, get_or, drop}
use lib.Seq.{drop_at}
use Rattle.model.proofs.Laws.Bars.{BarTaken, at_fits, bar_taken, taken_most}
use Rattle.model.proofs.Laws.Bounds.{share_at_small}
use Rattle.model.proofs.Laws.Headroom.{growth_most}
use Rattle.model.proofs.Laws.Lists.{ranges_at}
use Rattle.model.proofs.Laws.Walk.{handing_none, handing_step, written_all}
use Rattle.levelling.proofs.shares.fill_plan.Goals as goal
use Rattle.levelling.proofs.shares.fill_plan.Goals.{After-one_above}

pub loop-i-init : goal.loop-i-init
loop-i-init c =
    (c.bar_for-found.ensures.v_le_high, search rules, handing_none c.bar_for-found.ensures.bar _)

-- what the member takes
taken : (c : After-one_above) → BarTaken (get_or c.args.lows.now c.loop-i.i 0) (get_or c.args.highs.now c.loop-i.i 0) c.args.v
    c.bar_for-found.result.high c.loop-i.rest (c.one_above.result + c.one_at-at.result) (c.loop-i.rest - c.one_at-at.result)
taken c =
    bar_taken (get_or c.args.lows.now c.loop-i.i 0) (get_or c.args.highs.now c.loop-i.i 0) c.args.v
    c.bar_for-found.result.high c.loop-i.rest c.loop-i.invariant.0
    (omega (arith, c.one_above.ensures, c.one_at-at.ensures)) (omega (arith, c.one_at-at.ensures))

pub overflow_add-more : goal.overflow_add-more
overflow_add-more c =
    omega (arith, taken_most (taken c), growth_most (get_or c.args.lows.now c.loop-i.i 0) (get_or c.args.highs.now c.loop-i.i 0) c.args.v)

pub clamp-requires : goal.clamp-requires
clamp-requires c = (ranges_at c.requires.has_takers.sound.ranges c.loop-i.i (omega arith)).0

pub overflow_add-plan : goal.overflow_add-plan
overflow_add-plan c =
    omega (
      arith,
      share_at_small c.requires.has_takers.sound c.loop-i.i c.args.v c.clamp.result (c.one_above.result + c.one_at-at.result)
          (omega arith) c.clamp.ensures (taken_most (taken (goal.at.overflow_add-plan c).After-one_above)),
    )

pub overflow_sub-rest : goal.overflow_sub-rest
overflow_sub-rest c =
    omega (
      arith,
      c.one_at-at.ensures,
      at_fits (get_or c.args.lows.now c.loop-i.i 0) (get_or c.args.highs.now c.loop-i.i 0) c.args.v c.bar_for-found.result.high c.loop-i.rest,
    )

pub loop-i-preserved : goal.loop-i-preserved
loop-i-preserved c =
    let so_far = c.loop-i.invariant in (
      so_far.0,
      so_far.1,
      handing_step c.args.lows.now c.args.highs.now c.loop-i.i (omega arith) (omega (arith, c.requires.has_takers.sound.paired)) c.args.v c.args.left
          _ c.loop-i.rest c.clamp.result (c.one_above.result + c.one_at-at.result) _ _ c.loop-i.plan
          (omega arith) c.clamp.ensures (taken (goal.at.loop-i-preserved c).After-one_above) so_far.2,
    )

pub returns : goal.returns
returns c =
    let n = length c.args.lows.now in
    let many : length c.bar_for-found.new.numbers ≡ n = search rules in
    rw (drop_at c.bar_for-found.new.numbers (drop n c.args.plan.now) n many) at
    (written_all c.args.lows.now c.args.highs.now c.args.v c.args.left c.loop-i.invariant.2.copies c.loop-i.i
    _ c.loop-i.plan (omega arith) c.loop-i.invariant.2.written)
