-- The bar lies between a number with enough members above it and one with no more than there are copies. Assumes nothing.
use native.Mathlib.Omega.{arith}
use mathlib.Core.Path.{sym}
use Rattle.model.proofs.Laws.Bars.{bar_exact, bar_between}
use Rattle.model.proofs.Laws.Headroom.{roomier_none}
use Rattle.headroom.proofs.find_bar.Goals as goal

pub loop-under-init : goal.loop-under-init
loop-under-init c =
    record {
      from = omega arith;
      enough = c.requires.enough;
      is = sym (roomier_none c.requires.sound.ranges c.args.v);
      few = omega arith;
      small = omega arith;
      ordered = c.requires.share;
    }

pub overflow_add-under : goal.overflow_add-under
overflow_add-under c = omega (arith, c.loop-under.invariant.ordered, c.loop-under.invariant.small)

pub count_above-count-requires : goal.count_above-count-requires
count_above-count-requires c = record { sound_ranges = c.requires.sound; v_le_other = omega (arith, c.loop-under.invariant.from) }

pub returns-then-count-left : goal.returns-then-count-left
returns-then-count-left c = record { bar = bar_exact (omega (arith, c.count_above-count.ensures)); v_le_high = omega (arith, c.loop-under.invariant.from) }

pub loop-under-preserved-then-left-count : goal.loop-under-preserved-then-left-count
loop-under-preserved-then-left-count c =
    let so_far = c.loop-under.invariant in
    record {
      from = omega (arith, so_far.from);
      enough = omega (arith, c.count_above-count.ensures);
      is = so_far.is;
      few = so_far.few;
      small = so_far.small;
      ordered = omega arith;
    }

pub loop-under-preserved : goal.loop-under-preserved
loop-under-preserved c =
    let so_far = c.loop-under.invariant in
    record {
      from = so_far.from;
      enough = so_far.enough;
      is = c.count_above-count.ensures;
      few = omega arith;
      small = omega (arith, so_far.small);
      ordered = omega arith;
    }

pub overflow_sub-result : goal.overflow_sub-result
overflow_sub-result c = omega (arith, c.loop-under.invariant.few)

pub returns : goal.returns
returns c = let found = c.loop-under.invariant in
    record { bar = bar_between (omega arith) found.enough found.is found.few; v_le_high = omega (arith, found.from, found.ordered) }
