-- The running members' ranges are narrowed at the front of the lists, and go back to their places. Assumes nothing.
use native.Mathlib.Omega.{arith}
use mathlib.Core.Path.{◌≡◌, sym, ◌∙◌}
use lib.ListN.{length, take}
use Rattle.model.specs.Running.{running}
use Rattle.model.proofs.Laws.Running.{marked_length, running_length, running_few}
use Rattle.model.proofs.Laws.Sound.{running_sound}
use Rattle.group.specs.Laws.Turns.{turn_restored}
use Rattle.group.proofs.running.narrow_packed.Goals as goal
use Rattle.group.proofs.running.narrow_packed.Goals.{After-pack}

pub pack-count-requires : goal.pack-count-requires
pack-count-requires c = (marked_length c.requires.marked).0

pub pack-requires : goal.pack-requires
pack-requires c = (marked_length c.requires.marked).1

-- both lists begin with the running members' numbers
module _ (c : After-pack) where
  front_highs : take c.pack-count.result c.pack.new.numbers ≡ running c.args.marks.now c.args.highs.now
  front_highs =
      let same : c.pack-count.result ≡ c.pack.result =
      c.pack-count.ensures.value ∙ sym (running_length c.args.marks.now c.args.highs.now c.args.lows.now c.requires.sound_ranges.paired) ∙ sym c.pack.ensures.value in
      rw same c.pack.ensures.numbers_after

  counts : c.pack-count.result ≡ length (running c.args.marks.now c.args.marks.now)
  counts = c.pack-count.ensures.value ∙ running_length c.args.marks.now c.args.lows.now c.args.marks.now (marked_length c.requires.marked).0

pub narrow_front-turn-requires : goal.narrow_front-turn-requires
narrow_front-turn-requires c =
    let few = running_few c.args.marks.now c.args.lows.now in
    record {
      sound_ranges = rw (c.pack-count.ensures.numbers_after, front_highs (goal.at.narrow_front-turn-requires c).After-pack) (running_sound c.args.marks.now c.requires.sound_ranges);
      count_in_bounds = omega (arith, c.pack-count.ensures.value, c.pack-count.auto.numbers, c.pack.auto.numbers, c.requires.sound_ranges.paired);
    }

pub unpack-requires : goal.unpack-requires
unpack-requires c =
    record {
      numbers_len = omega (arith, c.narrow_front-turn.auto.lows, c.pack-count.auto.numbers, (marked_length c.requires.marked).0);
      count_value = counts (goal.at.unpack-requires c).After-pack;
    }

pub unpack-requires-2 : goal.unpack-requires-2
unpack-requires-2 c =
    record {
      numbers_len = omega (arith, c.narrow_front-turn.auto.highs, c.pack.auto.numbers, (marked_length c.requires.marked).1);
      count_value = counts (goal.at.unpack-requires-2 c).After-pack;
    }

pub returns : goal.returns
returns c =
    turn_restored c.narrow_front-turn.result c.requires.marked c.requires.sound_ranges.ranges c.pack-count.ensures.numbers_after (front_highs (goal.at.returns c).After-pack)
    c.narrow_front-turn.ensures c.unpack.ensures c.unpack-2.ensures
