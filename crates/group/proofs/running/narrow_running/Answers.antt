-- Where nobody is shut, the lists are narrowed as they are. Assumes nothing.
use mathlib.Core.Path.{sym, ◌∙◌}
use Rattle.group.specs.Laws.Turns.{turn_of_all}
use Rattle.group.proofs.running.narrow_running.Goals as goal

pub returns-then-running_count-marks : goal.returns-then-running_count-marks
returns-then-running_count-marks c =
    turn_of_all c.narrow_core.result c.requires.marked c.requires.sound_ranges.ranges (sym c.running_count.ensures ∙ c.if-running_count-marks.true)
    c.narrow_core.ensures c.narrow_core.auto.lows c.narrow_core.auto.highs
