-- No copies need no bar but the greatest share. Assumes nothing.
use native.Mathlib.Omega.{arith}
use Rattle.model.proofs.Laws.Bars.{bar_none}
use Rattle.headroom.proofs.bar_for.Goals as goal

pub returns-then-left-eq0 : goal.returns-then-left-eq0
returns-then-left-eq0 c = record { bar = bar_none c.requires.has_takers.sound.ranges (omega arith); v_le_high = c.requires.has_takers.share }
